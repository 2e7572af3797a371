-- `step::Console::step`: what the call does is what it has taken and written, and then what it does with the rest of the piece.
use Rattle.std.proofs.Common.{◌-◌, length}
use Rattle.console_lines.specs.ConsoleState.{view}
use Rattle.console_lines.proofs.Steps.Progress.{Progress}
use Rattle.console_lines.proofs.step.Console.step.Given as goal

abbrev pub invariant-loop-n : goal.invariant-loop-n
invariant-loop-n l = Progress (view l.initial.self) l.piece l.initial.out (view l.self) l.used l.written l.out

abbrev pub decreases-loop-n : goal.decreases-loop-n
decreases-loop-n l = length l.piece - l.used
