-- `step::Console::finish`: a line that has begun is ended.
use Rattle.std.proofs.Common.{refl, arith}
use Rattle.std.proofs.lemmas.Bool.Decides.{nat_tests}
use Rattle.console_lines.specs.ConsoleState.{view as console_view}
use Rattle.console_lines.proofs.Steps.Ends.{finish_nothing, finish_some}
use Rattle.console_lines.proofs.step.Console.finish.Goals as goal

pub returns-then-is_empty : goal.returns-then-is_empty
returns-then-is_empty c =
    finish_nothing {view = console_view} (console_view c.args.self.now) refl (grind (arith, nat_tests))

pub returns : goal.returns
returns c = rw (finish_some (console_view c.args.self.now) (grind (arith, nat_tests))) c.end_line.ensures
