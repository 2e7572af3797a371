-- `step::Console::lengthen`: the line that has begun is extended.
use Rattle.std.proofs.Common.{◌≡◌, length, ap, arith}
use Rattle.std.proofs.lemmas.List.{length-take}
use Rattle.senders.specs.Jit.{view}
use Rattle.console_lines.specs.ConsoleState.{begun_of}
use Rattle.console_lines.proofs.step.Console.lengthen.Goals as goal

pub returns-clause-longer : goal.returns-clause-longer
returns-clause-longer c = ap (λ l. record { tuner = view c.args.self.now.tuner; begun = l }) c.extend.ensures

pub returns-clause-small : goal.returns-clause-small
unfolding begun_of
returns-clause-small c =
    let line = c.args.self.now.begun in
    let long : length line.bytes ≡ 65 = omega arith in
    omega (arith, length-take line.count line.bytes)
