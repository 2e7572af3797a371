-- `step::BegunLine::extend`: as much is kept as there is room for.
use Rattle.std.proofs.Common.{◌≡◌, length, arith}
use Rattle.console_lines.specs.ConsoleState.{begun_of}
use Rattle.console_lines.proofs.Steps.Ends.{extended}
use Rattle.console_lines.proofs.step.BegunLine.extend.Goals as goal

pub returns : goal.returns
unfolding begun_of
returns c =
    let line = c.args.self.now in
    let long : length line.bytes ≡ 65 = omega arith in
    extended line.bytes c.args.more.now line.count c.min-count.result c.min-kept.result _ long c.min-count.ensures c.min-kept.ensures
    c.copy_from_slice.ensures.after
