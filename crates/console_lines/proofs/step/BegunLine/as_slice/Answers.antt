-- `step::BegunLine::as_slice`: a count over 65 is read as 65.
use Rattle.std.proofs.Common.{◌≡◌, length, arith}
use Rattle.console_lines.specs.ConsoleState.{begun_of}
use Rattle.console_lines.proofs.Steps.Ends.{kept_all}
use Rattle.console_lines.proofs.step.BegunLine.as_slice.Goals as goal

pub returns : goal.returns
unfolding begun_of
returns c =
    let line = c.args.self.now in
    let long : length line.bytes ≡ 65 = omega arith in
    kept_all line.bytes line.count c.min.result long c.min.ensures
