-- `answer::play_line`: the tuner plays the line's event.
use Rattle.std.proofs.Common.{refl, ap}
use Rattle.channels.specs.Outcome.{value}
use Rattle.arithmetic.proofs.Rules.Outcomes.{hands_on}
use Rattle.senders.specs.Jit.{view}
use Rattle.console_lines.proofs.Steps.Playing.{event_meets, malformed_meets}
use Rattle.console_lines.proofs.answer.play_line.Goals as goal

pub returns-in_err-parsed : goal.returns-in_err-parsed
returns-in_err-parsed c = malformed_meets (view c.args.tuner.now) c.in_err-parsed.ensures (hands_on c.from_residual.result _ c.from_residual.ensures.1 refl)

pub returns-in_err-play : goal.returns-in_err-play
returns-in_err-play c =
    event_meets (view c.args.tuner.now) c.in_ok-parsed.parsed c.in_ok-parsed.ensures c.pitch_of.result c.pitch_of.ensures c.in_err-play.ensures
    (hands_on c.from_residual-in_err-play.result _ c.from_residual-in_err-play.ensures.1 refl)

pub returns : goal.returns
returns c =
    event_meets (view c.args.tuner.now) c.in_ok-parsed.parsed c.in_ok-parsed.ensures c.pitch_of.result c.pitch_of.ensures c.in_ok-play.ensures
    (ap value c.len.ensures)
