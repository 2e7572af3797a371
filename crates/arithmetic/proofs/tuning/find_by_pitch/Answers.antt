-- `tuning::find_by_pitch` meets its contract.
use Rattle.arithmetic.specs.Refusal.{pitch_out_of_range}
use Rattle.arithmetic.specs.Pitch.{is_pitch, detuning_of}
use Rattle.arithmetic.specs.Nearest.{nearest, nearest_note, nearest_rule}
use Rattle.arithmetic.specs.Outcome.{value}
use Rattle.arithmetic.proofs.Rules.Outcomes.{refused_at, value_at, passed_of_value, hands_on_by}
use Rattle.arithmetic.proofs.tuning.find_by_pitch.Goals as goal

pub returns-in_err-pitch : goal.returns-in_err-pitch
unfolding nearest_rule
returns-in_err-pitch c =
    hands_on_by nearest c.from_residual.result _ c.from_residual.ensures.1 (refused_at pitch_out_of_range (is_pitch c.args.pitch.hz) _ c.in_err-pitch.ensures _)

pub nearest_place-place-requires : goal.nearest_place-place-requires
nearest_place-place-requires c = let p = passed_of_value pitch_out_of_range (is_pitch c.args.pitch.hz) _ c.in_ok-pitch.ensures in rw p.1 p.0

pub returns : goal.returns
unfolding nearest_rule detuning_of
returns c =
    value_at pitch_out_of_range (is_pitch c.args.pitch.hz) _ c.in_ok-pitch.ensures (λ hz. value (nearest_note hz, detuning_of hz (nearest_note hz))) _ (cc)
