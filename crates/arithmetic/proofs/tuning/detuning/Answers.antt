-- `tuning::detuning` meets its contract.
use mathlib.Core.Path.{ap}
use Rattle.arithmetic.specs.Outcome.{value, refuse◌unless◌then◌}
use Rattle.arithmetic.specs.Refusal.{pitch_out_of_range, note_out_of_range}
use Rattle.arithmetic.specs.Note.{is_note}
use Rattle.arithmetic.specs.Pitch.{is_pitch, detuning_of, detuning_rule}
use Rattle.arithmetic.proofs.Rules.Outcomes.{refused_at, value_at, hands_on}
use Rattle.arithmetic.proofs.Notes.Bounds.{at_no_note, at_note}
use Rattle.arithmetic.proofs.tuning.detuning.Goals as goal

pub returns-in_err-pitch : goal.returns-in_err-pitch
unfolding detuning_rule
returns-in_err-pitch c =
    hands_on c.from_residual.result _ c.from_residual.ensures.1 (refused_at pitch_out_of_range (is_pitch c.args.pitch.hz) _ c.in_err-pitch.ensures _)

pub returns-in_err-note : goal.returns-in_err-note
unfolding detuning_rule
returns-in_err-note c =
    hands_on c.from_residual-in_err-note.result _ c.from_residual-in_err-note.ensures.1
    (value_at pitch_out_of_range (is_pitch c.args.pitch.hz) _ c.in_ok-pitch.ensures
    (λ hz. refuse note_out_of_range unless is_note c.args.note then value (detuning_of hz c.args.note)) _
    (at_no_note c.args.note c.ranges.note c.in_err-note.ensures _))

pub returns : goal.returns
unfolding detuning_rule
returns c =
    value_at pitch_out_of_range (is_pitch c.args.pitch.hz) _ c.in_ok-pitch.ensures
    (λ hz. refuse note_out_of_range unless is_note c.args.note then value (detuning_of hz c.args.note)) _
    (at_note c.args.note c.ranges.note c.in_ok-note.ensures (λ z. value (detuning_of c.in_ok-pitch.pitch.hz z)) _ (ap value c.detuning_from.ensures))
