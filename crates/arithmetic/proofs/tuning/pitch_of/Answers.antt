-- `tuning::pitch_of` meets its contract.
use mathlib.Core.Path.{ap, ◌∙◌}
use Rattle.arithmetic.specs.Outcome.{value}
use Rattle.arithmetic.specs.Pitch.{pitch_of, pitch_rule}
use Rattle.arithmetic.proofs.Rules.Outcomes.{hands_on}
use Rattle.arithmetic.proofs.Notes.Bounds.{at_no_note, at_note}
use Rattle.arithmetic.proofs.tuning.pitch_of.Goals as goal

pub returns-in_err-note : goal.returns-in_err-note
unfolding pitch_rule
returns-in_err-note c = hands_on c.from_residual.result _ c.from_residual.ensures.1 (at_no_note c.args.note c.ranges.note c.in_err-note.ensures _)

pub returns : goal.returns
unfolding pitch_rule
returns c = at_note c.args.note c.ranges.note c.in_ok-note.ensures (λ z. value (pitch_of z)) _ (ap value (c.as_hz.ensures ∙ c.note_pitch.ensures))
