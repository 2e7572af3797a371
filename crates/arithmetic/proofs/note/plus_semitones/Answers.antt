-- `note::plus_semitones` meets its contract.
use mathlib.Core.Path.{◌≡◌, ap, ◌∙◌}
use lib.IntN.{◌+ℤ◌}
use mir.Syntax.{w32}
use mir.Val.{to_z, of_z}
use Rattle.std.proofs.lemmas.Int.{to_z-of_z}
use Rattle.arithmetic.specs.Outcome.{value}
use Rattle.arithmetic.specs.Note.{plus_rule, note_rule}
use Rattle.arithmetic.proofs.Rules.Outcomes.{hands_on}
use Rattle.arithmetic.proofs.Notes.Bounds.{at_no_note, at_note, note_fits, note_rule-saturated}
use Rattle.arithmetic.proofs.note.plus_semitones.Goals as goal
use Rattle.arithmetic.proofs.note.plus_semitones.Goals.{After-saturating_add}

pub returns-in_err-note : goal.returns-in_err-note
unfolding plus_rule
returns-in_err-note c = hands_on c.from_residual.result _ c.from_residual.ensures.1 (at_no_note c.args.note c.ranges.note c.in_err-note.ensures _)

-- what the sum as cut off is answered
answered : (c : After-saturating_add)
    → note_rule (to_z w32 (of_z w32 c.saturating_add.result)) ≡ note_rule (c.before.in_ok-note.note.number +ℤ c.before.before.before.before.args.num_semitones)
answered c =
    let n = c.before.in_ok-note.note in
    let s = c.before.before.before.before in
    rw (to_z-of_z w32 c.saturating_add.result (record { sfits = c.saturating_add.type_inv }))
    (rw (c.saturating_add.ensures, to_z-of_z w32 n.number (note_fits n.number n.is_note), to_z-of_z w32 s.args.num_semitones s.ranges.num_semitones)
    (note_rule-saturated (n.number +ℤ s.args.num_semitones)))

pub returns-in_err-sum : goal.returns-in_err-sum
unfolding plus_rule note_rule
returns-in_err-sum c =
    hands_on c.from_residual-in_err-sum.result _ c.from_residual-in_err-sum.ensures.1
    (at_note c.args.note c.ranges.note c.in_ok-note.ensures (λ z. note_rule (z +ℤ c.args.num_semitones)) _
    (c.in_err-sum.ensures ∙ answered (goal.at.returns-in_err-sum c).After-saturating_add))

pub returns : goal.returns
unfolding plus_rule note_rule
returns c =
    let m = c.in_ok-sum.sum in
    at_note c.args.note c.ranges.note c.in_ok-note.ensures (λ z. note_rule (z +ℤ c.args.num_semitones)) _
    (ap value (to_z-of_z w32 m.number (note_fits m.number m.is_note)) ∙ c.in_ok-sum.ensures ∙ answered (goal.at.returns c).After-saturating_add)
