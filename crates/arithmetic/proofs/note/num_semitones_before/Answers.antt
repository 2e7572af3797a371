-- `note::num_semitones_before` meets its contract.
use native.Mathlib.Omega.{arith}
use lib.IntN.{◌-ℤ◌}
use Rattle.std.proofs.lemmas.Int.{to_z-of_z}
use Rattle.arithmetic.specs.Outcome.{value, refuse◌unless◌then◌}
use Rattle.arithmetic.specs.Refusal.{note_out_of_range}
use Rattle.arithmetic.specs.Note.{is_note, before_rule}
use Rattle.arithmetic.proofs.Rules.Outcomes.{hands_on}
use Rattle.arithmetic.proofs.Notes.Bounds.{at_no_note, at_note, note_fits, difference_fits}
use Rattle.arithmetic.proofs.note.num_semitones_before.Goals as goal

pub returns-in_err-note : goal.returns-in_err-note
unfolding before_rule
returns-in_err-note c = hands_on c.from_residual.result _ c.from_residual.ensures.1 (at_no_note c.args.note c.ranges.note c.in_err-note.ensures _)

pub returns-in_err-other : goal.returns-in_err-other
unfolding before_rule
returns-in_err-other c =
    hands_on c.from_residual-in_err-other.result _ c.from_residual-in_err-other.ensures.1
    (at_note c.args.note c.ranges.note c.in_ok-note.ensures (λ y. refuse note_out_of_range unless is_note c.args.other then value (c.args.other -ℤ y)) _
    (at_no_note c.args.other c.ranges.other c.in_err-other.ensures _))

pub returns : goal.returns
unfolding before_rule
returns c =
    let y = c.in_ok-note.note in
    let z = c.in_ok-other.other in
    let f = note_fits y.number y.is_note in
    let g = note_fits z.number z.is_note in
    let d = difference_fits y.number z.number y.is_note z.is_note in
    at_note c.args.note c.ranges.note c.in_ok-note.ensures (λ y. refuse note_out_of_range unless is_note c.args.other then value (c.args.other -ℤ y)) _
    (at_note c.args.other c.ranges.other c.in_ok-other.ensures (λ z. value (z -ℤ y.number)) _ (grind (arith, to_z-of_z)))
