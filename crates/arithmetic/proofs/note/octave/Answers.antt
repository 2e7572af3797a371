-- `note::octave` meets its contract.
use native.Mathlib.Omega.{arith}
use mir.Syntax.{w32}
use mir.Val.{SFits}
use Rattle.std.proofs.lemmas.Int.{to_z-of_z}
use Rattle.arithmetic.specs.Outcome.{value}
use Rattle.arithmetic.specs.Note.{octave_of, octave_rule}
use Rattle.arithmetic.proofs.Rules.Outcomes.{hands_on}
use Rattle.arithmetic.proofs.Numbers.Quotients.{div_euclid_is}
use Rattle.arithmetic.proofs.Notes.Bounds.{at_no_note, at_note, note_fits, octave_fits}
use Rattle.arithmetic.proofs.note.octave.Goals as goal

pub returns-in_err-note : goal.returns-in_err-note
unfolding octave_rule
returns-in_err-note c = hands_on c.from_residual.result _ c.from_residual.ensures.1 (at_no_note c.args.note c.ranges.note c.in_err-note.ensures _)

pub returns : goal.returns
unfolding octave_rule
returns c =
    let n = c.in_ok-note.note in
    let f = note_fits n.number n.is_note in
    let g = octave_fits n.number n.is_note in
    let h : SFits w32 c.div_euclid.result = record { sfits = c.div_euclid.type_inv } in
    at_note c.args.note c.ranges.note c.in_ok-note.ensures (λ z. value (octave_of z)) _ (grind (arith, to_z-of_z, div_euclid_is))
