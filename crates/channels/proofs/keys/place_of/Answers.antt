-- `keys::place_of` meets its contract, by whether the record has a note.
use Rattle.std.proofs.Common.{◌≡◌, ℤ, true, subst}
use Rattle.arithmetic.specs.Note.{is_note}
use Rattle.channels.specs.Places.{note_of, place}
use Rattle.channels.proofs.Records.{note_read, no_note_tried, note_tried, place_none, place_found}
use Rattle.channels.proofs.keys.place_of.Goals as goal

pub returns-in_err-note : goal.returns-in_err-note
unfolding place
returns-in_err-note c =
    let tried = rw (c.note_of.ensures, note_read c.args.raw) at c.try_from.ensures in
    rw c.from_residual.ensures (place_none c.args.raw (no_note_tried (note_of c.args.raw) c.try_from.result tried c.in_err-note.ensures.value))

pub returns : goal.returns
unfolding place
returns c =
    let n = c.in_ok-note.note in
    let tried = rw (c.note_of.ensures, note_read c.args.raw) at c.try_from.ensures in
    let same : n.number ≡ note_of c.args.raw = note_tried (note_of c.args.raw) n c.try_from.result tried c.in_ok-note.ensures.value in
    rw same (place_found c.args.raw (subst (λ (z : ℤ). is_note z ≡ true) same n.is_note))
