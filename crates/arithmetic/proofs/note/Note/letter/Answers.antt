-- `Note::letter` meets its contract.
use mir.Syntax.{w32}
use Rattle.std.proofs.lemmas.Int.{to_z-of_z}
use Rattle.arithmetic.proofs.Notes.Bounds.{note_fits}
use Rattle.arithmetic.proofs.Numbers.Quotients.{rem_euclid_is}
use Rattle.arithmetic.proofs.note.Note.letter.Goals as goal

pub returns : goal.returns
returns c =
    let n = c.args.self in
    rw (
      to_z-of_z w32 _ (record { sfits = c.rem_euclid.type_inv }),
      c.rem_euclid.ensures.value,
      to_z-of_z w32 n.number (note_fits n.number n.is_note),
      rem_euclid_is n.number _,
    )
