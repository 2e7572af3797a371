-- `keys::record_of` meets its contract, by whether the number is a note.
use Rattle.std.proofs.Common.{◌≡◌, false, w32}
use Rattle.std.proofs.lemmas.Int.{to_z-of_z}
use Rattle.arithmetic.specs.Note.{is_note}
use Rattle.channels.specs.Places.{record_of}
use Rattle.channels.proofs.Records.{no_note, the_note}
use Rattle.channels.proofs.keys.record_of.Goals as goal

pub returns-in_default : goal.returns-in_default
unfolding record_of
returns-in_default c =
    let none : is_note c.args.note ≡ false = no_note c.args.note (rw (to_z-of_z w32 c.args.note c.ranges.note) at c.in_default.ensures) in
    rw none

pub returns : goal.returns
returns c = rw (the_note c.args.note (rw (to_z-of_z w32 c.args.note c.ranges.note) at c.in-Ok.ensures)) at c.record.ensures
