-- `keys::Place::record` meets its contract: a note's number fits.
use Rattle.std.proofs.Common.{pos, ◌+ℤ◌, w32}
use Rattle.std.proofs.lemmas.Int.{to_z-of_z}
use Rattle.channels.specs.Places.{record_of}
use Rattle.channels.proofs.Records.{raised_fits}
use Rattle.channels.proofs.keys.Place.record.Goals as goal

pub returns : goal.returns
unfolding record_of
returns c =
    let n = c.args.self.note in
    rw (
      to_z-of_z w32 c.number.result (record { sfits = c.number.type_inv }),
      c.number.ensures,
      to_z-of_z w32 (n.number +ℤ pos 301) (raised_fits n.number n.is_note),
      n.is_note,
    )
