-- `keys::note_of` meets its contract.
use Rattle.std.proofs.Common.{arith}
use Rattle.std.proofs.lemmas.Int.{ints}
use Rattle.channels.specs.Places.{note_of}
use Rattle.channels.proofs.keys.note_of.Goals as goal

pub returns : goal.returns
unfolding note_of
returns c = omega (arith, ints)
