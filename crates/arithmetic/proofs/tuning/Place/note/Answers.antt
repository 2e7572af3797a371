-- `tuning::Place::note` meets its contract: each of the machine's results fits.
use mathlib.Core.Path.{◌≡◌}
use native.Mathlib.Omega.{arith}
use lib.IntN.{pos, ◌+ℤ◌, ◌*ℤ◌}
use mir.Syntax.{w32}
use mir.Val.{to_z, of_z}
use Rattle.std.proofs.lemmas.Int.{ints}
use Rattle.arithmetic.specs.Internal.{note_at}
use Rattle.arithmetic.proofs.Notes.Pitches.{place_octaves}
use Rattle.arithmetic.proofs.tuning.Place.note.Goals as goal
use Rattle.arithmetic.proofs.tuning.Place.note.Goals.{Start}

pub overflow_mul-number : goal.overflow_mul-number
overflow_mul-number c = let p = c.args.self in let r = place_octaves p.octaves p.semitones p.is_note p.few in omega (arith, ints)

pub overflow_add-number : goal.overflow_add-number
overflow_add-number c = let p = c.args.self in let r = place_octaves p.octaves p.semitones p.is_note p.few in omega (arith, ints)

pub overflow_add-number-2 : goal.overflow_add-number-2
overflow_add-number-2 c = let p = c.args.self in let r = place_octaves p.octaves p.semitones p.is_note p.few in omega (arith, ints)

-- so the machine's number is the note's
number : (s : Start) → let p = s.args.self in
    to_z w32 (of_z w32 (pos 69 +ℤ to_z w32 (of_z w32 (to_z w32 (of_z w32 (to_z w32 (of_z w32 p.octaves) *ℤ pos 12)) +ℤ to_z w32 p.semitones))))
    ≡ note_at p.octaves p.semitones
unfolding note_at
number s = let p = s.args.self in let r = place_octaves p.octaves p.semitones p.is_note p.few in omega (arith, ints)

pub invariant_of-result : goal.invariant_of-result
invariant_of-result c = record { is_note = rw (number (goal.at.invariant_of-result c).Start) c.args.self.is_note }

pub returns : goal.returns
returns c = number (goal.at.returns c).Start
