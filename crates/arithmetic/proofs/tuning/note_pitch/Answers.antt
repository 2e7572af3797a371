-- `tuning::note_pitch` meets its contract.
use mathlib.Core.Path.{◌≡◌, ap, ◌∙◌}
use mathlib.Core.Bool.{true}
use Prim.Native.Nat.{◌+◌, ◌-◌, ◌/◌, ◌%◌}
use native.Mathlib.Omega.{arith}
use lib.IntN.{ℤ, pos, negsuc, nat_abs, ◌+ℤ◌, ◌-ℤ◌}
use mir.Syntax.{w32}
use mir.Val.{to_z, of_z}
use Rattle.std.proofs.lemmas.Int.{ints}
use Rattle.arithmetic.specs.Note.{is_note}
use Rattle.arithmetic.specs.Pitch.{pitch_of}
use Rattle.arithmetic.specs.Internal.{note_at}
use Rattle.arithmetic.proofs.Numbers.Integers.{plus, less}
use Rattle.arithmetic.proofs.Notes.Bounds.{note_bounds}
use Rattle.arithmetic.proofs.tuning.note_pitch.Goals as goal

-- the note stands where the quotient and the remainder say
stands : (z : ℤ) → is_note z ≡ true → let n = nat_abs (to_z w32 (of_z w32 (to_z w32 (of_z w32 z) -ℤ negsuc 302))) in
    note_at (to_z w32 (of_z w32 (negsuc 30 +ℤ to_z w32 (n / 12)))) (n % 12) ≡ z
unfolding note_at
stands z e =
    let b = note_bounds z e in
    let k = plus z + 303 - less z in
    let m : to_z w32 (of_z w32 (to_z w32 (of_z w32 z) -ℤ negsuc 302)) ≡ pos k = omega (arith, ints) in
    rw m (omega (arith, ints))

pub invariant_of-place : goal.invariant_of-place
invariant_of-place c = let n = c.args.note in record { is_note = rw (stands n.number n.is_note) n.is_note; few = omega arith }

pub returns : goal.returns
returns c = c.pitch.ensures ∙ ap pitch_of (stands c.args.note.number c.args.note.is_note)
