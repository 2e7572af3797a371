-- Groups as places of a table.
use mathlib.Core.Path.{◌≡◌, refl}
use mathlib.Core.Bool.{true}
use Prim.Native.Nat.{◌+◌, ◌<◌}
use native.Mathlib.Omega.{arith}
use lib.IntN.{ℤ, pos, negsuc, ◌-ℤ◌}
use mir.Syntax.{w32}
use mir.Val.{SFits}
use Rattle.arithmetic.specs.Note.{is_note, letter_of}
use Rattle.arithmetic.proofs.Numbers.Integers.{plus, less, eq_by_parts, sub_parts_ℤ, fits_by}
use Rattle.arithmetic.proofs.Notes.Bounds.{note_bounds, note_of_bounds, letter_below}
use Rattle.plans.specs.declared.aot.GroupBy.{GroupBy}
use Rattle.plans.specs.declared.aot.GroupBy.TheVariants.{Note, NoteLetter, Channel}
use Rattle.plans.specs.PlanLine.{group}
use Rattle.plans.specs.PlanInternal.{slot_of}

-- a note's group is a number among those of the notes
pub group_note : (by : GroupBy) (n : ℤ) → is_note n ≡ true → is_note (group by n) ≡ true
unfolding group
group_note Note n h = h
group_note NoteLetter n h = note_of_bounds (pos (letter_of n)) (omega (arith, letter_below n)) (omega arith)
group_note Channel n h = refl

slot_parts : (z : ℤ) → is_note z ≡ true → slot_of z + less z ≡ plus z + 300
unfolding slot_of
slot_parts (pos n) h = omega arith
slot_parts (negsuc n) h = omega (arith, note_bounds (negsuc n) h)

pub slot_is : (z : ℤ) → is_note z ≡ true → z -ℤ negsuc 299 ≡ pos (slot_of z)
slot_is z h = eq_by_parts (z -ℤ negsuc 299) (pos (slot_of z)) (omega (arith, sub_parts_ℤ z (negsuc 299), slot_parts z h))

pub slot_fits : (z : ℤ) → is_note z ≡ true → SFits w32 (z -ℤ negsuc 299)
slot_fits z h = fits_by w32 (z -ℤ negsuc 299) (plus z + 300) (less z) (omega (arith, sub_parts_ℤ z (negsuc 299))) (omega (arith, note_bounds z h))
    (omega (arith, note_bounds z h))

pub slot_below : (z : ℤ) → is_note z ≡ true → slot_of z < 801
slot_below z h = omega (arith, slot_parts z h, note_bounds z h)

pub slot_one : (y z : ℤ) → is_note y ≡ true → is_note z ≡ true → slot_of y ≡ slot_of z → y ≡ z
slot_one y z g h e = eq_by_parts y z (omega (arith, slot_parts y g, slot_parts z h))
