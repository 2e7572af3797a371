-- Notes by the bounds of their two parts, which `omega` reads, and what the code's tests say of them.
use mathlib.Core.Path.{◌≡◌, refl}
use mathlib.Core.Bool.{Bool, true, false, cond, ◌&&◌}
use mathlib.Core.Option.{some, none}
use Prim.Native.Nat.{ℕ, ◌+◌, ◌≤◌, ◌<◌, zero-le, min}
use native.Mathlib.Decide.{dec_le}
use native.Mathlib.Omega.{arith}
use lib.Dec.{leb}
use lib.IntN.{ℤ, pos, negsuc, nat_abs, ◌-ℤ◌}
use lib.Signed.{le_z}
use mir.Syntax.{w32}
use mir.Val.{SFits, to_z, of_z}
use mir.ValLaws.{to_z-of_z}
use borrow.Author.Tests.{leb-true, le-leb, lt-leb}
use Rattle.std.specs.Int.{saturate_signed}
use Rattle.arithmetic.specs.Outcome.{Outcome, value, refused, refuse◌unless◌then◌}
use Rattle.arithmetic.specs.Refusal.{note_out_of_range}
use Rattle.arithmetic.specs.Division.{quotient}
use Rattle.arithmetic.specs.Note.{is_note, letter_of, octave_of, midi_number, note_rule}
use Rattle.arithmetic.proofs.Rules.Outcomes.{refused_at, value_at}
use Rattle.arithmetic.proofs.Numbers.Integers.{plus, less, sub_parts_ℤ, fits_by}
use Rattle.arithmetic.proofs.Numbers.Quotients.{remainder_below}

-- ---- the range

and_first : (a : Bool) → (a && true) ≡ true → a ≡ true
and_first true e = refl
and_first false e = e

pub note_bounds : (z : ℤ) → is_note z ≡ true → (plus z ≤ 500) × (less z ≤ 300)
note_bounds (pos n) e = let h : n ≤ 500 = leb-true n 500 e in omega arith
note_bounds (negsuc n) e = let h : n ≤ 299 = leb-true n 299 (and_first (leb n 299) e) in omega arith

pub note_of_bounds : (z : ℤ) → plus z ≤ 500 → less z ≤ 300 → is_note z ≡ true
note_of_bounds (pos n) h k = le-leb n 500 h
note_of_bounds (negsuc n) h k = rw (le-leb n 299 (omega arith))

-- what `Note::try_from` answers, as a caller has it at a `?`
module _ {A : Type 0} (z : ℤ) (f : SFits w32 z) where
  -- where it refuses, a rule that asks for a note refuses too
  pub at_no_note : {k : ℕ} → refused k ≡ note_rule (to_z w32 (of_z w32 z)) → (o : Outcome A) → refused k ≡ (refuse note_out_of_range unless is_note z then o)
  unfolding note_rule
  at_no_note h o = refused_at note_out_of_range (is_note z) z (rw (to_z-of_z w32 z f) at h) o

  -- and where it gives one, the rule goes on with it
  pub at_note : {n : ℤ} → value n ≡ note_rule (to_z w32 (of_z w32 z)) → (rest : ℤ → Outcome A) (o : Outcome A) → o ≡ rest n
      → o ≡ (refuse note_out_of_range unless is_note z then rest z)
  unfolding note_rule
  at_note h rest o i = value_at note_out_of_range (is_note z) z (rw (to_z-of_z w32 z f) at h) rest o i

-- a number that is cut off where no note is refused alike
pub note_rule-saturated : (z : ℤ) → note_rule (saturate_signed w32 z) ≡ note_rule z
unfolding note_rule
note_rule-saturated (pos n) = go (dec_le n 2147483647)
  where
    go : Dec (n ≤ 2147483647) → note_rule (pos (min n 2147483647)) ≡ note_rule (pos n)
    go (yes l) = let e : min n 2147483647 ≡ n = omega arith in rw e
    go (no l) = let e : min n 2147483647 ≡ 2147483647 = omega arith in rw (e, lt-leb n 500 (omega arith))
note_rule-saturated (negsuc n) = go (dec_le n 2147483647)
  where
    go : Dec (n ≤ 2147483647) → note_rule (negsuc (min n 2147483647)) ≡ note_rule (negsuc n)
    go (yes l) = let e : min n 2147483647 ≡ n = omega arith in rw e
    go (no l) = let e : min n 2147483647 ≡ 2147483647 = omega arith in rw (e, lt-leb n 299 (omega arith))

pub note_fits : (z : ℤ) → is_note z ≡ true → SFits w32 z
note_fits z e = fits_by w32 z (plus z) (less z) (omega arith) (omega (arith, note_bounds z e)) (omega (arith, note_bounds z e))

pub difference_fits : (y z : ℤ) → is_note y ≡ true → is_note z ≡ true → SFits w32 (z -ℤ y)
difference_fits y z d e =
    fits_by w32 (z -ℤ y) (plus z + less y) (less z + plus y) (sub_parts_ℤ z y)
    (omega (arith, note_bounds y d, note_bounds z e)) (omega (arith, note_bounds y d, note_bounds z e))

-- ---- the octave

quotient_small : (z : ℤ) → plus z ≤ 500 → less z ≤ 300 → (plus (quotient z 12) ≤ 41) × (less (quotient z 12) ≤ 25)
quotient_small (pos n) h k = omega arith
quotient_small (negsuc n) h k = omega arith

pub octave_fits : (z : ℤ) → is_note z ≡ true → SFits w32 (octave_of z)
octave_fits z e =
    let q = quotient z 12 in
    let b = quotient_small z (note_bounds z e).0 (note_bounds z e).1 in
    fits_by w32 (q -ℤ pos 1) (plus q) (less q + 1) (omega (arith, sub_parts_ℤ q (pos 1))) (omega arith) (omega arith)

-- ---- the number that MIDI has

-- the code's two tests pass for the numbers that have one
pub midi_tested : (z : ℤ) → midi_number z ≡ cond (le_z (pos 0) z && le_z z (pos 127)) (some (nat_abs z)) none
unfolding midi_number
midi_tested (pos n) = rw (le-leb 0 n zero-le)
midi_tested (negsuc n) = refl

pub letter_below : (z : ℤ) → letter_of z < 12
letter_below z = remainder_below z 12 (omega arith)
