-- The detuning of a nearest note lies from 0.96 to 1.04. A pitch that were farther from its nearest note's, over 440, would be at least the rounded
-- quotient of the limit times the note pitch by 440, whose 36th power antt compares with a power of 2 at each of the 801 notes.
use mathlib.Core.Path.{◌≡◌, refl, sym, ap, ◌∙◌, subst}
use mathlib.Core.Bool.{Bool, true, false, ◌&&◌}
use Prim.Native.Nat.{ℕ, ◌*◌, ◌^◌, ◌≤◌, ◌<◌}
use native.Mathlib.Nat.{le_trans, le_of_eq, le_of_lt, lt_of_not-le, not-le_of_lt, mul_comm, mul_assoc, mul_left_comm, mul-one, mul-pos, mul-le-mul_left}
use native.Mathlib.Omega.{arith}
use lib.Dec.{T, leb, ltb, leb→le, ltb→lt, lit<}
use lib.IntN.{ℤ, pos, nat_abs, ◌+ℤ◌, ◌-ℤ◌, ◌*ℤ◌}
use lib.Ieee.{Float, binary64, up, down, round, mul, le}
use lib.Ieee.Fits.{and_l, and_r}
use lib.Ieee.Order.{round_mono}
use lib.Ieee.Positive.{num, den, positive, den_pos}
use Rattle.arithmetic.specs.Division.{remainder}
use Rattle.arithmetic.specs.Note.{is_note}
use Rattle.arithmetic.specs.Powers.{AtLeast, Below}
use Rattle.theorems.specs.Bounds.{Above, close_from, close_to}
use Rattle.arithmetic.specs.Pitch.{octave_pitch, significands, factor, pitch_of, a4_pitch, is_pitch, detuning_of}
use Rattle.arithmetic.specs.Nearest.{over_a4, nearest_note}
use Rattle.arithmetic.proofs.Numbers.Integers.{add_parts, sub_parts_ℤ, mul_parts}
use Rattle.arithmetic.proofs.Numbers.Tables.{all_below, at_from_all_below}
use Rattle.arithmetic.proofs.Numbers.Floats.{num_pos, div_is}
use Rattle.arithmetic.proofs.Notes.Detunings.{nth_note, is_nth_note, note_pitch_positive, pitch_positive}
use Rattle.theorems.proofs.Numbers.MeasureFactor.{above, below}
use Rattle.arithmetic.proofs.Notes.Nearest.{nearest_is_note, ratio_positive, at_least_mono, below_mono}
use Rattle.theorems.proofs.Numbers.NearestNote.{nearest_bound}

-- The ends are the f64s nearest to 0.96 and 1.04.
pub close_decimals : (round binary64 false 96 100 ≡ close_from) × (round binary64 false 104 100 ≡ close_to)
unfolding round
close_decimals = (refl, refl)

-- This is k times the pitch of a note, over 440, rounded once.
scaled : Float → ℤ → Float
scaled k z = round binary64 false (num k * num (pitch_of z) * 1) (440 * (den k * den (pitch_of z)))

-- With d = note - 69, antt compares (k * pitch / 440) ^ 36 with 2 ^ (3 d + 2) and 2 ^ (3 d - 2) for both limits at each note.
module _ (z : ℤ) where
  abbrev steps : ℤ
  steps = (z -ℤ pos 69) *ℤ pos 3

  abbrev high_enough : Bool
  high_enough = leb (up (steps +ℤ pos 2) * den (scaled close_to z) ^ 36) (num (scaled close_to z) ^ 36 * down (steps +ℤ pos 2))

  abbrev low_enough : Bool
  low_enough = ltb (num (scaled close_from z) ^ 36 * down (steps -ℤ pos 2)) (up (steps -ℤ pos 2) * den (scaled close_from z) ^ 36)

apart : ℕ → Bool
apart n = (positive (scaled close_to (nth_note n)) && high_enough (nth_note n)) && (positive (scaled close_from (nth_note n)) && low_enough (nth_note n))

all_apart : T (all_below apart 801)
unfolding apart scaled pitch_of octave_pitch remainder significands factor mul round
all_apart = tt

-- ---- both limits at one note

record Apart (z : ℤ) : Type 0 where
  high_positive : T (positive (scaled close_to z))
  high : AtLeast (steps z +ℤ pos 2) (scaled close_to z) 36
  low_positive : T (positive (scaled close_from z))
  low : Below (scaled close_from z) 36 (steps z -ℤ pos 2)

apart_at : (z : ℤ) → is_note z ≡ true → Apart z
unfolding apart
apart_at z e =
    let c = is_nth_note z e in
    let hp = positive (scaled close_to z) in
    let lp = positive (scaled close_from z) in
    let t : T ((hp && high_enough z) && (lp && low_enough z)) =
    subst (λ (y : ℤ). T ((positive (scaled close_to y) && high_enough y) && (positive (scaled close_from y) && low_enough y))) c.is
    (at_from_all_below apart 801 (nat_abs (z +ℤ pos 300)) all_apart c.few) in
    let h = and_l (hp && high_enough z) (lp && low_enough z) t in
    let l = and_r (hp && high_enough z) (lp && low_enough z) t in
    record {
      high_positive = and_l hp (high_enough z) h;
      high =
          leb→le (up (steps z +ℤ pos 2) * den (scaled close_to z) ^ 36) (num (scaled close_to z) ^ 36 * down (steps z +ℤ pos 2))
          (and_r hp (high_enough z) h);
      low_positive = and_l lp (low_enough z) l;
      low =
          ltb→lt (num (scaled close_from z) ^ 36 * down (steps z -ℤ pos 2)) (up (steps z -ℤ pos 2) * den (scaled close_from z) ^ 36)
          (and_r lp (low_enough z) l);
    }

-- ---- a pitch and its nearest note

-- The sides of k * pitch ≤ x are multiplied out.
abbrev limit_side : Float → Float → ℤ → ℕ
limit_side k x z = num k * num (pitch_of z) * den x

abbrev pitch_side : Float → Float → ℤ → ℕ
pitch_side k x z = num x * (den k * den (pitch_of z))

over_is : (x : Float) → T (positive x) → over_a4 x ≡ round binary64 false (num x * 1) (440 * den x)
unfolding over_a4
over_is x p = div_is binary64 x a4_pitch p tt

-- Rounding compares a side in this form.
side_scaled : (a b : ℕ) → a * 1 * (440 * b) ≡ 440 * (a * b)
side_scaled a b = ap (λ (n : ℕ). n * (440 * b)) (mul-one a) ∙ mul_left_comm a 440 b

-- The two limits are what they round to.
limits_rounded : (round binary64 false (num close_from) (den close_from) ≡ close_from) × (round binary64 false (num close_to) (den close_to) ≡ close_to)
unfolding round
limits_rounded = (refl, refl)

module _ (x : Float) (h : T (is_pitch x)) where
  abbrev z : ℤ
  z = nearest_note x

  nearest_is_a_note : is_note z ≡ true
  nearest_is_a_note = nearest_is_note x h

  positive_x : T (positive x)
  positive_x = pitch_positive x h

  divisor_pos : (k : Float) → 0 < 440 * (den k * den (pitch_of z))
  divisor_pos k = mul-pos (lit< tt) (mul-pos (den_pos k) (den_pos (pitch_of z)))

  -- It holds that v ^ 36 < 2 ^ (3 d + 2), and that 2 ^ (3 d - 2) < v ^ 36.
  power_below : Below (over_a4 x) 36 (steps z +ℤ pos 2)
  power_below =
      let d = z -ℤ pos 69 in
      below (over_a4 x) 120000 36 3 10000 refl (d *ℤ pos 10000 +ℤ pos 5001) (d *ℤ pos 3 +ℤ pos 2) (lit< tt)
      (omega (arith, mul_parts d 10000, mul_parts d 3, add_parts (d *ℤ pos 10000) (pos 5001), add_parts (d *ℤ pos 3) (pos 2))) (nearest_bound x h).1

  power_above : Above (steps z -ℤ pos 2) (over_a4 x) 36
  power_above =
      let d = z -ℤ pos 69 in
      above (over_a4 x) 120000 36 3 10000 refl (d *ℤ pos 10000 -ℤ pos 5001) (d *ℤ pos 3 -ℤ pos 2)
      (omega (arith, mul_parts d 10000, mul_parts d 3, sub_parts_ℤ (d *ℤ pos 10000) (pos 5001), sub_parts_ℤ (d *ℤ pos 3) (pos 2)))
      (le_of_lt (nearest_bound x h).0)

  dividend_pos : 0 < 440 * den x
  dividend_pos = mul-pos (lit< tt) (den_pos x)

  -- The order of k * pitch and x is that of their rounded quotients by 440.
  at_or_above : (k : Float) → limit_side k x z ≤ pitch_side k x z → T (le (scaled k z) (over_a4 x))
  unfolding scaled
  at_or_above k g =
      rw (over_is x positive_x)
      (round_mono binary64 (num k * num (pitch_of z) * 1) (440 * (den k * den (pitch_of z))) (num x * 1) (440 * den x) (divisor_pos k) dividend_pos
      (le_trans (le_of_eq (side_scaled (num k * num (pitch_of z)) (den x)))
      (le_trans (mul-le-mul_left 440 g) (le_of_eq (sym (side_scaled (num x) (den k * den (pitch_of z))))))))

  at_or_below : (k : Float) → pitch_side k x z ≤ limit_side k x z → T (le (over_a4 x) (scaled k z))
  unfolding scaled
  at_or_below k g =
      rw (over_is x positive_x)
      (round_mono binary64 (num x * 1) (440 * den x) (num k * num (pitch_of z) * 1) (440 * (den k * den (pitch_of z))) dividend_pos (divisor_pos k)
      (le_trans (le_of_eq (side_scaled (num x) (den k * den (pitch_of z))))
      (le_trans (mul-le-mul_left 440 g) (le_of_eq (sym (side_scaled (num k * num (pitch_of z)) (den x)))))))

  -- A pitch at a limit or beyond would be too far.
  not_high : ¬ (limit_side close_to x z ≤ pitch_side close_to x z)
  not_high g =
      let t = apart_at z nearest_is_a_note in
      not-le_of_lt power_below
      (at_least_mono (steps z +ℤ pos 2) (scaled close_to z) (over_a4 x) 36 t.high_positive (ratio_positive x h) (at_or_above close_to g) t.high)

  not_low : ¬ (pitch_side close_from x z ≤ limit_side close_from x z)
  not_low g =
      let t = apart_at z nearest_is_a_note in
      not-le_of_lt (below_mono (steps z -ℤ pos 2) (over_a4 x) (scaled close_from z) 36 (ratio_positive x h) t.low_positive (at_or_below close_from g) t.low)
      (le_of_lt power_above)

  detuning_is : detuning_of x z ≡ round binary64 false (num x * den (pitch_of z)) (num (pitch_of z) * den x)
  unfolding detuning_of
  detuning_is = div_is binary64 x (pitch_of z) positive_x (note_pitch_positive z nearest_is_a_note)

  quotient_pos : 0 < num (pitch_of z) * den x
  quotient_pos = mul-pos (num_pos (pitch_of z) (note_pitch_positive z nearest_is_a_note)) (den_pos x)

  pitch_side_is : (k : Float) → num x * den (pitch_of z) * den k ≡ pitch_side k x z
  pitch_side_is k = mul_assoc (num x) (den (pitch_of z)) (den k) ∙ ap (λ (n : ℕ). num x * n) (mul_comm (den (pitch_of z)) (den k))

  limit_side_is : (k : Float) → num k * (num (pitch_of z) * den x) ≡ limit_side k x z
  limit_side_is k = sym (mul_assoc (num k) (num (pitch_of z)) (den x))

  -- The detuning from the nearest note lies between the limits.
  pub nearest_close : T (le close_from (detuning_of x (nearest_note x))) × T (le (detuning_of x (nearest_note x)) close_to)
  nearest_close = (
    subst (λ (y : Float). T (le close_from y)) (sym detuning_is)
        (subst (λ (y : Float). T (le y (round binary64 false (num x * den (pitch_of z)) (num (pitch_of z) * den x)))) limits_rounded.0
        (round_mono binary64 (num close_from) (den close_from) (num x * den (pitch_of z)) (num (pitch_of z) * den x) (den_pos close_from) quotient_pos
        (le_trans (le_of_eq (limit_side_is close_from)) (le_trans (le_of_lt (lt_of_not-le not_low)) (le_of_eq (sym (pitch_side_is close_from))))))),
    subst (λ (y : Float). T (le y close_to)) (sym detuning_is)
        (subst (λ (y : Float). T (le (round binary64 false (num x * den (pitch_of z)) (num (pitch_of z) * den x)) y)) limits_rounded.1
        (round_mono binary64 (num x * den (pitch_of z)) (num (pitch_of z) * den x) (num close_to) (den close_to) quotient_pos (den_pos close_to)
        (le_trans (le_of_eq (pitch_side_is close_to)) (le_trans (le_of_lt (lt_of_not-le not_high)) (le_of_eq (sym (limit_side_is close_to))))))),
  )
