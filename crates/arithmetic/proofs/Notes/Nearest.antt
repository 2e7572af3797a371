-- The nearest note: for every pitch the measure is small and the note is from -276 to 444.
use mathlib.Core.Path.{◌≡◌, refl, sym, ap, ◌∙◌}
use mathlib.Core.Bool.{true}
use Prim.Native.Nat.{ℕ, ◌+◌, ◌*◌, ◌^◌, ◌≤◌, ◌<◌}
use native.Mathlib.Nat.{le_of_eq, lt_of_le_of_lt, lt_of_lt_of_le, lt_of_not-le, not-le_of_lt, lt_of_mul-lt-mul_right, mul_right_comm, mul_comm, mul-le-mul_right, mul-lt-mul_of_pos_right, pow-le-pow_left, pow-lt-pow_left, one-le-pow}
use native.Mathlib.Omega.{arith}
use lib.Dec.{T, lit<, lit≤}
use lib.Pow.{pow_pos, pow-add, pow_mono}
use lib.Ieee.{Float, up, down, binary64, div, le}
use lib.Ieee.Fits.{and_l, and_r}
use lib.Ieee.Bits.{is_true}
use lib.Ieee.Positive.{num, den, den_pos, positive, le→cross, cross→le, through, between}
use lib.IntN.{ℤ, pos, negsuc, ◌+ℤ◌, ◌-ℤ◌, ◌*ℤ◌}
use mir.Syntax.{w32}
use mir.Val.{to_z, of_z}
use Rattle.std.specs.Prelude.{Option, Some, None}
use Rattle.std.specs.Option.{IsSome}
use Rattle.std.proofs.lemmas.Int.{ints}
use Rattle.arithmetic.specs.Outcome.{value}
use Rattle.arithmetic.specs.Refusal.{not_measurable}
use Rattle.arithmetic.specs.Division.{quotient}
use Rattle.arithmetic.specs.Measure.{digits, measure, measure_rule}
use Rattle.arithmetic.specs.Powers.{AtLeast, Below}
use Rattle.arithmetic.specs.Pitch.{lowest_pitch, highest_pitch, is_pitch, a4_pitch, detuning_of}
use Rattle.arithmetic.specs.Nearest.{semitones, over_a4, nearest_note}
use Rattle.arithmetic.specs.Note.{is_note, a4}
use Rattle.arithmetic.specs.Internal.{WritesOut, Writes, note_at, within}
use Rattle.arithmetic.specs.declared.pitch.Binary.{Binary}
use Rattle.arithmetic.proofs.Rules.Outcomes.{no_value}
use Rattle.arithmetic.proofs.Notes.Boundaries.{semitones_split}
use Rattle.arithmetic.proofs.Notes.Bounds.{note_of_bounds}
use Rattle.arithmetic.proofs.Numbers.Powers.{mul_pow, ne_zero, two_side, value_side}
use Rattle.arithmetic.proofs.Measure.Law.{measure_law}
use Rattle.arithmetic.proofs.Numbers.Floats.{div_mono}
use Rattle.arithmetic.proofs.Notes.Detunings.{pitch_positive, detuning_positive}
use Rattle.arithmetic.proofs.Numbers.Integers.{plus, less, add_parts, sub_parts_ℤ, mul_parts, one_sided}

-- ---- comparing powers of a positive v with powers of 2

-- 2 ^ (a - b) ≤ x / y < 2 ^ (d - c)
exponents_lt : (a b c d x y : ℕ) → 0 < y → 2 ^ a * y ≤ x * 2 ^ b → x * 2 ^ c < 2 ^ d * y → a + c < d + b
exponents_lt a b c d x y Y h g =
    lt_of_not-le (λ l. not-le_of_lt
    (lt_of_mul-lt-mul_right y
    (lt_of_le_of_lt (le_of_eq (ap (λ (n : ℕ). n * y) (pow-add 2 a c) ∙ mul_right_comm (2 ^ a) (2 ^ c) y))
    (lt_of_le_of_lt (mul-le-mul_right (2 ^ c) h)
    (lt_of_le_of_lt (le_of_eq (mul_right_comm x (2 ^ b) (2 ^ c)))
    (lt_of_lt_of_le (mul-lt-mul_of_pos_right g (pow_pos b))
    (le_of_eq (mul_right_comm (2 ^ d) y (2 ^ b) ∙ ap (λ (n : ℕ). n * y) (sym (pow-add 2 d b)))))))))
    (pow_mono l))

-- 2 ^ j ≤ v ^ n and v ^ m < 2 ^ k: j * m < k * n
pub between_powers : (v : Float) (j k : ℤ) (n m : ℕ) → 0 < n → AtLeast j v n → Below v m k → plus j * m + less k * n < plus k * n + less j * m
between_powers v j k n m N h g =
    exponents_lt (plus j * m) (less j * m) (less k * n) (plus k * n) (num v ^ (n * m)) (den v ^ (n * m)) (one-le-pow (n * m) (den v) (den_pos v))
    (rw (← two_side j (den v) n m, ← value_side j (num v) n m) (pow-le-pow_left h m))
    (rw (mul_comm n m, ← value_side k (num v) m n, ← two_side k (den v) m n) (pow-lt-pow_left g (ne_zero n N)))

powers_le : (x y : Float) (n : ℕ) → T (positive x) → T (positive y) → T (le x y) → num x ^ n * den y ^ n ≤ num y ^ n * den x ^ n
powers_le x y n p q h = rw (← mul_pow (num x) (den y) n, ← mul_pow (num y) (den x) n) (pow-le-pow_left (le→cross x y p q h) n)

pub at_least_mono : (k : ℤ) (x y : Float) (n : ℕ) → T (positive x) → T (positive y) → T (le x y) → AtLeast k x n → AtLeast k y n
at_least_mono k x y n p q h a =
    through (up k) (num x ^ n) (num y ^ n) (down k) (den x ^ n) (den y ^ n) (one-le-pow n (den x) (den_pos x)) a (powers_le x y n p q h)

pub below_mono : (k : ℤ) (x y : Float) (n : ℕ) → T (positive x) → T (positive y) → T (le x y) → Below y n k → Below x n k
below_mono k x y n p q h b =
    lt_of_mul-lt-mul_right (den y ^ n)
    (lt_of_le_of_lt (le_of_eq (mul_right_comm (num x ^ n) (down k) (den y ^ n)))
    (lt_of_le_of_lt (mul-le-mul_right (down k) (powers_le x y n p q h))
    (lt_of_le_of_lt (le_of_eq (mul_right_comm (num y ^ n) (den x ^ n) (down k)))
    (lt_of_lt_of_le (mul-lt-mul_of_pos_right b (one-le-pow n (den x) (den_pos x)))
    (le_of_eq (mul_right_comm (up k) (den y ^ n) (den x ^ n)))))))

-- ---- a pitch over 440 lies between 2 ^ -(403/14) and 2 ^ (125/4)
abbrev low_ratio : Float
low_ratio = div binary64 lowest_pitch a4_pitch

abbrev high_ratio : Float
high_ratio = div binary64 highest_pitch a4_pitch

low_ratio_bound : T (positive low_ratio) × AtLeast (negsuc 402) low_ratio 14
unfolding div
low_ratio_bound = (tt, lit≤ tt)

high_ratio_bound : T (positive high_ratio) × Below high_ratio 4 (pos 125)
unfolding div
high_ratio_bound = (tt, lit< tt)

module _ (x : Float) (h : T (is_pitch x)) where
  at_low : T (le low_ratio (over_a4 x))
  unfolding is_pitch over_a4
  at_low =
      div_mono binary64 lowest_pitch x a4_pitch a4_pitch tt (pitch_positive x h) tt tt (and_l (le lowest_pitch x) (le x highest_pitch) h)
      (cross→le a4_pitch a4_pitch tt tt (le_of_eq refl))

  at_high : T (le (over_a4 x) high_ratio)
  unfolding is_pitch over_a4
  at_high =
      div_mono binary64 x highest_pitch a4_pitch a4_pitch (pitch_positive x h) tt tt tt (and_r (le lowest_pitch x) (le x highest_pitch) h)
      (cross→le a4_pitch a4_pitch tt tt (le_of_eq refl))

  pub ratio_positive : T (positive (over_a4 x))
  ratio_positive = between low_ratio (over_a4 x) high_ratio low_ratio_bound.0 high_ratio_bound.0 at_low at_high

-- the measure of a pitch over 440, from the measure's law
pub measure_range : (x : Float) → T (is_pitch x) → (plus (measure (over_a4 x)) ≤ 524287999) × (less (measure (over_a4 x)) ≤ 482944148)
measure_range x h =
    let v = over_a4 x in
    let p = ratio_positive x h in
    let L = measure v in
    let law = measure_law v p in
    let lo = at_least_mono (negsuc 402) low_ratio v 14 low_ratio_bound.0 p (at_low x h) low_ratio_bound.1 in
    let hi = below_mono (pos 125) v high_ratio 4 p high_ratio_bound.0 (at_high x h) high_ratio_bound.1 in
    let a = between_powers v (negsuc 402) (L +ℤ pos 2) 14 (2 ^ 24) (lit< tt) lo law.1 in
    let b = between_powers v L (pos 125) (2 ^ 24) 4 (lit< tt) law.0 hi in
    one_sided L 524287999 482944148 (omega arith) (omega (arith, add_parts L (pos 2)))

shifted : (z : ℤ) → plus z ≤ 6299844318 → less z ≤ 5786941458 → (plus (quotient z (2 ^ 24)) ≤ 375) × (less (quotient z (2 ^ 24)) ≤ 345)
shifted (pos n) h k = omega arith
shifted (negsuc n) h k = omega arith

-- the nearest note of a pitch is from -276 to 444
pub nearest_parts : (x : Float) → T (is_pitch x) → (plus (nearest_note x) ≤ 444) × (less (nearest_note x) ≤ 276)
unfolding nearest_note semitones
nearest_parts x h =
    let L = measure (over_a4 x) in
    let z = L *ℤ pos 12 +ℤ pos 8388608 -ℤ pos 290 in
    let r = measure_range x h in
    let zs = one_sided z 6299844318 5786941458
    (omega (arith, mul_parts L 12, add_parts (L *ℤ pos 12) (pos 8388608), sub_parts_ℤ (L *ℤ pos 12 +ℤ pos 8388608) (pos 290)))
    (omega (arith, mul_parts L 12, add_parts (L *ℤ pos 12) (pos 8388608), sub_parts_ℤ (L *ℤ pos 12 +ℤ pos 8388608) (pos 290))) in
    let d = shifted z zs.0 zs.1 in
    let e = add_parts (pos 69) (quotient z (2 ^ 24)) in
    one_sided (pos 69 +ℤ quotient z (2 ^ 24)) 444 276 (omega arith) (omega arith)

pub nearest_is_note : (x : Float) → T (is_pitch x) → is_note (nearest_note x) ≡ true
nearest_is_note x h = let r = nearest_parts x h in note_of_bounds (nearest_note x) (omega arith) (omega arith)

-- ---- what the code reads off the first digits of a pitch over 440

module _ (x v : Float) (h : T (is_pitch x)) (e : v ≡ over_a4 x) where
  measured : measure_rule v ≡ value (measure (over_a4 x))
  unfolding measure_rule
  measured = rw (e, is_true (positive (over_a4 x)) (ratio_positive x h))

  -- it has them
  pub has_digits : (o : Option Binary) → Writes o (measure_rule v) → IsSome o
  has_digits (Some b) w = refl
  has_digits None w = no_value (measure (over_a4 x)) not_measurable (sym measured ∙ w)

  -- and they say where the nearest note stands
  pub stands_at : (b : Binary) (k : ℕ) → WritesOut b (measure_rule v) → k ≡ within b.first
      → note_at (to_z w32 (of_z w32 (to_z w32 b.octave -ℤ pos 1074))) k ≡ nearest_note x
  unfolding note_at nearest_note
  stands_at b k w f =
      let j : to_z w32 (of_z w32 (to_z w32 b.octave -ℤ pos 1074)) ≡ pos b.octave -ℤ pos 1074 = omega (arith, ints, w.0) in
      let q : value (pos (b.octave * 2 ^ 24 + digits 24 b.first) -ℤ pos (1074 * 2 ^ 24)) ≡ value (measure (over_a4 x)) = sym w.2 ∙ measured in
      let l : pos (b.octave * 2 ^ 24 + digits 24 b.first) -ℤ pos (1074 * 2 ^ 24) ≡ measure (over_a4 x) = cc in
      rw (j, f) (ap (λ (z : ℤ). a4 +ℤ z) (sym (semitones_split b.octave b.first) ∙ ap semitones l))

-- the detuning from the nearest note is finite and above zero, so sending it meets no refusal 2
pub nearest_detuning : (x : Float) → T (is_pitch x) → T (positive (detuning_of x (nearest_note x)))
nearest_detuning x h = detuning_positive x (nearest_note x) h (nearest_is_note x h)
