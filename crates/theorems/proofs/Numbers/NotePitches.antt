-- The pitches of notes: the twelve factors are the nearest f64 of the powers and no others, and every octave pitch is exact.
use mathlib.Core.Path.{◌≡◌, refl, sym, ap, ◌∙◌}
use mathlib.Core.Bool.{Bool, true, false, ◌&&◌}
use Prim.Native.Nat.{ℕ, ◌+◌, ◌-◌, ◌*◌, ◌^◌, ◌<◌}
use native.Mathlib.Nat.{lt_trans, mul_assoc}
use native.Mathlib.Omega.{arith}
use lib.Dec.{T, ltb, eqb, ltb→lt, eqb→eq}
use lib.ListN.{get_or}
use lib.Pow.{pow-add}
use lib.IntN.{ℤ, pos, ◌+ℤ◌}
use lib.Ieee.{Float, nan, inf, fin, up, down, round}
use lib.Ieee.Fits.{and_l, and_r}
use lib.Ieee.Exact.{HasValue}
use lib.Ieee.Positive.{num, den, positive}
use Rattle.arithmetic.specs.Pitch.{octave_pitch, significands, factor}
use Rattle.theorems.specs.Bounds.{IsSignificand}
use Rattle.arithmetic.proofs.Numbers.Integers.{plus, less, add_parts, up_is, down_is}
use Rattle.theorems.proofs.Numbers.MeasureFactor.{lt_of_pow_lt}
use Rattle.arithmetic.proofs.Numbers.Tables.{all_below, at_from_all_below}

-- ---- the tables' values

-- Each octave pitch is exactly 440 * 2 ^ j.
pub octave_value : (j : ℤ) → HasValue (octave_pitch j) false (440 * up j) (down j)
unfolding octave_pitch
octave_value j = (refl, same_number)
  where
    sums : plus (j +ℤ pos 3) + less j ≡ 3 + (plus j + less (j +ℤ pos 3))
    sums = omega (arith, add_parts j (pos 3))

    same_number : 55 * up (j +ℤ pos 3) * down j ≡ 440 * up j * down (j +ℤ pos 3)
    same_number =
        rw (up_is (j +ℤ pos 3), down_is j, up_is j, down_is (j +ℤ pos 3))
        (mul_assoc 55 (2 ^ plus (j +ℤ pos 3)) (2 ^ less j)
        ∙ ap (λ (n : ℕ). 55 * n) (sym (pow-add 2 (plus (j +ℤ pos 3)) (less j)) ∙ ap (λ (n : ℕ). 2 ^ n) sums ∙ pow-add 2 3 (plus j + less (j +ℤ pos 3)))
        ∙ sym (mul_assoc 55 8 (2 ^ (plus j + less (j +ℤ pos 3))))
        ∙ ap (λ (n : ℕ). 440 * n) (pow-add 2 (plus j) (less (j +ℤ pos 3)))
        ∙ sym (mul_assoc 440 (2 ^ plus j) (2 ^ less (j +ℤ pos 3))))

abbrev significand : ℕ → ℕ
significand k = get_or significands k 0

-- The rule of the significands, as a test that antt computes at each of the twelve.
is_nearest : ℕ → Bool
is_nearest k =
    let m = significand k in
    ltb ((2 * m - 1) ^ 12) (2 ^ (k + 636)) && ltb (2 ^ (k + 636)) ((2 * m + 1) ^ 12)

all_nearest : T (all_below is_nearest 12)
unfolding is_nearest significands
all_nearest = tt

-- The twelve numbers are significands of the factors, and no others are.
pub significand_rule : (k : ℕ) → k < 12 → IsSignificand k (get_or significands k 0)
unfolding is_nearest
significand_rule k h =
    let t = at_from_all_below is_nearest 12 k all_nearest h in
    let m = significand k in
    let a = ltb ((2 * m - 1) ^ 12) (2 ^ (k + 636)) in
    let b = ltb (2 ^ (k + 636)) ((2 * m + 1) ^ 12) in
    (ltb→lt ((2 * m - 1) ^ 12) (2 ^ (k + 636)) (and_l a b t), ltb→lt (2 ^ (k + 636)) ((2 * m + 1) ^ 12) (and_r a b t))

pub significand_unique : (k m n : ℕ) → IsSignificand k m → IsSignificand k n → m ≡ n
significand_unique k m n h g =
    let a = lt_of_pow_lt (2 * m - 1) (2 * n + 1) 12 (lt_trans h.0 g.1) in
    let b = lt_of_pow_lt (2 * n - 1) (2 * m + 1) 12 (lt_trans g.0 h.1) in
    omega arith

-- R[k] is exactly m / 2 ^ 52
is_exact : ℕ → Bool
is_exact k = positive (factor k) && eqb (num (factor k) * 2 ^ 52) (significand k * den (factor k))

all_exact : T (all_below is_exact 12)
unfolding is_exact factor significands round
all_exact = tt

value_by : (x : Float) (a c : ℕ) → T (positive x) → num x * c ≡ a * den x → HasValue x false a c
value_by nan a c p e = absurd p
value_by (inf s) a c p e = absurd p
value_by (fin true m f) a c p e = absurd p
value_by (fin false m f) a c p e = (refl, e)

pub factor_value : (k : ℕ) → k < 12 → HasValue (factor k) false (get_or significands k 0) (2 ^ 52)
unfolding is_exact
factor_value k h =
    let t = at_from_all_below is_exact 12 k all_exact h in
    let p = positive (factor k) in
    let q = eqb (num (factor k) * 2 ^ 52) (significand k * den (factor k)) in
    value_by (factor k) (significand k) (2 ^ 52) (and_l p q t) (eqb→eq (num (factor k) * 2 ^ 52) (significand k * den (factor k)) (and_r p q t))
