-- How large the measure of an f64 can be: an f64 above 0 lies from 2 ^ -1074 to 2 ^ 1024, so the measure's magnitude stays below 2 ^ 40.
use mathlib.Core.Path.{sym, ap, ◌∙◌}
use mathlib.Core.Bool.{true, false, ◌&&◌}
use Prim.Native.Nat.{ℕ, zero, suc, ◌+◌, ◌*◌, ◌%◌, ◌^◌, ◌≤◌, ◌<◌}
use native.Mathlib.Nat.{le_trans, le_of_eq, le_of_lt, lt_of_lt_of_le, lt_of_le_of_lt, lt_of_not-le, not-le_of_lt, le_of_suc-le-suc, mul_comm, mul_assoc, mul_right_comm, mul-le-mul_right, mul-le-mul_left, le-mul_of_pos_right, le_of_mul-le-mul_right, lt_of_mul-lt-mul_right, pow-le-pow_left, one-le-pow, mul-pos, zero-lt-suc}
use native.Mathlib.Omega.{arith}
use lib.Dec.{T, eqb, ltb, leb, ltb→lt, leb→le}
use lib.Pow.{pow-add, pow_mono, pow-lt}
use lib.IntN.{ℤ, pos, ◌+ℤ◌}
use lib.Signed.{mag}
use lib.Ieee.{Float, nan, inf, fin, binary64, up, down, fits}
use lib.Ieee.Fits.{and_l, and_r, up_pos}
use lib.Ieee.Positive.{num, den, den_pos, positive}
use Rattle.arithmetic.specs.Measure.{measure}
use Rattle.arithmetic.specs.Powers.{AtLeast, Below}
use Rattle.arithmetic.proofs.Numbers.Integers.{plus, less, up_is, down_is, add_parts, small_by, one_sided}
use Rattle.arithmetic.proofs.Numbers.Powers.{mul_pow, pow_mul}
use Rattle.arithmetic.proofs.Measure.Law.{measure_law}

-- ---- the exponent of a power of 2 from a bound on v, with every exponent a variable

exponent_le : (a b : ℕ) → 2 ^ a ≤ 2 ^ b → a ≤ b
exponent_le a b h = le_of_suc-le-suc (lt_of_not-le (λ g. not-le_of_lt (pow-lt g) h))

exponent_lt : (a b : ℕ) → 2 ^ a < 2 ^ b → a < b
exponent_lt a b h = lt_of_not-le (λ g. not-le_of_lt h (pow_mono g))

-- 2 ^ k ≤ v ^ n and v ≤ 2 ^ b
pub power_le : (v : Float) (n b : ℕ) (k : ℤ) → num v ≤ 2 ^ b * den v → AtLeast k v n → plus k ≤ b * n + less k
power_le v n b k h l =
    let Y = den v ^ n in
    exponent_le (plus k) (b * n + less k)
    (le_of_mul-le-mul_right
    (le_trans (le_of_eq (ap (λ (x : ℕ). x * Y) (sym (up_is k))))
    (le_trans l
    (le_trans (mul-le-mul_right (down k) (pow-le-pow_left h n))
    (le_of_eq (ap (λ (x : ℕ). x * down k) (mul_pow (2 ^ b) (den v) n ∙ ap (λ (x : ℕ). x * Y) (sym (pow_mul 2 b n)))
    ∙ mul_right_comm (2 ^ (b * n)) Y (down k)
    ∙ ap (λ (x : ℕ). 2 ^ (b * n) * x * Y) (down_is k)
    ∙ ap (λ (x : ℕ). x * Y) (sym (pow-add 2 (b * n) (less k))))))))
    (one-le-pow n (den v) (den_pos v)))

-- v ^ n < 2 ^ k and 2 ^ -b ≤ v
pub power_gt : (v : Float) (n b : ℕ) (k : ℤ) → den v ≤ 2 ^ b * num v → Below v n k → less k < b * n + plus k
power_gt v n b k h l =
    let X = num v ^ n in
    exponent_lt (less k) (b * n + plus k)
    (lt_of_mul-lt-mul_right X
    (lt_of_le_of_lt (le_of_eq (mul_comm (2 ^ less k) X ∙ ap (λ (x : ℕ). X * x) (sym (down_is k))))
    (lt_of_lt_of_le l
    (le_trans (mul-le-mul_left (up k) (pow-le-pow_left h n))
    (le_of_eq (ap (λ (x : ℕ). up k * x) (mul_pow (2 ^ b) (num v) n ∙ ap (λ (x : ℕ). x * X) (sym (pow_mul 2 b n)))
    ∙ sym (mul_assoc (up k) (2 ^ (b * n)) X)
    ∙ ap (λ (x : ℕ). x * X) (mul_comm (up k) (2 ^ (b * n)) ∙ ap (λ (x : ℕ). 2 ^ (b * n) * x) (up_is k) ∙ sym (pow-add 2 (b * n) (plus k)))))))))

-- ---- an f64 lies below 2 ^ 1024 and, above 0, at 2 ^ -1074 at least

below_top : (v : Float) → T (fits binary64 v) → T (positive v) → num v ≤ 2 ^ 1024 * den v
unfolding fits
below_top nan h p = absurd p
below_top (inf s) h p = absurd p
below_top (fin true m e) h p = absurd p
below_top (fin false zero e) h p = absurd p
below_top (fin false (suc m) e) h p =
    le_of_lt (ltb→lt (suc m * up e) (2 ^ 1024 * down e)
    (and_r (eqb (suc m % 2) 1 && ltb (suc m) (2 ^ 53) && leb (down e) (2 ^ 1074)) (ltb (suc m * up e) (2 ^ 1024 * down e)) h))

above_bottom : (v : Float) → T (fits binary64 v) → T (positive v) → den v ≤ 2 ^ 1074 * num v
unfolding fits
above_bottom nan h p = absurd p
above_bottom (inf s) h p = absurd p
above_bottom (fin true m e) h p = absurd p
above_bottom (fin false zero e) h p = absurd p
above_bottom (fin false (suc m) e) h p =
    let A = eqb (suc m % 2) 1 && ltb (suc m) (2 ^ 53) in
    let B = leb (down e) (2 ^ 1074) in
    le_trans (leb→le (down e) (2 ^ 1074) (and_r A B (and_l (A && B) (ltb (suc m * up e) (2 ^ 1024 * down e)) h)))
    (le-mul_of_pos_right (2 ^ 1074) (mul-pos (zero-lt-suc m) (up_pos e)))

pub measure_range : (v : Float) → T (fits binary64 v) → T (positive v) → mag (measure v) < 2 ^ 40
measure_range v h p =
    let law = measure_law v p in
    let hi = power_le v (2 ^ 24) 1024 (measure v) (below_top v h p) law.0 in
    let lo = power_gt v (2 ^ 24) 1074 (measure v +ℤ pos 2) (above_bottom v h p) law.1 in
    let b = one_sided (measure v) (1024 * 2 ^ 24) (1074 * 2 ^ 24 + 2) (omega arith) (omega (arith, add_parts (measure v) (pos 2))) in
    small_by (2 ^ 40) (measure v) (plus (measure v)) (less (measure v)) (omega arith) (omega arith) (omega arith)
