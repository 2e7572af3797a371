-- From the measure's law alone, 2 ^ L ≤ v ^ N < 2 ^ (L + 2), to what p * L / q says of n * log2 v, where n / N = p / q: the law is raised to the power p,
-- its exponents of 2 are moved, and the root of degree q is taken. The nearest note is one use of it.
use mathlib.Core.Path.{◌≡◌}
use Prim.Native.Nat.{ℕ, suc, ◌+◌, ◌*◌, ◌^◌, ◌≤◌, ◌<◌, ◌/◌}
use native.Mathlib.Nat.{le_refl, lt_of_lt_of_le, le_of_suc-le-suc, lt_of_not-le, not-le_of_lt, pow-le-pow_left, pow-lt-pow_left, mul-lt-mul_of_pos_right, one-le-pow, suc-mul, zero-mul, div-mul-le_self, lt-div-mul-add}
use native.Mathlib.Omega.{arith}
use lib.Pow.{pow-lt}
use Rattle.arithmetic.proofs.Numbers.Powers.{reach_shift, below_shift, ne_zero, two_side, value_side}
use lib.IntN.{ℤ, pos, negsuc}
use lib.Ieee.{Float, up, down}
use lib.Ieee.Positive.{num, den, den_pos}
use Rattle.arithmetic.specs.Division.{quotient}
use Rattle.arithmetic.specs.Powers.{AtLeast, Below}
use Rattle.theorems.specs.Bounds.{Above}
use Rattle.arithmetic.proofs.Numbers.Integers.{plus, less}

-- The order is strict where the exponent grows.
pub above_shift : (a b a' b' x y : ℕ) → 0 < y → a' + b < a + b' → 2 ^ a * y ≤ x * 2 ^ b → 2 ^ a' * y < x * 2 ^ b'
above_shift a b a' b' x y p l h =
    lt_of_lt_of_le (mul-lt-mul_of_pos_right (pow-lt (le_refl (suc a'))) p)
    (reach_shift a b (suc a') b' x y (omega arith) h)

pub le_of_pow_le : (a b n : ℕ) → 0 < n → a ^ n ≤ b ^ n → a ≤ b
le_of_pow_le a b n p h = le_of_suc-le-suc (lt_of_not-le (λ g. not-le_of_lt (pow-lt-pow_left g (ne_zero n p)) h))

pub lt_of_pow_lt : (a b n : ℕ) → a ^ n < b ^ n → a < b
lt_of_pow_lt a b n h = lt_of_not-le (λ g. not-le_of_lt h (pow-le-pow_left g n))

-- ---- the one lemma over the factor p / q = n / N, in its three forms

module _ (v : Float) (N n p q : ℕ) (ratio : N * p ≡ n * q) (L j : ℤ) where
  -- p * L ≥ q * j
  pub at_least : 0 < q → plus j * q + less L * p ≤ plus L * p + less j * q → AtLeast L v N → AtLeast j v n
  at_least Q l h =
      le_of_pow_le (up j * den v ^ n) (num v ^ n * down j) q Q
      (rw (two_side j (den v) n q, value_side j (num v) n q, ← ratio)
      (reach_shift (plus L * p) (less L * p) (plus j * q) (less j * q) (num v ^ (N * p)) (den v ^ (N * p)) l
      (rw (← two_side L (den v) N p, ← value_side L (num v) N p) (pow-le-pow_left h p))))

  -- p * L > q * j
  pub above : plus j * q + less L * p < plus L * p + less j * q → AtLeast L v N → Above j v n
  above l h =
      lt_of_pow_lt (up j * den v ^ n) (num v ^ n * down j) q
      (rw (two_side j (den v) n q, value_side j (num v) n q, ← ratio)
      (above_shift (plus L * p) (less L * p) (plus j * q) (less j * q) (num v ^ (N * p)) (den v ^ (N * p)) (one-le-pow (N * p) (den v) (den_pos v)) l
      (rw (← two_side L (den v) N p, ← value_side L (num v) N p) (pow-le-pow_left h p))))

  -- p * L ≤ q * j
  pub below : 0 < p → plus L * p + less j * q ≤ plus j * q + less L * p → Below v N L → Below v n j
  below P l h =
      lt_of_pow_lt (num v ^ n * down j) (up j * den v ^ n) q
      (rw (two_side j (den v) n q, value_side j (num v) n q, ← ratio)
      (below_shift (plus L * p) (less L * p) (plus j * q) (less j * q) (num v ^ (N * p)) (den v ^ (N * p)) l
      (rw (← two_side L (den v) N p, ← value_side L (num v) N p) (pow-lt-pow_left h (ne_zero p P)))))

-- ---- rounded down

-- The number f is z / q rounded down: q * f ≤ z < q * f + q.
pub record Floor (z : ℤ) (q : ℕ) (f : ℤ) : Type 0 where
  pub low : plus f * q + less z ≤ plus z + less f * q
  pub high : plus z + less f * q < plus f * q + less z + q

pub floor : (z : ℤ) (q : ℕ) → 0 < q → Floor z q (quotient z q)
floor (pos a) q Q = record { low = omega (arith, div-mul-le_self a q, zero-mul q); high = omega (arith, lt-div-mul-add {a = a} Q, zero-mul q) }
floor (negsuc a) q Q =
    record {
      low = omega (arith, lt-div-mul-add {a = a} Q, zero-mul q, suc-mul (a / q) q);
      high = omega (arith, div-mul-le_self a q, zero-mul q, suc-mul (a / q) q);
    }
