-- Powers of whole numbers, with every exponent a variable.
use mathlib.Core.Path.{◌≡◌, sym, ap, ◌∙◌}
use Prim.Native.Nat.{ℕ, zero, suc, ◌+◌, ◌*◌, ◌^◌, ◌≤◌, ◌<◌}
use native.Mathlib.Nat.{le_trans, le_of_eq, lt_of_lt_of_le, lt_of_le_of_lt, mul_comm, mul_assoc, mul_left_comm, mul_right_comm, mul-one, one-mul, add-mul, mul-add, mul-suc, mul-zero, mul-mul-mul_comm, mul-le-mul_left, mul-le-mul_right, mul-lt-mul_of_pos_right, le_of_mul-le-mul_right, lt_of_mul-lt-mul_right, pow-zero, pow-suc}
use native.Mathlib.Omega.{arith}
use lib.Pow.{pow_pos, pow-add, pow_mono}
use lib.IntN.{ℤ}
use lib.Ieee.{up, down}
use Rattle.arithmetic.proofs.Numbers.Integers.{plus, less, up_is, down_is}

pub pow_one : (a : ℕ) → a ^ 1 ≡ a
pow_one a = pow-suc a 0 ∙ simp (pow-zero, one-mul)

pub mul_pow : (a b n : ℕ) → (a * b) ^ n ≡ a ^ n * b ^ n
mul_pow a b zero = simp pow-zero
mul_pow a b (suc n) =
    pow-suc (a * b) n
    ∙ ap (λ (x : ℕ). x * (a * b)) (mul_pow a b n)
    ∙ mul-mul-mul_comm (a ^ n) (b ^ n) a b
    ∙ sym (ap (λ (x : ℕ). x * b ^ suc n) (pow-suc a n) ∙ ap (λ (x : ℕ). a ^ n * a * x) (pow-suc b n))

pub pow_mul : (a n k : ℕ) → a ^ (n * k) ≡ (a ^ n) ^ k
pow_mul a n zero = simp (mul-zero, pow-zero)
pow_mul a n (suc k) =
    ap (λ (x : ℕ). a ^ x) (mul-suc n k) ∙ pow-add a (n * k) n ∙ ap (λ (x : ℕ). x * a ^ n) (pow_mul a n k) ∙ sym (pow-suc (a ^ n) k)

-- (q + 1) ^ k * r ≤ q ^ k * q for k + r = q: a power of (q + 1) / q grows no faster than q / (q - k)
pub compound : (q k r : ℕ) → k + r ≡ q → (q + 1) ^ k * r ≤ q ^ k * q
compound q zero r h = let l : r ≤ q = omega arith in simp pow-zero (mul-le-mul_left 1 l)
compound q (suc k) r h =
    let l : (q + 1) * r ≤ q * (r + 1) = simp (add-mul, mul-add, mul-one, one-mul) (omega arith) in
    le_trans (le_of_eq (ap (λ (x : ℕ). x * r) (pow-suc (q + 1) k) ∙ mul_assoc ((q + 1) ^ k) (q + 1) r))
    (le_trans (mul-le-mul_left ((q + 1) ^ k) l)
    (le_trans (le_of_eq (mul_left_comm ((q + 1) ^ k) q (r + 1) ∙ mul_comm q ((q + 1) ^ k * (r + 1))))
    (le_trans (mul-le-mul_right q (compound q k (r + 1) (omega arith)))
    (le_of_eq (ap (λ (x : ℕ). x * q) (sym (pow-suc q k)))))))

-- so it is at most 2 where r is at least half of q
pub at_most_double : (q k r : ℕ) → k + r ≡ q → q ≤ 2 * r → 0 < r → (q + 1) ^ k ≤ 2 * q ^ k
at_most_double q k r h l p =
    le_of_mul-le-mul_right
    (le_trans (compound q k r h)
    (le_trans (mul-le-mul_left (q ^ k) l) (le_of_eq (mul_left_comm (q ^ k) 2 r ∙ sym (mul_assoc 2 (q ^ k) r)))))
    p

-- ---- x ≥ 2 ^ (a - b) * y and x < 2 ^ (a - b) * y, of which only the difference a - b counts
pub reach_shift : (a b a' b' x y : ℕ) → a' + b ≤ a + b' → 2 ^ a * y ≤ x * 2 ^ b → 2 ^ a' * y ≤ x * 2 ^ b'
reach_shift a b a' b' x y l h =
    le_of_mul-le-mul_right
    (le_trans (le_of_eq (mul_right_comm (2 ^ a') y (2 ^ b) ∙ ap (λ (z : ℕ). z * y) (sym (pow-add 2 a' b))))
    (le_trans (mul-le-mul_right y (pow_mono l))
    (le_trans (le_of_eq (ap (λ (z : ℕ). z * y) (pow-add 2 a b') ∙ mul_right_comm (2 ^ a) (2 ^ b') y))
    (le_trans (mul-le-mul_right (2 ^ b') h) (le_of_eq (mul_right_comm x (2 ^ b) (2 ^ b')))))))
    (pow_pos b)

pub below_shift : (a b a' b' x y : ℕ) → a + b' ≤ a' + b → x * 2 ^ b < 2 ^ a * y → x * 2 ^ b' < 2 ^ a' * y
below_shift a b a' b' x y l h =
    lt_of_mul-lt-mul_right (2 ^ b)
    (lt_of_le_of_lt (le_of_eq (mul_right_comm x (2 ^ b') (2 ^ b)))
    (lt_of_lt_of_le (mul-lt-mul_of_pos_right h (pow_pos b'))
    (le_trans (le_of_eq (mul_right_comm (2 ^ a) y (2 ^ b') ∙ ap (λ (z : ℕ). z * y) (sym (pow-add 2 a b'))))
    (le_trans (mul-le-mul_right y (pow_mono l))
    (le_of_eq (ap (λ (z : ℕ). z * y) (pow-add 2 a' b) ∙ mul_right_comm (2 ^ a') (2 ^ b) y))))))

pub ne_zero : (n : ℕ) → 0 < n → n ≡ 0 → ⊥
ne_zero n p e = omega arith

-- ---- either side of an order, raised to a power

pub two_side : (k : ℤ) (y n r : ℕ) → (up k * y ^ n) ^ r ≡ 2 ^ (plus k * r) * y ^ (n * r)
two_side k y n r =
    mul_pow (up k) (y ^ n) r
    ∙ ap (λ (z : ℕ). z * (y ^ n) ^ r) (ap (λ (z : ℕ). z ^ r) (up_is k) ∙ sym (pow_mul 2 (plus k) r))
    ∙ ap (λ (z : ℕ). 2 ^ (plus k * r) * z) (sym (pow_mul y n r))

pub value_side : (k : ℤ) (x n r : ℕ) → (x ^ n * down k) ^ r ≡ x ^ (n * r) * 2 ^ (less k * r)
value_side k x n r =
    mul_pow (x ^ n) (down k) r
    ∙ ap (λ (z : ℕ). z * down k ^ r) (sym (pow_mul x n r))
    ∙ ap (λ (z : ℕ). x ^ (n * r) * z) (ap (λ (z : ℕ). z ^ r) (down_is k) ∙ sym (pow_mul 2 (less k) r))
