-- The measure of m * 2 ^ (k - 1074) from m's digits in a word of 64, as `pitch::first_digits` finds them.
use mathlib.Core.Path.{◌≡◌, refl, sym, ap, ◌∙◌}
use Prim.Native.Nat.{ℕ, zero, suc, ◌+◌, ◌-◌, ◌*◌, ◌/◌, ◌%◌, ◌^◌, ◌≤◌, ◌<◌}
use native.Mathlib.Nat.{le_antisymm, le_refl, le_trans, lt_irrefl, suc-add, mul-le-mul_right, mul_right_comm, lt_of_lt_of_le, lt_of_not-le, not-le_of_lt, le_of_eq, mul_comm, mul_assoc, mul-div-mul_right}
use native.Mathlib.Omega.{arith}
use mathlib.Core.Bool.{Bool, false}
use lib.Pow.{pow_pos, pow-add, pow_mono, shl_exact, shl_lt}
use lib.Count.{count_leading_zeros, leading_top}
use lib.IntN.{ℤ, pos, negsuc, ◌-ℤ◌}
use lib.Ieee.{fin, size}
use lib.Ieee.Digits.{size-lt, size-le, size_reaches}
use Rattle.arithmetic.specs.Measure.{digits, first32, measure}
use Rattle.arithmetic.proofs.Numbers.Integers.{plus, less, eq_by_parts, add_parts}
use Rattle.arithmetic.proofs.Measure.Law.{measure_at, measure_parts}

-- ---- how many digits a number has

size_above : (n a : ℕ) → 2 ^ a ≤ n → a < size n
size_above n a h = lt_of_not-le (λ g. not-le_of_lt (lt_of_lt_of_le (size-lt n) (pow_mono g)) h)

pub size_pos : (n : ℕ) → 0 < n → 0 < size n
size_pos n h = size_above n 0 h

pub size_is : (n a : ℕ) → 2 ^ a ≤ n → n < 2 ^ suc a → size n ≡ suc a
size_is n a lo hi = le_antisymm (size-le n (suc a) hi) (size_above n a lo)

-- in a word of w digits
pub zeros_size : (w m : ℕ) → 0 < m → m < 2 ^ w → count_leading_zeros w m + size m ≡ w
zeros_size w m h l =
    let t = leading_top w m h l in
    ap (λ (x : ℕ). count_leading_zeros w m + x) (size_is m t.0 t.2 t.3) ∙ t.1

-- ---- the first 32 digits, from the word with the leading zeros shifted out

pub first32_word : (m z : ℕ) → z + size m ≡ 64 → m * 2 ^ z % 2 ^ 64 / 2 ^ 32 ≡ first32 m
unfolding first32
first32_word m z h =
    let s = size m in
    let exact : m * 2 ^ z % 2 ^ 64 ≡ m * 2 ^ z = shl_exact s z 64 (size-lt m) (omega arith) in
    let top : m * 2 ^ z * 2 ^ s ≡ m * 2 ^ 32 * 2 ^ 32 =
    mul_assoc m (2 ^ z) (2 ^ s) ∙ ap (λ (x : ℕ). m * x) (sym (pow-add 2 z s) ∙ ap (λ (x : ℕ). 2 ^ x) h) ∙ sym (mul_assoc m (2 ^ 32) (2 ^ 32)) in
    ap (λ (x : ℕ). x / 2 ^ 32) exact
    ∙ sym (mul-div-mul_right (m * 2 ^ z) (2 ^ 32) (pow_pos s))
    ∙ ap (λ (x : ℕ). x / (2 ^ 32 * 2 ^ s)) top
    ∙ ap (λ (x : ℕ). m * 2 ^ 32 * 2 ^ 32 / x) (mul_comm (2 ^ 32) (2 ^ s))
    ∙ mul-div-mul_right (m * 2 ^ 32) (2 ^ s) (pow_pos 32)

-- ---- the measure, with 1074 * 2 ^ 24 taken off last

measure_is : (s : Bool) (m : ℕ) (e : ℤ) → measure (fin s m e) ≡ measure_at 24 m e
unfolding measure measure_at
measure_is s m e = refl

pub scaled : (m k z : ℕ) → z + size m ≡ 64 → z < 64
    → pos ((k + 63 - z) * 2 ^ 24 + digits 24 (first32 m)) -ℤ pos (1074 * 2 ^ 24) ≡ measure (fin false m (pos k -ℤ pos 1074))
scaled m k z h l =
    let e = pos k -ℤ pos 1074 in
    let x = (k + 63 - z) * 2 ^ 24 + digits 24 (first32 m) in
    eq_by_parts (pos x -ℤ pos (1074 * 2 ^ 24)) (measure_at 24 m e)
    (omega (arith, add_parts (pos x) (negsuc 18018729983), measure_parts 24 m e, add_parts (pos k) (negsuc 1073)))
    ∙ sym (measure_is false m e)

-- ---- the measure depends on the number alone, however m and e share it

-- with j zeros behind it a number has j digits more, and the same first ones
size_shift : (m j : ℕ) → 0 < m → size (m * 2 ^ j) ≡ size m + j
size_shift m j h = go (size m) (size-lt m) (size_reaches m) (size_pos m h)
  where
    go : (z : ℕ) → m < 2 ^ z → ((i : ℕ) → i < z → 2 ^ i ≤ m) → 0 < z → size (m * 2 ^ j) ≡ z + j
    go zero u r p = absurd (lt_irrefl 0 p)
    go (suc a) u r p =
        size_is (m * 2 ^ j) (a + j)
        (le_trans (le_of_eq (pow-add 2 a j)) (mul-le-mul_right (2 ^ j) (r a (le_refl (suc a)))))
        (lt_of_lt_of_le (shl_lt (suc a) j u) (le_of_eq (ap (λ (x : ℕ). 2 ^ x) (suc-add a j))))
        ∙ sym (suc-add a j)

first32_shift : (m j : ℕ) → 0 < m → first32 (m * 2 ^ j) ≡ first32 m
unfolding first32
first32_shift m j h =
    ap (λ (x : ℕ). m * 2 ^ j * 2 ^ 32 / 2 ^ x) (size_shift m j h)
    ∙ ap (λ (x : ℕ). m * 2 ^ j * 2 ^ 32 / x) (pow-add 2 (size m) j)
    ∙ ap (λ (x : ℕ). x / (2 ^ size m * 2 ^ j)) (mul_right_comm m (2 ^ j) (2 ^ 32))
    ∙ mul-div-mul_right (m * 2 ^ 32) (2 ^ size m) (pow_pos j)

-- m * 2 ^ e = m' * 2 ^ e', where a - b = e - e'
pub measure_same : (m m' a b : ℕ) (e e' : ℤ) (s : Bool) → 0 < m → 0 < m' → m * 2 ^ a ≡ m' * 2 ^ b → a + less e + plus e' ≡ b + plus e + less e'
    → measure (fin s m e) ≡ measure (fin s m' e')
measure_same m m' a b e e' s h h' v d =
    let z : size m + a ≡ size m' + b = sym (size_shift m a h) ∙ ap size v ∙ size_shift m' b h' in
    let f : digits 24 (first32 m) ≡ digits 24 (first32 m') = ap (digits 24) (sym (first32_shift m a h) ∙ ap first32 v ∙ first32_shift m' b h') in
    measure_is s m e
    ∙ eq_by_parts (measure_at 24 m e) (measure_at 24 m' e') (omega (arith, measure_parts 24 m e, measure_parts 24 m' e'))
    ∙ sym (measure_is s m' e')
