-- The measure L of a positive float v: 2 ^ L ≤ v ^ (2 ^ 24) < 2 ^ (L + 2).
-- One squaring of y, a number from 2 ^ 31 to 2 ^ 32 that stands for y / 2 ^ 31, cuts off less than one from a number of at least 2 ^ 31, and so loses
-- a factor of at most (2 ^ 31 + 1) / 2 ^ 31. The factors of 24 squarings and of the first cut make at most 2 together.
use mathlib.Core.Path.{◌≡◌, refl, sym, ap, ◌∙◌}
use Prim.Native.Nat.{ℕ, zero, suc, ◌+◌, ◌-◌, ◌*◌, ◌/◌, ◌^◌, ◌≤◌, ◌<◌}
use native.Mathlib.Nat.{le_refl, le_trans, le_of_eq, le_of_lt, lt_of_lt_of_le, lt_of_le_of_lt, mul_comm, mul_assoc, mul_left_comm, mul_right_comm, mul-one, one-mul, add-mul, mul-add, mul-mul-mul_comm, mul-le-mul, mul-le-mul_left, mul-le-mul_right, mul-lt-mul_of_pos_right, mul-pos, one-le-pow, le_of_mul-le-mul_right, lt_of_mul-lt-mul_right, pow-le-pow_left, pow-suc, two-pow-succ, pow-succ', add_assoc, le-mul_of_pos_right, div-mul-le_self, lt-div-mul-add, div-lt_iff_lt-mul, le-div_iff_mul-le}
use native.Mathlib.Omega.{arith}
use borrow.Author.Tests.{leb-true, leb-false}
use mathlib.Core.Bool.{Bool, true, false, not, cond}
use lib.Dec.{T, leb, leb→le, nleb→lt, ltb→lt, lit<, lit≤}
use lib.Pow.{pow_pos, pow-add}
use lib.IntN.{ℤ, pos, negsuc, ◌+ℤ◌, ◌-ℤ◌, ◌*ℤ◌}
use lib.Ieee.{Float, nan, inf, fin, size, up, down}
use lib.Ieee.Digits.{size-lt, size_reaches}
use lib.Ieee.Positive.{positive}
use Rattle.arithmetic.specs.Measure.{square, digit, next, digits, first32, measure}
use Rattle.arithmetic.specs.Powers.{AtLeast, Below}
use Rattle.arithmetic.proofs.Numbers.Integers.{plus, less, add_parts, mul_parts, up_is, down_is}
use Rattle.arithmetic.proofs.Numbers.Powers.{pow_one, mul_pow, pow_mul, at_most_double, reach_shift, below_shift}

-- ---- one squaring

-- y is a number of 32 digits
pub record Has32Digits (y : ℕ) : Type 0 where
  pub low : 2 ^ 31 ≤ y
  pub high : y < 2 ^ 32

-- what a squaring gives: the next y, and that y² is the next y times 2 ^ digit, in units of 2 ^ 31, but for what was cut off
pub record Squared (y d y' : ℕ) : Type 0 where
  pub held : Has32Digits y'
  pub lower : y' * 2 ^ d * 2 ^ 31 ≤ y * y
  pub upper : y * y < y' * 2 ^ d * (2 ^ 31 + 1)

square_low : (y : ℕ) → 2 ^ 31 ≤ y → 2 ^ 62 ≤ y * y
square_low y h = mul-le-mul h h

pub square_high : (y : ℕ) → y < 2 ^ 32 → y * y < 2 ^ 64
square_high y h = lt_of_le_of_lt (mul-le-mul_left y (le_of_lt h)) (mul-lt-mul_of_pos_right h (pow_pos 32))

pub squared : (y : ℕ) → Has32Digits y → Squared y (digit y) (next y)
unfolding square digit next
squared y h = go (leb (2 ^ 32) (square y)) (leb→le (2 ^ 32) (square y)) (nleb→lt (2 ^ 32) (square y)) (square_low y h.low) (square_high y h.high)
  where
    go : (b : Bool) → (T b → 2 ^ 32 ≤ square y) → (T (not b) → square y < 2 ^ 32) → 2 ^ 62 ≤ y * y → y * y < 2 ^ 64
        → Squared y (cond b 1 0) (cond b (square y / 2) (square y))
    go true t f l u =
        let k : 2 ^ 32 ≤ y * y / 2 ^ 31 = t tt in record { held = record { low = omega arith; high = omega arith }; lower = omega arith; upper = omega arith }
    go false t f l u =
        let k : y * y / 2 ^ 31 < 2 ^ 32 = f tt in record { held = record { low = omega arith; high = omega arith }; lower = omega arith; upper = omega arith }

-- ---- all squarings: the number D that n of them write has 2 ^ D ≤ (y / 2 ^ 31) ^ (2 ^ n) < 2 ^ D * 2 * ((2 ^ 31 + 1) / 2 ^ 31) ^ (2 ^ n)

pow_double : (a n : ℕ) → a ^ (2 ^ suc n) ≡ (a * a) ^ (2 ^ n)
pow_double a n = ap (λ (x : ℕ). a ^ x) (two-pow-succ n) ∙ pow-add a (2 ^ n) (2 ^ n) ∙ sym (mul_pow a a (2 ^ n))

-- K-th powers of one squaring's two sides, with q for 2 ^ 31 and for 2 ^ 31 + 1
module _ (d K q : ℕ) where
  digit_powers : (D : ℕ) → 2 ^ (d * K + D) * (q * q) ^ K ≡ 2 ^ D * q ^ K * ((2 ^ d) ^ K * q ^ K)
  digit_powers D =
      ap (λ (x : ℕ). x * (q * q) ^ K) (pow-add 2 (d * K) D ∙ ap (λ (x : ℕ). x * 2 ^ D) (pow_mul 2 d K) ∙ mul_comm ((2 ^ d) ^ K) (2 ^ D))
      ∙ ap (λ (x : ℕ). 2 ^ D * (2 ^ d) ^ K * x) (mul_pow q q K)
      ∙ mul-mul-mul_comm (2 ^ D) ((2 ^ d) ^ K) (q ^ K) (q ^ K)

  next_powers : (y : ℕ) → y ^ K * ((2 ^ d) ^ K * q ^ K) ≡ (y * 2 ^ d * q) ^ K
  next_powers y = sym (mul_pow (y * 2 ^ d) q K ∙ ap (λ (x : ℕ). x * q ^ K) (mul_pow y (2 ^ d) K) ∙ mul_assoc (y ^ K) ((2 ^ d) ^ K) (q ^ K))

digits_lower : (n y : ℕ) → Has32Digits y → 2 ^ digits n y * (2 ^ 31) ^ (2 ^ n) ≤ y ^ (2 ^ n)
unfolding digits
digits_lower zero y h = rw (pow_one y) h.low
digits_lower (suc n) y h =
    let s = squared y h in
    let d = digit y in
    let K = 2 ^ n in
    rw (pow_double (2 ^ 31) n, pow_double y n)
    (le_trans (le_of_eq (digit_powers d K (2 ^ 31) (digits n (next y))))
    (le_trans (mul-le-mul_right ((2 ^ d) ^ K * (2 ^ 31) ^ K) (digits_lower n (next y) s.held))
    (le_trans (le_of_eq (next_powers d K (2 ^ 31) (next y))) (pow-le-pow_left s.lower K))))

digits_upper : (n y : ℕ) → Has32Digits y → y ^ (2 ^ n) < 2 * (2 ^ digits n y * (2 ^ 31 + 1) ^ (2 ^ n))
unfolding digits
digits_upper zero y h = rw (pow_one y) (omega arith)
digits_upper (suc n) y h =
    let s = squared y h in
    let d = digit y in
    let K = 2 ^ n in
    let D = digits n (next y) in
    let R = 2 ^ 31 + 1 in
    rw (pow_double R n, pow_double y n)
    (lt_of_le_of_lt (pow-le-pow_left (le_of_lt s.upper) K)
    (lt_of_le_of_lt (le_of_eq (sym (next_powers d K R (next y))))
    (lt_of_lt_of_le (mul-lt-mul_of_pos_right (digits_upper n (next y) s.held) (mul-pos (one-le-pow K (2 ^ d) (pow_pos d)) (one-le-pow K R (lit< tt))))
    (le_of_eq (mul_assoc 2 (2 ^ D * R ^ K) ((2 ^ d) ^ K * R ^ K) ∙ ap (λ (x : ℕ). 2 * x) (sym (digit_powers d K R D)))))))

-- ---- the first 32 digits

no_digit : (m : ℕ) → 0 < m → m < 2 ^ 0 → ⊥
no_digit m h k = omega arith

-- the leading digit of a number above 0
leading_digit : (m : ℕ) → 0 < m → 2 ^ size m ≤ m * 2
leading_digit m h = go (size m) (size-lt m) (size_reaches m)
  where
    go : (z : ℕ) → m < 2 ^ z → ((j : ℕ) → j < z → 2 ^ j ≤ m) → 2 ^ z ≤ m * 2
    go zero l r = absurd (no_digit m h l)
    go (suc j) l r = le_trans (le_of_eq (pow-suc 2 j)) (mul-le-mul_right 2 (r j (le_refl (suc j))))

pub first32_has_digits : (m : ℕ) → 0 < m → Has32Digits (first32 m)
unfolding first32
first32_has_digits m h =
    let P = pow_pos (size m) in
    record {
      low = (le-div_iff_mul-le P).1 (le_trans (mul-le-mul_left (2 ^ 31) (leading_digit m h)) (le_of_eq (mul_left_comm (2 ^ 31) m 2)));
      high = (div-lt_iff_lt-mul P).1 (lt_of_lt_of_le (mul-lt-mul_of_pos_right (size-lt m) (pow_pos 32)) (le_of_eq (mul_comm (2 ^ size m) (2 ^ 32))));
    }

first32_lower : (m : ℕ) → first32 m * 2 ^ size m ≤ m * 2 ^ 32
unfolding first32
first32_lower m = div-mul-le_self (m * 2 ^ 32) (2 ^ size m)

first32_upper : (m : ℕ) → m * 2 ^ 32 < (first32 m + 1) * 2 ^ size m
unfolding first32
first32_upper m = rw (add-mul, one-mul) (lt-div-mul-add (pow_pos (size m)))

-- ---- a whole number m above 0, n squarings: 2 ^ D ≤ (m * 2 / 2 ^ size m) ^ (2 ^ n) < 2 ^ D * 4

next_ratio_le : (y q : ℕ) → q ≤ y → (y + 1) * q ≤ y * (q + 1)
next_ratio_le y q l = simp (add-mul, mul-add, one-mul, mul-one) (omega arith)

mul_spread : (a b c t : ℕ) → t * (a * b) * (b * c) ≡ t * a * c * (b * b)
mul_spread a b c t = simp (mul_assoc, mul_comm, mul_left_comm)

mul_collect : (a c q t : ℕ) → t * a * c * (t * q) ≡ a * (t * t) * c * q
mul_collect a c q t = simp (mul_assoc, mul_comm, mul_left_comm)

module _ (n m : ℕ) (h : 0 < m) where
  mantissa_lower : 2 ^ digits n (first32 m) * (2 ^ size m) ^ (2 ^ n) ≤ (m * 2) ^ (2 ^ n)
  mantissa_lower =
      let K = 2 ^ n in
      let Q = 2 ^ 31 in
      let y = first32 m in
      let D = digits n y in
      let S = 2 ^ size m in
      le_of_mul-le-mul_right
      (le_trans (le_of_eq (mul_right_comm (2 ^ D) (S ^ K) (Q ^ K)))
      (le_trans (mul-le-mul_right (S ^ K) (digits_lower n y (first32_has_digits m h)))
      (le_trans (le_of_eq (sym (mul_pow y S K)))
      (le_trans (pow-le-pow_left (first32_lower m) K)
      (le_of_eq (ap (λ (x : ℕ). x ^ K) (sym (mul_assoc m 2 Q)) ∙ mul_pow (m * 2) Q K))))))
      (one-le-pow K Q (pow_pos 31))

  mantissa_upper : (r : ℕ) → 2 ^ suc n + r ≡ 2 ^ 31 → 2 ^ 31 ≤ 2 * r → 0 < r → (m * 2) ^ (2 ^ n) < 2 ^ digits n (first32 m) * 4 * (2 ^ size m) ^ (2 ^ n)
  mantissa_upper r e l p =
      let K = 2 ^ n in
      let Q = 2 ^ 31 in
      let R = 2 ^ 31 + 1 in
      let y = first32 m in
      let D = digits n y in
      let S = 2 ^ size m in
      let held = first32_has_digits m h in
      let start : m * 2 * (Q * Q) ≤ y * R * S =
      le_trans (le_of_eq (sym (mul_assoc (m * 2) Q Q) ∙ ap (λ (x : ℕ). x * Q) (mul_assoc m 2 Q)))
      (le_trans (mul-le-mul_right Q (le_of_lt (first32_upper m)))
      (le_trans (le_of_eq (mul_right_comm (y + 1) S Q)) (mul-le-mul_right S (next_ratio_le y Q held.low)))) in
      let double : (R * R) ^ K ≤ 2 * (Q * Q) ^ K = rw (← pow_double R n, ← pow_double Q n) (at_most_double Q (2 ^ suc n) r e l p) in
      lt_of_mul-lt-mul_right ((Q * Q) ^ K)
      (lt_of_le_of_lt (le_of_eq (sym (mul_pow (m * 2) (Q * Q) K)))
      (lt_of_le_of_lt (pow-le-pow_left start K)
      (lt_of_le_of_lt (le_of_eq (mul_pow (y * R) S K ∙ ap (λ (x : ℕ). x * S ^ K) (mul_pow y R K) ∙ mul_assoc (y ^ K) (R ^ K) (S ^ K)))
      (lt_of_lt_of_le (mul-lt-mul_of_pos_right (digits_upper n y held) (mul-pos (one-le-pow K R (lit< tt)) (one-le-pow K S (pow_pos (size m)))))
      (le_trans (le_of_eq (mul_spread (2 ^ D) (R ^ K) (S ^ K) 2 ∙ ap (λ (x : ℕ). 2 * 2 ^ D * S ^ K * x) (sym (mul_pow R R K))))
      (le_trans (mul-le-mul_left (2 * 2 ^ D * S ^ K) double) (le_of_eq (mul_collect (2 ^ D) (S ^ K) ((Q * Q) ^ K) 2))))))))

-- ---- the law

-- v = m * 2 ^ e, of n squarings. The exponents of 2 are gathered on either side, and their difference is the measure's.
unfoldable pub measure_at : ℕ → ℕ → ℤ → ℤ
measure_at n m e = (e +ℤ pos (size m) -ℤ pos 1) *ℤ pos (2 ^ n) +ℤ pos (digits n (first32 m))

-- plus L - less L = (plus e - less e + size m - 1) * 2 ^ n + D
pub measure_parts : (n m : ℕ) (e : ℤ)
    → plus (measure_at n m e) + (less e * 2 ^ n + 2 ^ n) ≡ less (measure_at n m e) + (plus e * 2 ^ n + size m * 2 ^ n) + digits n (first32 m)
unfolding measure_at
measure_parts n m e =
    let a = e +ℤ pos (size m) in
    let b = a -ℤ pos 1 in
    let K = 2 ^ n in
    let p : plus b + (less e + 1) ≡ less b + (plus e + size m) = omega (arith, add_parts e (pos (size m)), add_parts a (negsuc 0)) in
    let q : plus b * K + (less e * K + K) ≡ less b * K + (plus e * K + size m * K) = simp (add-mul, one-mul) at (ap (λ (x : ℕ). x * K) p) in
    omega (arith, mul_parts b K, add_parts (b *ℤ pos K) (pos (digits n (first32 m))))

-- the two sides of the law by their exponents of 2
two_side : (L e : ℤ) (K : ℕ) → up L * down e ^ K ≡ 2 ^ (plus L + less e * K) * 1
two_side L e K =
    ap (λ (x : ℕ). x * down e ^ K) (up_is L)
    ∙ ap (λ (x : ℕ). 2 ^ plus L * x) (ap (λ (x : ℕ). x ^ K) (down_is e) ∙ sym (pow_mul 2 (less e) K))
    ∙ sym (pow-add 2 (plus L) (less e * K))
    ∙ sym (mul-one (2 ^ (plus L + less e * K)))

value_side : (m : ℕ) (L e : ℤ) (K : ℕ) → (m * up e) ^ K * down L ≡ m ^ K * 2 ^ (plus e * K + less L)
value_side m L e K =
    ap (λ (x : ℕ). x * down L) (mul_pow m (up e) K ∙ ap (λ (x : ℕ). m ^ K * x) (ap (λ (x : ℕ). x ^ K) (up_is e) ∙ sym (pow_mul 2 (plus e) K)))
    ∙ ap (λ (x : ℕ). m ^ K * 2 ^ (plus e * K) * x) (down_is L)
    ∙ mul_assoc (m ^ K) (2 ^ (plus e * K)) (2 ^ less L)
    ∙ ap (λ (x : ℕ). m ^ K * x) (sym (pow-add 2 (plus e * K) (less L)))

-- the same over the exponents of 2: m ^ K * 2 ^ K against 2 ^ (D + size m * K)
module _ (n m : ℕ) (e : ℤ) (h : 0 < m) where
  at_least : up (measure_at n m e) * down e ^ (2 ^ n) ≤ (m * up e) ^ (2 ^ n) * down (measure_at n m e)
  at_least =
      let K = 2 ^ n in
      let L = measure_at n m e in
      let z = size m in
      let D = digits n (first32 m) in
      let bound : 2 ^ (D + z * K) * 1 ≤ m ^ K * 2 ^ K = rw (mul-one, pow-add 2 D (z * K), pow_mul 2 z K, ← mul_pow m 2 K) (mantissa_lower n m h) in
      rw (two_side L e K, value_side m L e K)
      (reach_shift (D + z * K) K (plus L + less e * K) (plus e * K + less L) (m ^ K) 1 (omega (arith, measure_parts n m e)) bound)

  below : (r : ℕ) → 2 ^ suc n + r ≡ 2 ^ 31 → 2 ^ 31 ≤ 2 * r → 0 < r
      → (m * up e) ^ (2 ^ n) * down (measure_at n m e +ℤ pos 2) < up (measure_at n m e +ℤ pos 2) * down e ^ (2 ^ n)
  below r i l p =
      let K = 2 ^ n in
      let L = measure_at n m e in
      let z = size m in
      let D = digits n (first32 m) in
      let bound : m ^ K * 2 ^ K < 2 ^ (D + 2 + z * K) * 1 =
      rw (mul-one, pow-add 2 (D + 2) (z * K), pow-add 2 D 2, pow_mul 2 z K, ← mul_pow m 2 K) (mantissa_upper n m h r i l p) in
      rw (two_side (L +ℤ pos 2) e K, value_side m (L +ℤ pos 2) e K)
      (below_shift (D + 2 + z * K) K (plus (L +ℤ pos 2) + less e * K) (plus e * K + less (L +ℤ pos 2)) (m ^ K) 1
      (omega (arith, measure_parts n m e, add_parts L (pos 2))) bound)

pub measure_law : (v : Float) → T (positive v) → AtLeast (measure v) v (2 ^ 24) × Below v (2 ^ 24) (measure v +ℤ pos 2)
unfolding measure measure_at
measure_law nan p = absurd p
measure_law (inf s) p = absurd p
measure_law (fin true m e) p = absurd p
measure_law (fin false m e) p =
    let h = ltb→lt 0 m p in
    (at_least 24 m e h, below 24 m e h (2 ^ 31 - 2 ^ 25) refl (lit≤ tt) (lit< tt))

-- ---- what a loop over the squarings uses

-- a squaring by shifts: the digit is the square's first of 64 binary digits
pub record Shifted (y d y' : ℕ) : Type 0 where
  pub is_digit : d ≡ digit y
  pub is_next : y' ≡ next y
  pub small : d ≤ 1
  pub high : y' < 2 ^ 32

pub shifted : (y : ℕ) → y < 2 ^ 32 → Shifted y (y * y / 2 ^ 63) (y * y / 2 ^ 31 / 2 ^ (y * y / 2 ^ 63))
unfolding square digit next
shifted y h = go (leb (2 ^ 32) (y * y / 2 ^ 31)) refl (square_high y h)
  where
    go : (b : Bool) → leb (2 ^ 32) (y * y / 2 ^ 31) ≡ b → y * y < 2 ^ 64 → Shifted y (y * y / 2 ^ 63) (y * y / 2 ^ 31 / 2 ^ (y * y / 2 ^ 63))
    go true e u =
        let k = leb-true (2 ^ 32) (y * y / 2 ^ 31) e in
        let d : y * y / 2 ^ 63 ≡ 1 = omega arith in
        rw (d) (record { is_digit = rw e; is_next = rw e; small = omega arith; high = omega arith })
    go false e u =
        let k = leb-false (2 ^ 32) (y * y / 2 ^ 31) e in
        let d : y * y / 2 ^ 63 ≡ 0 = omega arith in
        rw (d)
        (record { is_digit = rw e; is_next = rw e (let q : y * y / 2 ^ 31 / 1 ≡ y * y / 2 ^ 31 = omega arith in q); small = omega arith; high = omega arith })

-- w is written, and n + 1 digits of y are to come
pub squaring_turn : (n w y w' y' : ℕ) → w' ≡ w * 2 + digit y → next y ≡ y' → w * 2 ^ suc n + digits (suc n) y ≡ w' * 2 ^ n + digits n y'
unfolding digits
squaring_turn n w y w' y' e f =
    rw (e, ← f, add-mul, pow-succ' 2 n, mul_assoc w 2 (2 ^ n)) (sym (add_assoc (w * (2 * 2 ^ n)) (digit y * 2 ^ n) (digits n (next y))))

digit_le : (y : ℕ) → digit y ≤ 1
unfolding digit
digit_le y = go (leb (2 ^ 32) (square y))
  where
    go : (b : Bool) → cond b 1 0 ≤ 1
    go true = lit≤ tt
    go false = lit≤ tt

pub digits_lt : (n y : ℕ) → digits n y < 2 ^ n
unfolding digits
digits_lt zero y = lit< tt
digits_lt (suc n) y =
    let a = mul-le-mul_right (2 ^ n) (digit_le y) in
    omega (arith, one-mul (2 ^ n), digits_lt n (next y), two-pow-succ n)

-- so what is written stays small
pub written_lt : (n w y D : ℕ) → w * 2 ^ n + digits n y ≡ D → D < 2 ^ 24 → w < 2 ^ 24
written_lt n w y D e l = omega (arith, le-mul_of_pos_right w (pow_pos n))
