-- Two f64s above zero of which neither is larger are the same: each is written with an odd significand.
use mathlib.Core.Path.{◌≡◌, refl, sym, ap, ◌∙◌}
use mathlib.Core.Bool.{true, false, ◌&&◌}
use Prim.Native.Nat.{ℕ, zero, suc, ◌+◌, ◌*◌, ◌%◌, ◌^◌}
use lib.Pow.{pow-add}
use native.Mathlib.Nat.{le_antisymm, mul-one, mul_assoc, mul_left_comm, pow-succ'}
use native.Mathlib.Omega.{arith}
use lib.Dec.{T, ltb, leb, eqb, eqb→eq}
use lib.IntN.{ℤ, pos, negsuc}
use lib.Ieee.{Float, nan, inf, fin, Format, fits, prec, low, emax, up, down, le}
use lib.Ieee.Fits.{and_l}
use lib.Ieee.Positive.{positive, le→cross}

even_odd : (m t : ℕ) → m % 2 ≡ 1 → m ≡ 2 * t → ⊥
even_odd m t o h = omega arith

half_unique : (a b : ℕ) → 2 * a ≡ 2 * b → a ≡ b
half_unique a b h = omega arith

pow_twice : (m a : ℕ) → m * 2 ^ suc a ≡ 2 * (m * 2 ^ a)
pow_twice m a = ap (λ (x : ℕ). m * x) (pow-succ' 2 a) ∙ mul_left_comm m 2 (2 ^ a)

odd_pow_unique : (m n a b : ℕ) → m % 2 ≡ 1 → n % 2 ≡ 1 → m * 2 ^ a ≡ n * 2 ^ b → (m ≡ n) × (a ≡ b)
odd_pow_unique m n zero zero o p h = (sym (mul-one m) ∙ h ∙ mul-one n, refl)
odd_pow_unique m n zero (suc b) o p h = absurd (even_odd m (n * 2 ^ b) o (sym (mul-one m) ∙ h ∙ pow_twice n b))
odd_pow_unique m n (suc a) zero o p h = absurd (even_odd n (m * 2 ^ a) p (sym (mul-one n) ∙ sym h ∙ pow_twice m a))
odd_pow_unique m n (suc a) (suc b) o p h =
    let r = odd_pow_unique m n a b o p (half_unique (m * 2 ^ a) (n * 2 ^ b) (sym (pow_twice m a) ∙ h ∙ pow_twice n b)) in
    (r.0, ap suc r.1)

significand_odd : (f : Format) (m : ℕ) (e : ℤ) → T (fits f (fin false (suc m) e)) → suc m % 2 ≡ 1
unfolding fits
significand_odd f m e t =
    eqb→eq (suc m % 2) 1 (and_l (eqb (suc m % 2) 1) (ltb (suc m) (2 ^ prec f)) (and_l (eqb (suc m % 2) 1 && ltb (suc m) (2 ^ prec f)) (leb (down e) (2 ^ low f))
    (and_l (eqb (suc m % 2) 1 && ltb (suc m) (2 ^ prec f) && leb (down e) (2 ^ low f)) (ltb (suc m * up e) (2 ^ suc (emax f) * down e)) t)))

-- the exponents' parts as one power of 2
exponents_unique : (m n : ℕ) (e d : ℤ) → m % 2 ≡ 1 → n % 2 ≡ 1 → m * up e * down d ≡ n * up d * down e → (m ≡ n) × (e ≡ d)
exponents_unique m n (pos a) (pos b) o p h =
    let r = odd_pow_unique m n a b o p (sym (mul-one (m * 2 ^ a)) ∙ h ∙ mul-one (n * 2 ^ b)) in (r.0, ap pos r.1)
exponents_unique m n (pos a) (negsuc b) o p h =
    let r = odd_pow_unique m n (a + suc b) 0 o p (ap (λ (x : ℕ). m * x) (pow-add 2 a (suc b)) ∙ sym (mul_assoc m (2 ^ a) (2 ^ suc b)) ∙ h ∙ mul-one (n * 1)) in
    absurd (let z : ⊥ = omega (arith, r.1) in z)
exponents_unique m n (negsuc a) (pos b) o p h =
    let r =
    odd_pow_unique n m (b + suc a) 0 p o (ap (λ (x : ℕ). n * x) (pow-add 2 b (suc a)) ∙ sym (mul_assoc n (2 ^ b) (2 ^ suc a)) ∙ sym h ∙ mul-one (m * 1)) in
    absurd (let z : ⊥ = omega (arith, r.1) in z)
exponents_unique m n (negsuc a) (negsuc b) o p h =
    let r = odd_pow_unique m n (suc b) (suc a) o p (ap (λ (x : ℕ). x * 2 ^ suc b) (sym (mul-one m)) ∙ h ∙ ap (λ (x : ℕ). x * 2 ^ suc a) (mul-one n)) in
    (r.0, ap negsuc (let q : a ≡ b = omega (arith, r.1) in q))

pub le_antisym : (f : Format) (x y : Float) → T (positive x) → T (positive y) → T (fits f x) → T (fits f y) → T (le x y) → T (le y x) → x ≡ y
le_antisym f nan y p q s t h k = absurd p
le_antisym f (inf b) y p q s t h k = absurd p
le_antisym f (fin true m e) y p q s t h k = absurd p
le_antisym f (fin false zero e) y p q s t h k = absurd p
le_antisym f (fin false (suc m) e) nan p q s t h k = absurd q
le_antisym f (fin false (suc m) e) (inf b) p q s t h k = absurd q
le_antisym f (fin false (suc m) e) (fin true n d) p q s t h k = absurd q
le_antisym f (fin false (suc m) e) (fin false zero d) p q s t h k = absurd q
le_antisym f (fin false (suc m) e) (fin false (suc n) d) p q s t h k =
    let r = exponents_unique (suc m) (suc n) e d (significand_odd f m e s) (significand_odd f n d t)
    (le_antisymm (le→cross (fin false (suc m) e) (fin false (suc n) d) p q h) (le→cross (fin false (suc n) d) (fin false (suc m) e) q p k)) in
    λ i. fin false (r.0 i) (r.1 i)
