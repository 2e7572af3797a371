-- Division rounded down (`specs/Division`): what the quotient and the remainder are, and that the library's are these.
use mathlib.Core.Path.{◌≡◌, refl, sym, ap, ◌∙◌}
use Prim.Native.Nat.{ℕ, ◌+◌, ◌*◌, ◌/◌, ◌%◌, ◌<◌}
use native.Mathlib.Nat.{mod-lt, div-add-mod', suc-mul, zero-mul, add-mul}
use native.Mathlib.Omega.{arith}
use lib.Arith.{digits_div, digits_mod}
use lib.IntN.{ℤ, pos, negsuc, ◌+ℤ◌, ◌*ℤ◌}
use Rattle.std.specs.Int.{int_div_euclid, int_rem_euclid}
use Rattle.arithmetic.specs.Division.{quotient, remainder}
use Rattle.arithmetic.proofs.Numbers.Integers.{plus, less, eq_by_parts, add_parts, mul_parts}

-- ---- the law: z = quotient * d + remainder, with a remainder below d

pub remainder_below : (z : ℤ) (d : ℕ) → 0 < d → remainder z d < d
unfolding remainder
remainder_below (pos n) d D = mod-lt n D
remainder_below (negsuc n) d D = omega arith

-- the same over the two parts of integers
pub quotient_parts : (z : ℤ) (d : ℕ) → 0 < d → plus (quotient z d) * d + remainder z d + less z ≡ plus z + less (quotient z d) * d
unfolding remainder
quotient_parts (pos n) d D = omega (arith, div-add-mod' n d, zero-mul d)
quotient_parts (negsuc n) d D = omega (arith, div-add-mod' n d, mod-lt n D, zero-mul d, suc-mul (n / d) d)

digits_unique : (d x y a b : ℕ) → a < d → b < d → x * d + a ≡ y * d + b → (x ≡ y) × (a ≡ b)
digits_unique d x y a b l k e =
    (sym (digits_div x l) ∙ ap (λ (n : ℕ). n / d) e ∙ digits_div y k, sym (digits_mod x l) ∙ ap (λ (n : ℕ). n % d) e ∙ digits_mod y k)

-- no other quotient and remainder do that
pub division_unique : (z q : ℤ) (d r : ℕ) → r < d → q *ℤ pos d +ℤ pos r ≡ z → (quotient z d ≡ q) × (remainder z d ≡ r)
division_unique z q d r l e =
    let D : 0 < d = omega arith in
    let Q = quotient z d in
    let R = remainder z d in
    let parts : plus q * d + r + less z ≡ plus z + less q * d = omega (arith, mul_parts q d, add_parts (q *ℤ pos d) (pos r), ap plus e, ap less e) in
    let u = digits_unique d (plus Q + less q) (plus q + less Q) R r (remainder_below z d D) l
    (omega (arith, quotient_parts z d D, add-mul (plus Q) (less q) d, add-mul (plus q) (less Q) d)) in
    (eq_by_parts Q q u.0, u.1)

-- ---- the library's division that leaves a rest of at least 0, by a whole number

pub div_euclid_is : (z : ℤ) (d : ℕ) → int_div_euclid z (pos d) ≡ quotient z d
div_euclid_is (pos n) d = refl
div_euclid_is (negsuc n) d = refl

pub rem_euclid_is : (z : ℤ) (d : ℕ) → int_rem_euclid z (pos d) ≡ pos (remainder z d)
unfolding remainder
rem_euclid_is (pos n) d = refl
rem_euclid_is (negsuc n) d = refl
