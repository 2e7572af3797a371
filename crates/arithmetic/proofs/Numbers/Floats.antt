-- Floats. Division of those that are finite and above zero, in every format: it rounds the exact quotient once, it grows with the dividend and shrinks with
-- the divisor, and a number divided by itself is 1. And the order that a struct of one float derives.
use mathlib.Core.Path.{◌≡◌, refl, sym, ap, ◌∙◌, subst}
use mathlib.Core.Bool.{Bool, true, false, cond}
use Prim.Native.Nat.{ℕ, ◌*◌, ◌<◌}
use native.Mathlib.Nat.{le_trans, le_of_eq, mul_comm, mul-mul-mul_comm, mul-le-mul, mul-pos, mul-one, one-mul}
use native.Mathlib.Omega.{arith}
use lib.Dec.{T, ltb, eqb, ltb→lt, eqb→eq}
use borrow.Author.Tests.{ltb-false, le-ltb}
use lib.Ieee.{Float, nan, inf, fin, Format, binary32, binary64, round, div, le, lt, eq}
use lib.Ieee.Order.{round_mono}
use lib.Ieee.Scale.{round_same}
use lib.Ieee.Positive.{num, den, positive, den_pos, own_value, value_pos, le→cross, cross→le, through}
use mathlib.Core.Logic.{◌⊎◌, inl, inr}
use lib.Ieee.Bits.{is_true}
use Rattle.std.specs.Prelude.{Option, Some, None}
use Rattle.std.proofs.Common.{Ordering, Less, Equal, Greater}
use Rattle.std.specs.Ordering.{float_partial_cmp, partial_le, partial_lt, is_some_and, is_le, is_lt}
use Rattle.std.proofs.lemmas.Float.{le_of_lt, lt-or-eq}
use Rattle.std.proofs.lemmas.Float.{le_of_eq as float_le_of_eq}
use Rattle.std.specs.Float.{float_one}

-- ---- division

pub num_pos : (x : Float) → T (positive x) → 0 < num x
num_pos x p = value_pos x (num x) (den x) p (den_pos x) (own_value x p)

not_zero : (m : ℕ) → T (ltb 0 m) → eqb m 0 ≡ false
not_zero m t = go (eqb m 0) (eqb→eq m 0) (ltb→lt 0 m t)
  where
    go : (b : Bool) → (T b → m ≡ 0) → 0 < m → b ≡ false
    go true e h = let z = e tt in let f : ⊥ = omega arith in absurd f
    go false e h = refl

pub div_is : (f : Format) (x y : Float) → T (positive x) → T (positive y) → div f x y ≡ round f false (num x * den y) (num y * den x)
unfolding div
div_is f nan y p q = absurd p
div_is f (inf s) y p q = absurd p
div_is f (fin true m e) y p q = absurd p
div_is f (fin false m e) nan p q = absurd q
div_is f (fin false m e) (inf t) p q = absurd q
div_is f (fin false m e) (fin true n d) p q = absurd q
div_is f (fin false m e) (fin false n d) p q = rw (not_zero n q)

-- a larger dividend and a smaller divisor give no smaller quotient
pub div_mono : (f : Format) (x x' y y' : Float) → T (positive x) → T (positive x') → T (positive y) → T (positive y') → T (le x x') → T (le y' y)
    → T (le (div f x y) (div f x' y'))
div_mono f x x' y y' p p' q q' h k =
    subst (λ (z : Float). T (le z (div f x' y'))) (sym (div_is f x y p q))
    (subst (λ (z : Float). T (le (round f false (num x * den y) (num y * den x)) z)) (sym (div_is f x' y' p' q'))
    (round_mono f (num x * den y) (num y * den x) (num x' * den y') (num y' * den x') (mul-pos (num_pos y q) (den_pos x)) (mul-pos (num_pos y' q') (den_pos x'))
    (le_trans
    (le_of_eq
    (ap (λ (n : ℕ). num x * den y * n) (mul_comm (num y') (den x'))
    ∙ mul-mul-mul_comm (num x) (den y) (den x') (num y')
    ∙ ap (λ (n : ℕ). num x * den x' * n) (mul_comm (den y) (num y'))))
    (le_trans (mul-le-mul (le→cross x x' p p' h) (le→cross y' y q' q k))
    (le_of_eq
    (ap (λ (n : ℕ). num x' * den x * n) (mul_comm (num y) (den y'))
    ∙ mul-mul-mul_comm (num x') (den x) (den y') (num y)
    ∙ ap (λ (n : ℕ). num x' * den y' * n) (mul_comm (den x) (num y))))))))

one_is : (f : Format) → round f false 1 1 ≡ float_one
unfolding round
one_is binary32 = refl
one_is binary64 = refl

pub div_self : (f : Format) (x : Float) → T (positive x) → div f x x ≡ float_one
div_self f x p =
    div_is f x x p p
    ∙ round_same f false (num x * den x) (num x * den x) 1 1 (mul-pos (num_pos x p) (den_pos x)) (omega arith) (simp (mul-one, one-mul))
    ∙ one_is f

pub le_refl_positive : (x : Float) → T (positive x) → T (le x x)
le_refl_positive x p = cross→le x x p p (le_of_eq refl)

-- a number divided by one that is no larger is at least 1
pub div_at_least : (f : Format) (a b : Float) → T (positive a) → T (positive b) → T (le a b) → T (le float_one (div f b a))
div_at_least f a b p q h = subst (λ (z : Float). T (le z (div f b a))) (div_self f a p) (div_mono f a b a a p q p p h (le_refl_positive a p))

-- ---- a limit k: what is not below it stays so as it grows
lt_is : (x y : Float) → T (positive x) → T (positive y) → lt x y ≡ ltb (num x * den y) (num y * den x)
unfolding lt
lt_is nan y p q = absurd p
lt_is (inf s) y p q = absurd p
lt_is (fin true m e) y p q = absurd p
lt_is (fin false m e) nan p q = absurd q
lt_is (fin false m e) (inf t) p q = absurd q
lt_is (fin false m e) (fin true n d) p q = absurd q
lt_is (fin false m e) (fin false n d) p q = refl

pub not_below_mono : (x y k : Float) → T (positive x) → T (positive y) → T (positive k) → T (le x y) → lt x k ≡ false → lt y k ≡ false
not_below_mono x y k p q r h f =
    lt_is y k q r
    ∙ le-ltb (num y * den k) (num k * den y)
    (through (num k) (num x) (num y) (den k) (den x) (den y) (den_pos x) (ltb-false (num x * den k) (num k * den x) (sym (lt_is x k p r) ∙ f))
    (le→cross x y p q h))

-- ---- the order that a struct of one float derives: its `<=` and `<` are those of the float

-- what is compared, from the three tests
abbrev tested : Bool → Bool → Bool → Option Ordering
tested less equal greater = cond less (Some Less) (cond equal (Some Equal) (cond greater (Some Greater) None))

pub partial_lt_is : (x y : Float) → partial_lt float_partial_cmp x y ≡ lt x y
partial_lt_is x y = go (lt x y) (eq x y) (lt y x)
  where
    go : (a b c : Bool) → is_some_and is_lt (tested a b c) ≡ a
    go true b c = refl
    go false true c = refl
    go false false true = refl
    go false false false = refl

pub partial_le_is : (x y : Float) → partial_le float_partial_cmp x y ≡ le x y
partial_le_is x y = go (lt x y) (eq x y) (lt y x) (le x y) (le_of_lt x y) (float_le_of_eq x y) (lt-or-eq x y)
  where
    go : (a b c d : Bool) → (T a → T d) → (T b → T d) → (T d → T a ⊎ T b) → is_some_and is_le (tested a b c) ≡ d
    go true b c d p q r = sym (is_true d (p tt))
    go false true c d p q r = sym (is_true d (q tt))
    go false false c true p q r = elim (r tt) [ inl h ↦ absurd h | inr h ↦ absurd h ]
    go false false true false p q r = refl
    go false false false false p q r = refl
