-- The one fact of f64 that plans rest on: where of two detunings that are not below a third the larger joins it, the smaller does too.
-- Division by a positive value keeps the order, since rounding does, and what is not below the divisor gives 1 at least.
use mathlib.Core.Path.{◌≡◌}
use mathlib.Core.Bool.{true, false}
use native.Mathlib.Nat.{lt_of_not-le, le_of_lt}
use lib.Dec.{T}
use lib.Ieee.{Float, nan, inf, fin, binary64, round, div, le, lt}
use lib.Ieee.Fits.{and_i, and_l, and_r}
use lib.Ieee.Positive.{positive, above_of_le, above, between, cross→le, le_trans_positive}
use Rattle.arithmetic.specs.Pitch.{negligible_from, negligible_below, negligible}
use Rattle.arithmetic.proofs.Numbers.Floats.{div_mono, div_at_least, not_below_mono, le_refl_positive}
use Rattle.plans.specs.PlanLine.{joins}
use Rattle.channels.proofs.Lists.Laws.{tested, passed, failed, true→T, not_false}
use Rattle.std.specs.Float.{float_one}

limits : T (positive negligible_from) × T (positive negligible_below) × T (le negligible_from float_one)
unfolding negligible_from negligible_below round le
limits = (tt, tt, tt)

-- what lies between two positive values, below the second, is positive
positive_below : (lo y hi : Float) → T (positive lo) → T (positive hi) → T (le lo y) → T (lt y hi) → T (positive y)
unfolding lt
positive_below lo y hi p q h k = go y hi q (above_of_le lo y p h) k
  where
    go : (y hi : Float) → T (positive hi) → T (above y) → T (lt y hi) → T (positive y)
    go nan hi q a k = absurd a
    go (inf true) hi q a k = absurd a
    go (inf false) nan q a k = absurd q
    go (inf false) (inf s) q a k = absurd q
    go (inf false) (fin s m e) q a k = absurd k
    go (fin true m e) hi q a k = absurd a
    go (fin false m e) hi q a k = a

-- a ≤ b ≤ c: where c joins a, so does b
pub joins_mono : (a b c : Float) → T (positive a) → T (positive b) → T (positive c) → T (le a b) → T (le b c) → T (joins a c) → T (joins a b)
unfolding joins negligible
joins_mono a b c p q r h k t =
    let x = div binary64 b a in
    let y = div binary64 c a in
    let under : T (lt y negligible_below) = and_r (le negligible_from y) (lt y negligible_below) t in
    let y_positive : T (positive y) = positive_below negligible_from y negligible_below limits.0 limits.1
    (and_l (le negligible_from y) (lt y negligible_below) t) under in
    let low : T (le float_one x) = div_at_least binary64 a b p q h in
    let high : T (le x y) = div_mono binary64 b c a a q r p p k (le_refl_positive a p) in
    let x_positive : T (positive x) = between float_one x y tt y_positive low high in
    and_i (le negligible_from x) (lt x negligible_below) (le_trans_positive negligible_from float_one x limits.0 tt x_positive limits.2 low)
    (elim (tested (lt x negligible_below)) [
      | passed e ↦ true→T e
      | failed e ↦ absurd (not_false (not_below_mono x y negligible_below x_positive y_positive limits.1 high e) under)
    ])

-- the order of two positive values is total
pub le_total : (x y : Float) → T (positive x) → T (positive y) → le x y ≡ false → T (le y x)
le_total x y p q e = cross→le y x q p (le_of_lt (lt_of_not-le λ h. not_false e (cross→le x y p q h)))
