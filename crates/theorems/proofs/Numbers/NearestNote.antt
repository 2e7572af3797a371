-- The nearest note: its bound, and the range of the notes that pitches have.
use mathlib.Core.Path.{refl, subst}
use Prim.Native.Nat.{◌^◌}
use native.Mathlib.Omega.{arith}
use lib.Dec.{T, lit<}
use lib.IntN.{ℤ, pos, negsuc, ◌+ℤ◌, ◌-ℤ◌, ◌*ℤ◌}
use lib.Ieee.{Float}
use lib.Ieee.Positive.{positive}
use Rattle.arithmetic.specs.Division.{quotient}
use Rattle.arithmetic.specs.Measure.{measure}
use Rattle.theorems.specs.Bounds.{NearestBound}
use Rattle.arithmetic.specs.Nearest.{semitones, over_a4, nearest_note}
use Rattle.arithmetic.proofs.Numbers.Integers.{add_parts, mul_parts, eq_by_parts, sub_parts_ℤ, between_parts}
use Rattle.theorems.proofs.Numbers.MeasureFactor.{above, below, floor}
use Rattle.arithmetic.proofs.Measure.Law.{measure_law}
use lib.Signed.{◌≤ℤ◌}
use Rattle.arithmetic.specs.Pitch.{is_pitch}
use Rattle.arithmetic.proofs.Notes.Nearest.{ratio_positive, nearest_parts}

-- ---- the nearest note

pub nearest_law : (v : Float) → T (positive v) → NearestBound (semitones (measure v)) v
unfolding semitones
nearest_law v h =
    let law = measure_law v h in
    let L = measure v in
    let y = L *ℤ pos 12 +ℤ pos 8388608 in
    let z = y -ℤ pos 290 in
    let d = quotient z (2 ^ 24) in
    let fl = floor z (2 ^ 24) (lit< tt) in
    let lp = mul_parts L 12 in
    let yp = add_parts (L *ℤ pos 12) (pos 8388608) in
    let zp = add_parts y (negsuc 289) in
    let dp = mul_parts d 10000 in (
      above v (2 ^ 24) 120000 1875 262144 refl L (d *ℤ pos 10000 -ℤ pos 5001) (omega (arith, add_parts (d *ℤ pos 10000) (negsuc 5000))) law.0,
      below v (2 ^ 24) 120000 1875 262144 refl (L +ℤ pos 2) (d *ℤ pos 10000 +ℤ pos 5001) (lit< tt)
          (omega (arith, add_parts L (pos 2), add_parts (d *ℤ pos 10000) (pos 5001))) law.1,
    )

pub nearest_range : (x : Float) → T (is_pitch x) → (negsuc 275 ≤ℤ nearest_note x) × (nearest_note x ≤ℤ pos 444)
nearest_range x h = let r = nearest_parts x h in between_parts 444 275 (nearest_note x) r.0 r.1

-- With d = note - 69, v is less than 5001 / 10000 of a semitone from d semitones.
pub nearest_bound : (x : Float) → T (is_pitch x) → NearestBound (nearest_note x -ℤ pos 69) (over_a4 x)
unfolding nearest_note
nearest_bound x h =
    let d = semitones (measure (over_a4 x)) in
    subst (λ (k : ℤ). NearestBound k (over_a4 x))
    (eq_by_parts d (pos 69 +ℤ d -ℤ pos 69) (omega (arith, sub_parts_ℤ (pos 69 +ℤ d) (pos 69), add_parts (pos 69) d)))
    (nearest_law (over_a4 x) (ratio_positive x h))
