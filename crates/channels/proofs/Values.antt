-- Values in which a detuning is sent: what is clamped lies in its range, and what the code computes on the way fits its type.
use mathlib.Core.Path.{◌≡◌, sym, subst}
use mathlib.Core.Bool.{true}
use Prim.Native.Nat.{ℕ, ◌^◌, ◌<◌}
use native.Mathlib.Omega.{arith}
use lib.Dec.{T}
use lib.IntN.{ℤ, pos, negsuc, ◌*ℤ◌}
use lib.Signed.{mag, ◌≤ℤ◌}
use lib.Ieee.{Float, binary64, fits}
use lib.Ieee.Positive.{positive}
use mir.Syntax.{w16, w64}
use mir.Val.{SFits}
use Rattle.std.specs.Int.{int_max, int_min}
use Rattle.std.proofs.lemmas.Int.{ints}
use Rattle.arithmetic.specs.Outcome.{value, refused}
use Rattle.arithmetic.specs.Refusal.{not_measurable}
use Rattle.arithmetic.specs.Division.{quotient}
use Rattle.arithmetic.specs.Measure.{measure, measure_rule}
use Rattle.arithmetic.proofs.Measure.Range.{measure_range}
use Rattle.channels.specs.declared.tuning_value.TuningKind.{TuningKind}
use Rattle.channels.specs.declared.tuning_value.TuningKind.TheVariants.{FineTuning, Bend}
use Rattle.channels.specs.declared.tuning_value.Tuning.{Tuning}
use Rattle.channels.specs.TuningValue.{clamp, fine_step, fine_value, bend_step, bend_value, tuning_of, sent_as, tuning_rule, InSteps}
use Rattle.arithmetic.proofs.Rules.Outcomes.{passed_of_value, refused_at}

-- ---- clamped

module _ (lo hi z : ℤ) (h : lo ≤ℤ hi) where
  -- as the code's `clamp` says it
  pub clamp_ends : int_max lo (int_min z hi) ≡ clamp lo hi z
  unfolding clamp
  clamp_ends = grind (arith, ints)

  -- it lies between the ends
  pub clamp_from : lo ≤ℤ clamp lo hi z
  unfolding clamp
  clamp_from = grind (arith, ints)

  pub clamp_to : clamp lo hi z ≤ℤ hi
  unfolding clamp
  clamp_to = grind (arith, ints)

-- every measure's value is clamped to its kind's range
pub in_steps : (kind : TuningKind) (l : ℤ) → InSteps (tuning_of kind l)
unfolding tuning_of fine_value bend_value
in_steps FineTuning l =
    let z = fine_step l in
    let a : pos 0 ≤ℤ clamp (pos 0) (pos 16383) z = clamp_from (pos 0) (pos 16383) z (omega arith) in
    let b : clamp (pos 0) (pos 16383) z ≤ℤ pos 16383 = clamp_to (pos 0) (pos 16383) z (omega arith) in
    omega (arith, ints)
in_steps Bend l =
    let z = bend_step l in
    let a : negsuc 8191 ≤ℤ clamp (negsuc 8191) (pos 8191) z = clamp_from (negsuc 8191) (pos 8191) z (omega arith) in
    let b : clamp (negsuc 8191) (pos 8191) z ≤ℤ pos 8191 = clamp_to (negsuc 8191) (pos 8191) z (omega arith) in
    grind (arith, ints)

-- ---- what the code computes of a measure below 2 ^ 40 fits

quotient_small : (z : ℤ) → mag z < 2 ^ 42 → mag (quotient z 512) < 2 ^ 42
quotient_small (pos n) h = omega arith
quotient_small (negsuc n) h = omega arith

module _ (l : ℤ) (h : mag l < 2 ^ 40) where
  pub times_fits : SFits w64 (l *ℤ pos 3)
  times_fits = omega (arith, ints)

  pub bend_fits : SFits w64 (bend_step l)
  unfolding bend_step
  bend_fits = omega (arith, ints)

  pub shift_fits : SFits w64 (quotient (l *ℤ pos 3) 512)
  shift_fits = let q = quotient_small (l *ℤ pos 3) (omega (arith, ints)) in omega (arith, ints)

  pub fine_fits : SFits w64 (fine_step l)
  unfolding fine_step
  fine_fits = let q = quotient_small (l *ℤ pos 3) (omega (arith, ints)) in omega (arith, ints)

pub bend_small : (l : ℤ) → SFits w16 (bend_value l)
unfolding bend_value
bend_small l =
    let z = bend_step l in
    let a : negsuc 8191 ≤ℤ clamp (negsuc 8191) (pos 8191) z = clamp_from (negsuc 8191) (pos 8191) z (omega arith) in
    let b : clamp (negsuc 8191) (pos 8191) z ≤ℤ pos 8191 = clamp_to (negsuc 8191) (pos 8191) z (omega arith) in
    omega (arith, ints)

-- ---- the measure's answer, and the value's

-- the measure was refused, so the value is
pub none_measured : (kind : TuningKind) (v : Float) (n : ℕ) → refused n ≡ measure_rule v → refused n ≡ tuning_rule kind v
unfolding measure_rule tuning_rule sent_as
none_measured kind v n h = refused_at not_measurable (positive v) (measure v) h (value (tuning_of kind (measure v)))

-- the measure is l
pub record Measured (v : Float) (l : ℤ) : Type 0 where
  pub above : positive v ≡ true
  pub is : l ≡ measure v

pub measured : (v : Float) (l : ℤ) → value l ≡ measure_rule v → Measured v l
unfolding measure_rule
measured v l h = let p = passed_of_value not_measurable (positive v) (measure v) h in record { above = p.0; is = p.1 }

pub measured_small : (v : Float) (l : ℤ) → T (fits binary64 v) → Measured v l → mag l < 2 ^ 40
measured_small v l f k = rw k.is (measure_range v f (subst T (sym k.above) tt))

pub measured_value : (kind : TuningKind) (v : Float) (l : ℤ) → Measured v l → value (tuning_of kind l) ≡ tuning_rule kind v
unfolding tuning_rule sent_as
measured_value kind v l k = rw (k.above, k.is)

-- a detuning that is positive and finite is sent
pub sent_value : (kind : TuningKind) (v : Float) → positive v ≡ true → tuning_rule kind v ≡ value (sent_as kind v)
unfolding tuning_rule
sent_value kind v p = rw p

pub sent_in_steps : (kind : TuningKind) (v : Float) → InSteps (sent_as kind v)
unfolding sent_as
sent_in_steps kind v = in_steps kind (measure v)

-- what is sent is in range
pub value_in_steps : (kind : TuningKind) (v : Float) {t : Tuning} → tuning_rule kind v ≡ value t → InSteps t
unfolding tuning_rule
value_in_steps kind v e = subst InSteps (sym (passed_of_value not_measurable (positive v) (sent_as kind v) (sym e)).1) (sent_in_steps kind v)
