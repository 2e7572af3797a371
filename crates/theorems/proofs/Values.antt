-- How close the values are to the logarithm, before they are clamped, from the measure's law alone and by one lemma over the factor (MeasureFactor).
-- Refusal 2 stands here too.
use mathlib.Core.Path.{◌≡◌, refl, sym, subst, ap, ◌∙◌}
use mathlib.Core.Logic.{◌↔◌, inl, inr}
use mathlib.Core.Bool.{false}
use Prim.Native.Nat.{ℕ, suc, ◌+◌, ◌*◌, ◌^◌, ◌≤◌, ◌<◌, zero, ◌/◌}
use native.Mathlib.Omega.{arith}
use lib.Dec.{T, lit<, lit≤}
use lib.IntN.{ℤ, pos, negsuc, nat_abs, ◌+ℤ◌, ◌*ℤ◌, neg_ℤ, ◌-ℤ◌}
use lib.Signed.{quot_z}
use lib.Ieee.{Float, le}
use lib.Ieee.Positive.{positive, num, den}
use borrow.Author.Tests.{le-ltb}
use Rattle.arithmetic.specs.Outcome.{refused}
use Rattle.arithmetic.specs.Refusal.{not_measurable}
use Rattle.arithmetic.specs.Division.{quotient}
use Rattle.arithmetic.specs.Measure.{measure}
use Rattle.arithmetic.proofs.Numbers.Integers.{plus, less, add_parts, mul_parts, neg_parts, one_sided}
use Rattle.arithmetic.proofs.Rules.Outcomes.{refuses_once}
use Rattle.channels.specs.declared.tuning_value.TuningKind.{TuningKind}
use Rattle.channels.specs.declared.tuning_value.TuningKind.TheVariants.{FineTuning, Bend}
use Rattle.channels.specs.TuningValue.{clamp, fine_step, fine_value, bend_step, bend_value, tuning_of, sent_as, tuning_rule}
use Rattle.theorems.specs.Bounds.{close_from, close_to, step_of, value_of, FineBound, BendBound, StepBound, TruncationOrLess, Above, AtMost}
use native.Mathlib.Nat.{le_of_lt, add-mul, one-mul, suc-mul, zero-mul, zero-div, le_of_suc-le-suc, lt_of_not-le, div-mul-le_self, lt-div-mul-add}
use native.Mathlib.Decide.{dec_le, dec_lt}
use Rattle.arithmetic.specs.Powers.{AtLeast, Below}
use Rattle.arithmetic.proofs.Measure.Law.{measure_law}
use Rattle.arithmetic.proofs.Notes.Nearest.{at_least_mono, below_mono, between_powers}
use Rattle.theorems.proofs.Numbers.MeasureFactor.{at_least, above, below, floor}

-- What lies between the ends is kept.
pub clamp_kept : (a b : ℕ) (z : ℤ) → plus z ≤ a → less z ≤ suc b → clamp (negsuc b) (pos a) z ≡ z
unfolding clamp
clamp_kept a b (pos n) h k = rw (le-ltb a n h)
clamp_kept a b (negsuc n) h k = rw (le-ltb b n (omega arith))

pub clamp_kept_whole : (a : ℕ) (z : ℤ) → plus z ≤ a → less z ≤ 0 → pos (nat_abs (clamp (pos 0) (pos a) z)) ≡ z
unfolding clamp
clamp_kept_whole a (pos n) h k = rw (le-ltb n 0 (omega arith), le-ltb a n h)
clamp_kept_whole a (negsuc n) h k = absurd (let f : ⊥ = omega arith in f)

-- ---- refusal 2, exactly where a detuning is not positive and finite

pub tuning_refuses : (kind : TuningKind) (v : Float) (n : ℕ) → (tuning_rule kind v ≡ refused n) ↔ ((positive v ≡ false) × (n ≡ not_measurable))
unfolding tuning_rule
tuning_refuses kind v n = refuses_once not_measurable n (positive v) (sent_as kind v)

pub fine_law : (v : Float) → T (positive v) → FineBound (fine_step (measure v)) v
unfolding fine_step
fine_law v h =
    let law = measure_law v h in
    let L = measure v in
    let z = L *ℤ pos 3 in
    let f = quotient z 512 in
    let k = pos 8192 +ℤ f in
    let j = k -ℤ pos 8192 in
    let fl = floor z 512 (lit< tt) in
    let zp = mul_parts L 3 in
    let kp = add_parts (pos 8192) f in
    let jp = add_parts k (negsuc 8191) in (
      at_least v (2 ^ 24) 98304 3 512 refl L j (lit< tt) (omega arith) law.0,
      below v (2 ^ 24) (98304 * 64) 192 512 refl (L +ℤ pos 2) (j *ℤ pos 64 +ℤ pos 65) (lit< tt)
          (omega (arith, add_parts L (pos 2), mul_parts j 64, add_parts (j *ℤ pos 64) (pos 65))) law.1,
    )

-- ---- truncated toward 0

quot_neg : (n q : ℕ) → quot_z (neg_ℤ (pos n)) (pos q) ≡ neg_ℤ (pos (n / q))
quot_neg zero q = ap (λ (x : ℕ). pos x) (zero-div q) ∙ sym (ap (λ (x : ℕ). neg_ℤ (pos x)) (zero-div q))
quot_neg (suc n) q = refl

module _ (v : Float) (N n p q : ℕ) (ratio : N * p ≡ n * q) (P : 0 < p) (steps : 2 * p ≤ q) where
  -- A step is at least two of the measure's, so the truth is this step or the next.
  -- L = a
  truncation_pos : (a r : ℕ) → r * q ≤ a * p → a * p < r * q + q → AtLeast (pos a) v N → Below v N (pos (a + 2)) → TruncationOrLess (pos r) v n
  truncation_pos a r l u lo hi =
      let over : Above (negsuc 0) v n = above v N n p q ratio (pos a) (negsuc 0) (omega (arith, zero-mul p, zero-mul q, one-mul q)) lo in
      let here : AtLeast (pos r) v n = at_least v N n p q ratio (pos a) (pos r) (omega arith) (omega (arith, zero-mul p, zero-mul q)) lo in
      let under : Below v n (pos (suc (suc r))) =
      below v N n p q ratio (pos (a + 2)) (pos (suc (suc r))) P (omega (arith, add-mul a 2 p, suc-mul (suc r) q, suc-mul r q, zero-mul p, zero-mul q)) hi in
      pick r here under over (dec_lt (num v ^ n * 1) (2 ^ suc r * den v ^ n))
    where
      pick : (r : ℕ) → AtLeast (pos r) v n → Below v n (pos (suc (suc r))) → Above (negsuc 0) v n → Dec (Below v n (pos (suc r))) → TruncationOrLess (pos r) v n
      pick zero here under over (yes b) = inl (over, b)
      pick (suc r) here under over (yes b) = inl (here, b)
      pick r here under over (no b) = inr (le_of_suc-le-suc (lt_of_not-le b), under)

  -- L = -(a + 1)
  truncation_neg : (a r : ℕ) → r * q ≤ suc a * p → suc a * p < r * q + q → AtLeast (negsuc a) v N → Below v N (negsuc a +ℤ pos 2)
      → TruncationOrLess (neg_ℤ (pos r)) v n
  truncation_neg a r l u lo hi = go r l u
    where
      -- M = L + 2
      M-is : plus (negsuc a +ℤ pos 2) + suc a ≡ less (negsuc a +ℤ pos 2) + 2
      M-is = omega (arith, add_parts (negsuc a) (pos 2))

      parts : plus (negsuc a +ℤ pos 2) * p + suc a * p ≡ less (negsuc a +ℤ pos 2) * p + 2 * p
      parts = simp add-mul at (ap (λ (x : ℕ). x * p) M-is)

      under_one : Below v n (pos 1)
      under_one = below v N n p q ratio (negsuc a +ℤ pos 2) (pos 1) P (omega (arith, parts, zero-mul q, one-mul q)) hi

      past : (c : ℕ) → c * q ≤ suc a * p → suc a * p < c * q + q → Above (negsuc c) v n
      past c l u = above v N n p q ratio (negsuc a) (negsuc c) (omega (arith, zero-mul q, zero-mul p, suc-mul c q)) lo

      under : (d : ℕ) → suc (suc d) * q ≤ suc a * p → Below v n (negsuc d)
      under d l = below v N n p q ratio (negsuc a +ℤ pos 2) (negsuc d) P (omega (arith, parts, zero-mul q, suc-mul (suc d) q)) hi

      pick : (c : ℕ) → suc c * q ≤ suc a * p → Above (negsuc (suc c)) v n → Dec (AtMost v n (negsuc c)) → TruncationOrLess (negsuc c) v n
      pick c l o (yes b) = inl (o, b)
      pick zero l o (no b) = inr (lt_of_not-le b, under_one)
      pick (suc d) l o (no b) = inr (lt_of_not-le b, le_of_lt (under d l))

      go : (r : ℕ) → r * q ≤ suc a * p → suc a * p < r * q + q → TruncationOrLess (neg_ℤ (pos r)) v n
      go zero l u = inl (past 0 l u, under_one)
      go (suc c) l u = pick c l (past (suc c) l u) (dec_le (num v ^ n * 2 ^ suc c) (1 * den v ^ n))

  pub truncation_law : (L : ℤ) → AtLeast L v N → Below v N (L +ℤ pos 2) → TruncationOrLess (quot_z (L *ℤ pos p) (pos q)) v n
  truncation_law (pos a) lo hi = truncation_pos a (a * p / q) (div-mul-le_self (a * p) q) (lt-div-mul-add {a = a * p} (omega arith)) lo hi
  truncation_law (negsuc a) lo hi =
      rw (quot_neg (suc a * p) q)
      (truncation_neg a (suc a * p / q) (div-mul-le_self (suc a * p) q) (lt-div-mul-add {a = suc a * p} (omega arith)) lo hi)

pub bend_law : (v : Float) → T (positive v) → BendBound (bend_step (measure v)) v
unfolding bend_step
bend_law v h = let law = measure_law v h in truncation_law v (2 ^ 24) 49152 3 1024 refl (lit< tt) (lit≤ tt) (measure v) law.0 law.1

-- ---- of either kind

pub step_law : (kind : TuningKind) (v : Float) → T (positive v) → StepBound kind (step_of kind (measure v)) v
unfolding step_of
step_law FineTuning v h = fine_law v h
step_law Bend v h = bend_law v h

-- ---- nothing is clamped of a detuning from 0.96 to 1.04

-- Their sixteenth powers are still within a factor of 2.
limits_near_one : AtLeast (negsuc 0) close_from 16 × Below close_to 16 (pos 1)
limits_near_one = (lit≤ tt, lit< tt)

-- The bend of a measure that is so small is not cut off.
bend_small : (l : ℤ) → plus l ≤ 2 ^ 21 → less l ≤ 2 ^ 21 → (plus (bend_step l) ≤ 8191) × (less (bend_step l) ≤ 8192)
unfolding bend_step
bend_small (pos a) h k = (omega arith, omega arith)
bend_small (negsuc a) h k =
    rw (quot_neg (suc a * 3) 1024)
    (let n = suc a * 3 / 1024 in
    one_sided (neg_ℤ (pos n)) 8191 8192 (omega (arith, neg_parts (pos n))) (omega (arith, neg_parts (pos n))))

module _ (v : Float) (above_zero : T (positive v)) (from : T (le close_from v)) (to : T (le v close_to)) where
  -- 2 ^ -(1 / 16) ≤ v < 2 ^ (1 / 16)
  measure_small : (plus (measure v) ≤ 2 ^ 20) × (less (measure v) ≤ 2 ^ 20 + 2)
  measure_small =
      let L = measure v in
      let law = measure_law v above_zero in
      let lo = at_least_mono (negsuc 0) close_from v 16 tt above_zero from limits_near_one.0 in
      let hi = below_mono (pos 1) v close_to 16 above_zero tt to limits_near_one.1 in
      let a = between_powers v (negsuc 0) (L +ℤ pos 2) 16 (2 ^ 24) (lit< tt) lo law.1 in
      let b = between_powers v L (pos 1) (2 ^ 24) 16 (lit< tt) law.0 hi in
      one_sided L (2 ^ 20) (2 ^ 20 + 2) (omega arith) (omega (arith, add_parts L (pos 2)))

  pub unclamped : (kind : TuningKind) → value_of (sent_as kind v) ≡ step_of kind (measure v)
  unfolding sent_as tuning_of fine_value bend_value step_of
  unclamped FineTuning =
      let L = measure v in
      let z = L *ℤ pos 3 in
      let f = quotient z 512 in
      let fl = floor z 512 (lit< tt) in
      let k = one_sided (pos 8192 +ℤ f) 16383 0
      (omega (arith, measure_small, add_parts (pos 8192) f, mul_parts L 3)) (omega (arith, measure_small, add_parts (pos 8192) f, mul_parts L 3)) in
      unfold fine_step in clamp_kept_whole 16383 (pos 8192 +ℤ f) k.0 k.1
  unclamped Bend =
      let b = bend_small (measure v) (omega (arith, measure_small)) (omega (arith, measure_small)) in
      clamp_kept 8191 8191 (bend_step (measure v)) b.0 b.1

  -- The value that is sent meets the bound itself.
  pub sent_law : (kind : TuningKind) → StepBound kind (value_of (sent_as kind v)) v
  sent_law kind = subst (λ (z : ℤ). StepBound kind z v) (sym (unclamped kind)) (step_law kind v above_zero)
