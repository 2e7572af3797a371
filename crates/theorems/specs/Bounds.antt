-- Bounds, as orders between powers: of the nearest note (SPEC 4.2a), of the factors of note pitches (SPEC 4.3a), and of the values that are sent (SPEC 5).
use Rattle.std.specs.Prelude.{ℕ, ◌*◌, ◌^◌, ◌≤◌, ◌<◌, ◌+◌, ◌-◌, false, zero, suc, ℤ, pos, ◌+ℤ◌, ◌-ℤ◌, ◌*ℤ◌, negsuc, Float, ◌⊎◌}
use Rattle.std.proofs.Math.IntN.{suc_ℤ}
use Rattle.std.specs.Float.{fin}
use Rattle.std.specs.Float.Ieee.{up, down}
use Rattle.std.specs.Float.Ieee.Positive.{num, den}
use Rattle.arithmetic.specs.Powers.{AtLeast, Below}
use Rattle.channels.specs.declared.tuning_value.TuningKind.{TuningKind}
use Rattle.channels.specs.declared.tuning_value.TuningKind.TheVariants.{FineTuning, Bend}
use Rattle.channels.specs.declared.tuning_value.Tuning.{Tuning}
use Rattle.channels.specs.declared.tuning_value.Tuning.TheVariants.{Fine, Bend as Bent}
use Rattle.channels.specs.TuningValue.{fine_step, bend_step}

-- The order 2 ^ k < v ^ n.
abbrev pub Above : ℤ → Float → ℕ → Type 0
Above k v n = up k * den v ^ n < num v ^ n * down k

-- The order v ^ n ≤ 2 ^ k.
abbrev pub AtMost : Float → ℕ → ℤ → Type 0
AtMost v n k = num v ^ n * down k ≤ up k * den v ^ n

-- ---- SPEC 4.2a: with d = note - 69 it holds of the nearest note that 2 ^ (10000 d - 5001) < v ^ 120000 < 2 ^ (10000 d + 5001)

abbrev pub NearestBound : ℤ → Float → Type 0
NearestBound d v = Above (d *ℤ pos 10000 -ℤ pos 5001) v 120000 × Below v 120000 (d *ℤ pos 10000 +ℤ pos 5001)

-- The nearest f64 of 0.96 and of 1.04, between which the detuning of a nearest note lies. (`fin false m e` is the f64 m * 2 ^ e.)
abbrev pub close_from : Float
close_from = fin false 1080863910568919 (negsuc 49)

abbrev pub close_to : Float
close_to = fin false 1170935903116329 (negsuc 49)

-- ---- SPEC 4.3a: of the twelve factors R[k] = m / 2 ^ 52 it holds that (2 m - 1) ^ 12 < 2 ^ (k + 636) < (2 m + 1) ^ 12

abbrev pub IsSignificand : ℕ → ℕ → Type 0
IsSignificand k m = ((2 * m - 1) ^ 12 < 2 ^ (k + 636)) × (2 ^ (k + 636) < (2 * m + 1) ^ 12)

-- ---- the values that are sent

-- SPEC 5.1, 5.2: the value of a kind, before it is clamped.
unfoldable pub step_of : TuningKind → ℤ → ℤ
step_of FineTuning l = fine_step l
step_of Bend l = bend_step l

-- The number that a tuning sends.
abbrev pub value_of : Tuning → ℤ
value_of (Fine n) = pos n
value_of (Bent b) = b

-- SPEC 5.1a: k ≤ E < k + 1 + 1/64, where E = 8192 + 98304 × log2 v. Over whole powers it says that
-- 2 ^ (k - 8192) ≤ v ^ 98304, and v ^ (98304 * 64) < 2 ^ ((k - 8192) * 64 + 65).
abbrev pub FineBound : ℤ → Float → Type 0
FineBound k v = AtLeast (k -ℤ pos 8192) v 98304 × Below v (98304 * 64) ((k -ℤ pos 8192) *ℤ pos 64 +ℤ pos 65)

-- The number t is n * log2 v truncated: that lies from t up to t + 1 for a positive t, from t - 1 up to t for a negative one, and between -1 and 1 for 0.
abbrev pub Truncation : ℤ → Float → ℕ → Type 0
Truncation (pos zero) v n = Above (negsuc 0) v n × Below v n (pos 1)
Truncation (pos (suc t)) v n = AtLeast (pos (suc t)) v n × Below v n (pos (suc (suc t)))
Truncation (negsuc t) v n = Above (negsuc (suc t)) v n × AtMost v n (negsuc t)

-- The number t is that, or one less.
abbrev pub TruncationOrLess : ℤ → Float → ℕ → Type 0
TruncationOrLess t v n = Truncation t v n ⊎ Truncation (suc_ℤ t) v n

-- SPEC 5.2a: the value is 49152 × log2 v truncated, or one less.
abbrev pub BendBound : ℤ → Float → Type 0
BendBound b v = TruncationOrLess b v 49152

-- SPEC 5.1a, 5.2a: the bound of a kind's value before it is clamped.
abbrev pub StepBound : TuningKind → ℤ → Float → Type 0
StepBound FineTuning k v = FineBound k v
StepBound Bend b v = BendBound b v
