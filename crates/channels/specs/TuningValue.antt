-- The values in which a detuning v is sent, from its measure L: SPEC 5.
use Rattle.std.specs.Prelude.{ℕ, ◌<◌, ◌≡◌, true, cond, ◌&&◌, eqb, ℤ, pos, negsuc, nat_abs, ◌+ℤ◌, ◌*ℤ◌, Float}
use Rattle.std.specs.Int.Signed.{lt_z, le_z, quot_z}
use Rattle.std.specs.Float.Ieee.Positive.{positive}
use Rattle.arithmetic.specs.Outcome.{Outcome, value, refuse◌unless◌then◌}
use Rattle.arithmetic.specs.Refusal.{not_measurable}
use Rattle.arithmetic.specs.Division.{quotient}
use Rattle.arithmetic.specs.Measure.{measure}
use Rattle.channels.specs.declared.tuning_value.TuningKind.{TuningKind}
use Rattle.channels.specs.declared.tuning_value.TuningKind.TheVariants.{FineTuning, Bend}
use Rattle.channels.specs.declared.tuning_value.Tuning.{Tuning}
use Rattle.channels.specs.declared.tuning_value.Tuning.TheVariants.{Fine, Bend as Bent}

-- ---- SPEC 12.2: the tuning kind as a number, 0 fine tuning, 1 bends; a number that names none is read as 0

unfoldable pub tuning_kind_of : ℕ → TuningKind
tuning_kind_of n = cond (eqb n 1) Bend FineTuning

-- ---- SPEC 5.1, 5.2: the values

-- The number z, or the nearer end where it is not from lo to hi.
unfoldable pub clamp : ℤ → ℤ → ℤ → ℤ
clamp lo hi z = cond (lt_z z lo) lo (cond (lt_z hi z) hi z)

-- SPEC 5.1: the fine value is 8192 + 3L / 512 rounded down, kept within 0 to 16383.
unfoldable pub fine_step : ℤ → ℤ
fine_step l = pos 8192 +ℤ quotient (l *ℤ pos 3) 512

unfoldable pub fine_value : ℤ → ℕ
fine_value l = nat_abs (clamp (pos 0) (pos 16383) (fine_step l))

-- SPEC 5.2: the bend value is 3L / 1024 truncated, kept within -8192 to 8191.
unfoldable pub bend_step : ℤ → ℤ
bend_step l = quot_z (l *ℤ pos 3) (pos 1024)

unfoldable pub bend_value : ℤ → ℤ
bend_value l = clamp (negsuc 8191) (pos 8191) (bend_step l)

unfoldable pub tuning_of : TuningKind → ℤ → Tuning
tuning_of FineTuning l = Fine (fine_value l)
tuning_of Bend l = Bent (bend_value l)

-- SPEC 5.4: the tuning in which a detuning is sent.
unfoldable pub sent_as : TuningKind → Float → Tuning
sent_as kind v = tuning_of kind (measure v)

-- SPEC 5.3: a detuning that is not positive and finite is refused (2).
unfoldable pub tuning_rule : TuningKind → Float → Outcome Tuning
tuning_rule kind v = refuse not_measurable unless positive v then value (sent_as kind v)

-- SPEC 5.1, 5.2: the range of a kind's values.
abbrev pub InSteps : Tuning → Type 0
InSteps (Fine n) = n < 16384
InSteps (Bent b) = (le_z (negsuc 8191) b && le_z b (pos 8191)) ≡ true
