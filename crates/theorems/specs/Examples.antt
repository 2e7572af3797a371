-- Twelve examples, SPEC 11.1, over the rules that the contracts cite.
use Rattle.std.specs.Prelude.{◌≡◌, true, false, List, [], ◌∷◌, map, ℕ, ◌^◌, ℤ, pos, negsuc, Float}
use Rattle.std.proofs.Math.Option.{some, none}
use Rattle.std.specs.Float.{binary64}
use Rattle.std.specs.Float.Ieee.{round}
use Rattle.arithmetic.specs.Measure.{measure_rule}
use Rattle.arithmetic.specs.Pitch.{is_pitch, detuning_of}
use Rattle.arithmetic.specs.Nearest.{nearest_note, nearest_rule}
use Rattle.channels.specs.Outcome.{Outcome, value}
use Rattle.channels.specs.TuningValue.{tuning_rule}
use Rattle.channels.specs.declared.tuning_value.TuningKind.TheVariants.{FineTuning, Bend}
use Rattle.channels.specs.declared.tuning_value.Tuning.TheVariants.{Fine, Bend as Bent}
use Rattle.plans.specs.declared.aot.GroupBy.TheVariants.{Channel}
use Rattle.plans.specs.Plan.{Model, PlanAnswer, tuned, empty, set_tuning}
use Rattle.pools.specs.declared.settings.PoolGroupBy.TheVariants.{Channel as PoolGroup}
use Rattle.pools.specs.declared.settings.PoolingMode.{PoolingMode}
use Rattle.pools.specs.declared.settings.PoolingMode.TheVariants.{Stop}
use Rattle.pools.specs.declared.settings.Retrigger.TheVariants.{Off}
use Rattle.pools.specs.Pool.{State, found, released, open_rule, Press, Pressing, accepted, register_rule, outcome_and_state}
use Rattle.senders.specs.Buffer.{sent}
use Rattle.senders.specs.Mts.{channel_tuning_rule}

-- SPEC 1.8: a decimal fraction means the nearest f64, here that of n / d.
abbrev pub f64 : ℕ → ℕ → Float
f64 n d = round binary64 false n d

-- ---- pitches and values

-- The measure of v is l.
abbrev pub Measures : (v : Float) (l : ℤ) → Type 0
Measures v l = measure_rule v ≡ value l

-- The fine value and the bend value of v.
abbrev pub Tunes : (v : Float) (fine : ℕ) (bend : ℤ) → Type 0
Tunes v fine bend = (tuning_rule FineTuning v ≡ value (Fine fine)) × (tuning_rule Bend v ≡ value (Bent bend))

-- The bytes of the bend of v, on channel 0.
abbrev pub Bends : (v : Float) (bytes : List ℕ) → Type 0
Bends v bytes = channel_tuning_rule Bend 0 v ≡ sent bytes

-- The nearest note of a pitch.
abbrev pub HasNote : (hz : Float) (note : ℤ) → Type 0
HasNote hz note = nearest_rule hz ≡ value (note, detuning_of hz note)

-- ---- plans

-- Keys on one note, in channel groups with four channels.
abbrev pub plan_of : (keys : List ℕ) (detunings : List Float) → Model × PlanAnswer
plan_of ks ds = set_tuning (empty (0 ∷ 1 ∷ 2 ∷ 3 ∷ []) Channel) ks (map (λ (k : ℕ). pos 69) ks) ds

abbrev pub nine : Model × PlanAnswer
nine = plan_of (1 ∷ 2 ∷ []) (f64 1 1 ∷ f64 1000001 1000000 ∷ [])

abbrev pub ten : Model × PlanAnswer
ten = plan_of (1 ∷ 2 ∷ 3 ∷ []) (f64 1 1 ∷ f64 10000005 10000000 ∷ f64 10000015 10000000 ∷ [])

-- Example 9: one group with the detunings 1 and 1.000001 takes two channels.
abbrev pub Nine : Type 0
Nine = (nine.1 ≡ tuned 2) × (nine.0.keys 1 ≡ some (0, pos 69)) × (nine.0.keys 2 ≡ some (1, pos 69))

-- Example 10: with 1, 1.0000005 and 1.0000015 it takes one channel, whose detuning is 1.0000015.
abbrev pub Ten : Type 0
Ten = (ten.1 ≡ tuned 1) × (ten.0.keys 3 ≡ some (0, pos 69)) × (ten.0.detunings 0 (pos 0) ≡ some (f64 10000015 10000000))

-- ---- pools

-- A model with two channels and without retrigger, and what a press answers there and leaves: in the examples it releases nothing first.
unfoldable pub two_channels : PoolingMode → State
two_channels mode = (open_rule (0 ∷ 1 ∷ []) PoolGroup mode Off).1

unfoldable pub answer : State → (key : ℕ) (hz : Float) → Outcome Pressing
answer s key hz = (outcome_and_state s (register_rule s key hz)).0

unfoldable pub next : State → (key : ℕ) (hz : Float) → State
next s key hz = (outcome_and_state s (register_rule s key hz)).1

abbrev pub without_release : Press → Outcome Pressing
without_release p = value (record { released = none; press = p })

-- An accepted press takes the nearest note, and stops none.
unfoldable pub accepted_on : (channel : ℕ) (hz : Float) → Outcome Pressing
accepted_on channel hz = without_release (accepted channel none (nearest_note hz) (detuning_of hz (nearest_note hz)))

-- Example 11: with two channels, press 1, release 1, press 2 take channels 0 and then 1.
abbrev pub Eleven : Type 0
Eleven = (mode : PoolingMode) (x y : Float) → is_pitch x ≡ true → is_pitch y ≡ true
    → (answer (two_channels mode) 1 x ≡ accepted_on 0 x) × (answer (released (next (two_channels mode) 1 x) 1) 2 y ≡ accepted_on 1 y)

-- Example 12: with two channels and Stop, of presses 1, 2, 3 the third takes channel 0 from key 1, whose release then finds nothing.
abbrev pub Twelve : Type 0
Twelve = (x y z : Float) → is_pitch x ≡ true → is_pitch y ≡ true → is_pitch z ≡ true
    → let s = next (next (two_channels Stop) 1 x) 2 y in
    (answer s 3 z ≡ without_release (accepted 0 (some (nearest_note x)) (nearest_note z) (detuning_of z (nearest_note z)))) × (found (next s 3 z) 1 ≡ none)

-- ---- all twelve

-- Each statement of a list holds.
abbrev pub All : List (Type 0) → Type 0
All [] = Unit {0}
All (A ∷ l) = A × All l

abbrev pub examples : List (Type 0)
examples =
    -- 1 to 5: v = 1, 2, 1/2, 33/32, 31/32
    (Measures (f64 1 1) (pos 0) × Tunes (f64 1 1) 8192 (pos 0)) ∷
    (Measures (f64 2 1) (pos 16777216) × Tunes (f64 2 1) 16383 (pos 8191) × Bends (f64 2 1) (0xe0 ∷ 0x7f ∷ 0x7f ∷ [])) ∷
    (Tunes (f64 1 2) 0 (negsuc 8191) × Bends (f64 1 2) (0xe0 ∷ 0x00 ∷ 0x00 ∷ [])) ∷
    (Tunes (f64 33 32) 12556 (pos 2182) × Bends (f64 33 32) (0xe0 ∷ 0x06 ∷ 0x51 ∷ [])) ∷
    (Tunes (f64 31 32) 3689 (negsuc 2250) × Bends (f64 31 32) (0xe0 ∷ 0x35 ∷ 0x2e ∷ [])) ∷
    -- 6 to 8: 440 Hz, 455 Hz, 2^-20 and 2^40 Hz
    (nearest_rule (f64 440 1) ≡ value (pos 69, f64 1 1)) ∷
    HasNote (f64 455 1) (pos 70) ∷
    (HasNote (f64 1 (2 ^ 20)) (negsuc 275) × HasNote (f64 (2 ^ 40) 1) (pos 444)) ∷
    -- plans, pools
    Nine ∷
    Ten ∷
    Eleven ∷
    Twelve ∷
    []
