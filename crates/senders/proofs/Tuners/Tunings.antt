-- The tuning of a channel by a detuning: its bytes, and what a call that sends them comes to.
use mathlib.Core.Path.{◌≡◌, refl}
use mathlib.Core.Bool.{true}
use mathlib.Core.List.{List}
use Prim.Native.Nat.{ℕ}
use lib.Ieee.{Float}
use lib.Ieee.Positive.{positive}
use Rattle.std.specs.Prelude.{Result, Ok, Err}
use Rattle.std.specs.Result.{IsOk}
use Rattle.arithmetic.specs.declared.refusal.Refusal.{Refusal}
use Rattle.arithmetic.specs.Answers.{outcome_by}
use Rattle.channels.specs.Outcome.{Outcome, value, refused}
use Rattle.channels.specs.TuningValue.{sent_as, tuning_rule}
use Rattle.channels.specs.declared.tuning_value.TuningKind.{TuningKind}
use Rattle.channels.specs.declared.tuning_value.Tuning.{Tuning}
use Rattle.channels.proofs.Values.{sent_value}
use Rattle.senders.specs.Buffer.{sent}
use Rattle.senders.specs.Midi.{bytes_of}
use Rattle.senders.specs.Mts.{tuning_messages, tuning_bytes, tuning_sent}

-- a call's answer is a value, so it is no refusal
pub is_value : {A B : Type 0} (f : A → B) (r : Result A Refusal) {x : B} → outcome_by f r ≡ value x → IsOk r
is_value f (Ok a) e = refl
is_value f (Err n) e = absurd (cc)

-- the bytes of a tuning by a detuning that can be measured
pub tuning_accepted :
    (kind : TuningKind) (ch : ℕ) (v : Float) → positive v ≡ true → tuning_bytes ch (tuning_rule kind v) ≡ value (bytes_of (tuning_messages ch (sent_as kind v)))
tuning_accepted kind ch v p = rw (sent_value kind v p) refl

-- the call that sends a tuning's bytes
pub tuning_written : (ch : ℕ) (o : Outcome Tuning) {bs : List ℕ} → value bs ≡ tuning_bytes ch o → tuning_sent ch o ≡ sent bs
tuning_written ch (value t) e = let s : bytes_of (tuning_messages ch t) ≡ _ = cc in rw s refl
tuning_written ch (refused n) e = absurd (cc)

pub tuning_unwritten : (ch : ℕ) (o : Outcome Tuning) {n : ℕ} → refused n ≡ tuning_bytes ch o → tuning_sent ch o ≡ refused n
tuning_unwritten ch (value t) e = absurd (cc)
tuning_unwritten ch (refused m) {n} e = let s : m ≡ n = cc in rw s refl
