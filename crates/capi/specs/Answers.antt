-- The answers of calls in numbers, SPEC 12.3. `outcome` is 0 for done, 1 untuned, 2 rejected, 3 not found, 4 refused; `refusal` is the number of the refusal,
-- and 0 where nothing is refused; other fields are 0 where there is nothing to say.
use Rattle.std.specs.Prelude.{ℕ, cond, List, eqb, ℤ, pos, Float}
use Rattle.std.proofs.Math.Option.{Option, some, none}
use Rattle.std.specs.Float.Ieee.{of_bits}
use Rattle.std.specs.Float.{binary64}
use Rattle.channels.specs.Outcome.{Outcome, value, refused}
use Rattle.plans.specs.Plan as M
use Rattle.channels.specs.Places.{Place}
use Rattle.pools.specs.Pool.{Press, accepted, rejected, Pressing}
use Rattle.channels.specs.declared.tuning_value.Tuning.{Tuning}
use Rattle.channels.specs.declared.tuning_value.Tuning.TheVariants.{Fine, Bend}
use Rattle.plan_tuner.specs.Aot.{Planned, plan_tuned, plan_untuned}
use Rattle.senders.specs.Jit.{PressResult, press_sent, press_rejected}
use Rattle.capi.specs.declared.answer.Answer.{Answer}
use Rattle.capi.specs.declared.answer.Note.{Note}
use Rattle.capi.specs.declared.answer.RegisteredKey.{RegisteredKey}
use Rattle.capi.specs.declared.answer.NotePitch.{NotePitch}
use Rattle.capi.specs.declared.answer.Number.{Number}

abbrev pub zero_float : Float
zero_float = of_bits binary64 0

-- ---- SPEC 12.3: calls that send, and those that open a block

abbrev pub answer_of : (outcome refusal channels bytes : ℕ) → Answer
answer_of o n cs bytes = record { outcome = o; refusal = n; channels = cs; bytes = bytes }

abbrev pub of_sent : Outcome ℕ → Answer
of_sent (value bytes) = answer_of 0 0 0 bytes
of_sent (refused n) = answer_of 4 n 0 0

abbrev pub of_press : Outcome PressResult → Answer
of_press (value (press_sent bytes)) = answer_of 0 0 0 bytes
of_press (value (press_rejected bytes)) = answer_of 2 0 0 bytes
of_press (refused n) = answer_of 4 n 0 0

abbrev pub of_list : Outcome (List ℕ) → Answer
of_list (value cs) = answer_of 0 0 0 0
of_list (refused n) = answer_of 4 n 0 0

abbrev pub of_plan : M.PlanAnswer → Answer
of_plan (M.tuned n) = answer_of 0 0 n 0
of_plan (M.untuned n) = answer_of 1 0 n 0
of_plan (M.refused n) = answer_of 4 n 0 0

abbrev pub of_plan_sent : Outcome Planned → Answer
of_plan_sent (value (plan_tuned n bytes)) = answer_of 0 0 n bytes
of_plan_sent (value (plan_untuned n)) = answer_of 1 0 n 0
of_plan_sent (refused n) = answer_of 4 n 0 0

-- What such an answer says of the plan.
abbrev pub plan_in : Answer → M.PlanAnswer
plan_in a = cond (eqb a.outcome 0) (M.tuned a.channels) (cond (eqb a.outcome 1) (M.untuned a.channels) (M.refused a.refusal))

abbrev pub plan_sent_in : Answer → Outcome Planned
plan_sent_in a =
    cond (eqb a.outcome 0) (value (plan_tuned a.channels a.bytes))
    (cond (eqb a.outcome 1) (value (plan_untuned a.channels)) (refused a.refusal))

-- ---- SPEC 12.3: notes with their channels and detunings

abbrev pub note_of : (outcome refusal channel : ℕ) → ℤ → Float → Note
note_of o n c note d = record { outcome = o; refusal = n; channel = c; note = note; detuning = d }

abbrev pub of_place : Option Place → Note
of_place (some p) = note_of 0 0 p.channel p.note zero_float
of_place none = note_of 3 0 0 (pos 0) zero_float

abbrev pub of_repitched : Outcome (Option (Place × Float)) → Note
of_repitched (value (some r)) = note_of 0 0 r.0.channel r.0.note r.1
of_repitched (value none) = note_of 3 0 0 (pos 0) zero_float
of_repitched (refused n) = note_of 4 n 0 (pos 0) zero_float

abbrev pub of_nearest : Outcome (ℤ × Float) → Note
of_nearest (value r) = note_of 0 0 0 r.0 r.1
of_nearest (refused n) = note_of 4 n 0 (pos 0) zero_float

-- The detuning of a group on a channel.
abbrev pub of_detuning : ℕ → ℤ → Option Float → Note
of_detuning c group (some d) = note_of 0 0 c group d
of_detuning c group none = note_of 3 0 0 (pos 0) zero_float

abbrev pub of_entry : ℕ → Option (ℤ × Float) → Note
of_entry c (some e) = note_of 0 0 c e.0 e.1
of_entry c none = note_of 3 0 0 (pos 0) zero_float

-- ---- SPEC 12.3: the presses of a pool model

abbrev pub is_some : {A : Type 0} → Option A → ℕ
is_some (some a) = 1
is_some none = 0

abbrev pub note_or0 : Option ℤ → ℤ
note_or0 (some note) = note
note_or0 none = pos 0

abbrev pub released_channel : Option Place → ℕ
released_channel (some p) = p.channel
released_channel none = 0

abbrev pub released_note : Option Place → ℤ
released_note (some p) = p.note
released_note none = pos 0

abbrev pub registered_of : (outcome refusal channel : ℕ) → Option ℤ → ℤ → Float → Option Place → RegisteredKey
registered_of o n c s note d r =
    record {
      outcome = o;
      refusal = n;
      channel = c;
      note = note;
      stopped = is_some s;
      released = is_some r;
      released_channel = released_channel r;
      stopped_note = note_or0 s;
      released_note = released_note r;
      detuning = d;
    }

-- SPEC 7.2d: a rejected press too says where its key was released first.
abbrev pub of_pressed : Option Place → Press → RegisteredKey
of_pressed r (accepted c s note d) = registered_of 0 0 c s note d r
of_pressed r rejected = registered_of 2 0 0 none (pos 0) zero_float r

abbrev pub of_registered : Outcome Pressing → RegisteredKey
of_registered (value p) = of_pressed p.released p.press
of_registered (refused n) = registered_of 4 n 0 none (pos 0) zero_float none

-- ---- SPEC 12.3: values

abbrev pub of_pitch : Outcome Float → NotePitch
of_pitch (value hz) = record { outcome = 0; refusal = 0; hz = hz }
of_pitch (refused n) = record { outcome = 4; refusal = n; hz = zero_float }

abbrev pub number_of : (outcome refusal : ℕ) → ℤ → Number
number_of o n z = record { outcome = o; refusal = n; number = z }

abbrev pub of_measure : Outcome ℤ → Number
of_measure (value l) = number_of 0 0 l
of_measure (refused n) = number_of 4 n (pos 0)

abbrev pub of_tuning : Outcome Tuning → Number
of_tuning (value (Fine v)) = number_of 0 0 (pos v)
of_tuning (value (Bend v)) = number_of 0 0 v
of_tuning (refused n) = number_of 4 n (pos 0)
