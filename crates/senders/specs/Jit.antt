-- The pool tuner, SPEC 9: the rule of each call, over what the tuner holds. The test for room (10) is added to each where a contract cites it.
use Rattle.std.specs.Prelude.{◌≡◌, List, [], ℕ, Float, length, flat_map, ◌++◌}
use Rattle.std.proofs.Math.Option.{Option, some, none}
use Rattle.channels.specs.Outcome.{Outcome, value, refused, refuse◌unless◌then◌}
use Rattle.channels.specs.Refusal.{data_byte_over127}
use Rattle.channels.specs.Places.{Place}
use Rattle.pools.specs.Pool.{State, Held, Press, accepted, rejected, found, released, register_rule, repitch_rule, open_rule, held_keys, stopped, Pressing}
use Rattle.pools.specs.View.{view as pool_view}
use Rattle.channels.specs.TuningValue.{sent_as, tuning_kind_of}
use Rattle.channels.specs.declared.tuning_value.TuningKind.{TuningKind}
use Rattle.pools.specs.declared.settings.PoolingMode.{PoolingMode}
use Rattle.pools.specs.declared.settings.Retrigger.{Retrigger}
use Rattle.pools.specs.declared.settings.PoolGroupBy.TheVariants.{Channel}
use Rattle.senders.specs.Message.{Message, is_data}
use Rattle.senders.specs.Midi.{bytes_of}
use Rattle.senders.specs.Buffer.{Effect, sends, WriteOutcome, sent}
use Rattle.senders.specs.Mts.{tuning_messages}
use Rattle.senders.specs.Tuner.{press_messages, on_channel, key_messages, key_rule, to_all_rule}
use Rattle.senders.specs.declared.midi.ChannelMessageType.{ChannelMessageType}
use Rattle.senders.specs.declared.tuner.NoteMessage.TheVariants.{Off, Pressure}
use Rattle.senders.specs.declared.jit.JitTuner.{JitTuner}

-- SPEC 9.1: the pool model, and the tuning kind.
pub record Tuner : Type 0 where
  pub pool : State
  pub tuning_kind : TuningKind

-- The tuner that the struct in memory stands for.
abbrev pub view : JitTuner → Tuner
view t = record { pool = pool_view t.model; tuning_kind = tuning_kind_of t.tuning_kind }

abbrev pub with_pool : Tuner → State → Tuner
with_pool t s = record { pool = s; tuning_kind = t.tuning_kind }

-- ---- SPEC 9.1a: a tuner is opened on a channel list, with channel groups

abbrev pub start_rule : List ℕ → TuningKind → PoolingMode → Retrigger → Outcome (List ℕ) × Tuner
start_rule channels kind mode retrigger = let o = open_rule channels Channel mode retrigger in (o.0, record { pool = o.1; tuning_kind = kind })

-- SPEC 9.1a: a tuner that is opened anew stays as it was if the list is refused.
abbrev pub StartMeets : Outcome (List ℕ) → Tuner → JitTuner → JitTuner → Type 0
StartMeets (value cs) t old new = view new ≡ t
StartMeets (refused n) t old new = new ≡ old

-- ---- SPEC 9.2: a press, refused by 8, 1, 11, 10; a rejected one that released nothing needs no bytes, so it never meets 10

-- What a press answers: it was sent, or no channel was free; and so many bytes were sent, of a rejected press those of the release that it began with.
pub data PressResult : Type 0 where
  press_sent : ℕ → PressResult
  press_rejected : ℕ → PressResult

-- SPEC 9.2: an accepted press is sent on its channel, and a rejected one sends nothing.
abbrev pub accepted_messages : Tuner → ℕ → Press → List Message
accepted_messages t velocity (accepted i stopped note detuning) =
    on_channel t.pool.channels i (λ ch. press_messages ch stopped (sent_as t.tuning_kind detuning) note velocity)
accepted_messages t velocity rejected = []

-- What a press answers, by the release and the press that it is.
abbrev pub pressing : Option Place → Press → Pressing
pressing released press = record { released = released; press = press }

-- SPEC 9.2e: before them the note-off of the key that is released first, with velocity 0.
abbrev pub press_bytes : Tuner → ℕ → Pressing → List ℕ
press_bytes t velocity p = bytes_of (key_messages Off t.pool.channels 0 p.released) ++ bytes_of (accepted_messages t velocity p.press)

abbrev pub press_result : Press → List ℕ → PressResult
press_result (accepted i stopped note detuning) bs = press_sent (length bs)
press_result rejected bs = press_rejected (length bs)

abbrev pub press_effect : Tuner → ℕ → Outcome (Pressing × State) → Outcome (Effect PressResult Tuner)
press_effect t velocity (value r) =
    let bs = press_bytes t velocity r.0 in
    value (record { result = press_result r.0.press bs; bytes = bs; next = with_pool t r.1 })
press_effect t velocity (refused n) = refused n

abbrev pub note_on_rule : Tuner → ℕ → Float → ℕ → Outcome (Effect PressResult Tuner)
note_on_rule t key hz velocity = refuse data_byte_over127 unless is_data velocity then press_effect t velocity (register_rule t.pool key hz)

-- ---- SPEC 9.2a, 9.2c: a release and a pressure, refused by 8, also where the key is unknown, and 10

abbrev pub note_off_rule : Tuner → ℕ → ℕ → Outcome (Effect ℕ Tuner)
note_off_rule t key velocity =
    refuse data_byte_over127 unless is_data velocity then
    sends (bytes_of (key_messages Off t.pool.channels velocity (found t.pool key))) (with_pool t (released t.pool key))

abbrev pub note_attr_rule : Tuner → ℕ → ℕ → WriteOutcome
note_attr_rule t key pressure = key_rule Pressure t.pool.channels pressure (found t.pool key)

-- ---- SPEC 9.2b: a repitch sends the tuning alone, and is refused by 1, and by 10 where the key is found

abbrev pub repitch_messages : Tuner → Option (Place × Float) → List Message
repitch_messages t (some r) = on_channel t.pool.channels r.0.channel (λ ch. tuning_messages ch (sent_as t.tuning_kind r.1))
repitch_messages t none = []

abbrev pub repitch_effect : Tuner → Outcome (Option (Place × Float)) → WriteOutcome
repitch_effect t (value r) = sent (bytes_of (repitch_messages t r))
repitch_effect t (refused n) = refused n

abbrev pub note_pitch_rule : Tuner → ℕ → Float → WriteOutcome
note_pitch_rule t key hz = repitch_effect t (repitch_rule t.pool key hz)

-- ---- SPEC 9.4: a message to every channel

abbrev pub global_attr_rule : Tuner → ChannelMessageType → WriteOutcome
global_attr_rule t m = to_all_rule t.tuning_kind t.pool.channels m

-- ---- SPEC 9.2d: a stop releases every held key with velocity 0, by rising key, and is refused by 10 alone

abbrev pub release_messages : Tuner → List Message
release_messages t = flat_map (λ (h : Held). key_messages Off t.pool.channels 0 (some h.place)) (held_keys t.pool 0)

abbrev pub stop_rule : Tuner → Outcome (Effect ℕ Tuner)
stop_rule t = sends (bytes_of (release_messages t)) (with_pool t (stopped t.pool))
