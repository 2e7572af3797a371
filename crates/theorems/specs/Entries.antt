-- The tuners and messages, SPEC 2.2: each call, with the numbers that it may be refused by, in the order of the tests. The lookups and `tuned`
-- cannot be refused, and `play` is one of three calls here.
use Rattle.std.specs.Prelude.{◌≡◌, true, false, ◌⊎◌, List, [], ◌∷◌, ℕ, ◌<◌, ℤ, Float, length}
use Rattle.channels.specs.Outcome.{Outcome, value, refused}
use Rattle.channels.specs.Lists.{member}
use Rattle.channels.specs.Refusal.{channel_over15, buffer_too_short}
use Rattle.channels.specs.declared.tuning_value.TuningKind.{TuningKind}
use Rattle.pools.specs.declared.settings.PoolingMode.{PoolingMode}
use Rattle.pools.specs.declared.settings.Retrigger.{Retrigger}
use Rattle.pools.specs.declared.settings.Retrigger.TheVariants.{Off, On}
use Rattle.senders.specs.Buffer.{check_room}
use Rattle.senders.specs.Message.{Valid, is_channel}
use Rattle.senders.specs.Midi.{bytes, to_message, check_data, message_rule}
use Rattle.senders.specs.Mts.{channel_tuning_rule}
use Rattle.plan_tuner.specs.Aot as Plan
use Rattle.senders.specs.Jit as Pool
use Rattle.senders.specs.declared.event.EventKind.{EventKind}
use Rattle.senders.specs.declared.event.EventKind.TheVariants.{Press, Release, Repitch}
use Rattle.senders.specs.declared.midi.ChannelMessageType.{ChannelMessageType}

pub data Entry : Type 0 where
  raw_message : (channel : ℕ) → ChannelMessageType → Entry
  channel_tuning : TuningKind → (channel : ℕ) (detuning : Float) → Entry
  pool_start : (channels : List ℕ) → TuningKind → PoolingMode → Retrigger → Entry
  pool_note_on : Pool.Tuner → (key : ℕ) (hz : Float) (velocity : ℕ) → Entry
  pool_note_off : Pool.Tuner → (key velocity : ℕ) → Entry
  pool_note_pitch : Pool.Tuner → (key : ℕ) (hz : Float) → Entry
  pool_note_attr : Pool.Tuner → (key pressure : ℕ) → Entry
  pool_global_attr : Pool.Tuner → ChannelMessageType → Entry
  pool_stop : Pool.Tuner → Entry
  plan_start : (channels : List ℕ) → TuningKind → Entry
  plan_set_tuning : Plan.Tuner → (keys : List ℕ) (notes : List ℤ) (detunings : List Float) → Entry
  plan_set_tuning_of_pitches : Plan.Tuner → (keys : List ℕ) (pitches : List Float) → Entry
  plan_note_on : Plan.Tuner → (key velocity : ℕ) → Entry
  plan_note_off : Plan.Tuner → (key velocity : ℕ) → Entry
  plan_note_attr : Plan.Tuner → (key pressure : ℕ) → Entry
  plan_global_attr : Plan.Tuner → ChannelMessageType → Entry
  plan_stop : Plan.Tuner → Entry

-- SPEC 2.2, 7.2d: a press of a held key is refused by 11, but with retrigger it is not.
abbrev pub press_allowed : Retrigger → List ℕ
press_allowed Off = 8 ∷ 1 ∷ 11 ∷ 10 ∷ []
press_allowed On = 8 ∷ 1 ∷ 10 ∷ []

-- SPEC 2.2: the numbers that a call may be refused by.
abbrev pub allowed : Entry → List ℕ
allowed (raw_message ch m) = 6 ∷ 8 ∷ 9 ∷ 10 ∷ []
allowed (channel_tuning kind ch d) = 6 ∷ 2 ∷ 10 ∷ []
allowed (pool_start cs kind mode retrigger) = 6 ∷ 7 ∷ []
allowed (pool_note_on t key hz v) = press_allowed t.pool.retrigger
allowed (pool_note_off t key v) = 8 ∷ 10 ∷ []
allowed (pool_note_pitch t key hz) = 1 ∷ 10 ∷ []
allowed (pool_note_attr t key p) = 8 ∷ 10 ∷ []
allowed (pool_global_attr t m) = 8 ∷ 9 ∷ 10 ∷ []
allowed (pool_stop t) = 10 ∷ []
allowed (plan_start cs kind) = 6 ∷ 7 ∷ []
allowed (plan_set_tuning t ks ns ds) = 12 ∷ 4 ∷ 3 ∷ 5 ∷ 10 ∷ []
allowed (plan_set_tuning_of_pitches t ks hzs) = 12 ∷ 1 ∷ 5 ∷ 10 ∷ []
allowed (plan_note_on t key v) = 8 ∷ 10 ∷ []
allowed (plan_note_off t key v) = 8 ∷ 10 ∷ []
allowed (plan_note_attr t key p) = 8 ∷ 10 ∷ []
allowed (plan_global_attr t m) = 8 ∷ 9 ∷ 10 ∷ []
allowed (plan_stop t) = []

abbrev pub event_allowed : Retrigger → EventKind → List ℕ
event_allowed retrigger Press = press_allowed retrigger
event_allowed retrigger Release = 8 ∷ 10 ∷ []
event_allowed retrigger Repitch = 1 ∷ 10 ∷ []

-- What is said of the way in which the call ends, with a buffer of so many bytes.
abbrev pub Ends : ((A : Type 0) → Outcome A → Type 0) → Entry → ℕ → Type 0
Ends Holds (raw_message ch m) room = Holds _ (check_room room (message_rule ch m))
Ends Holds (channel_tuning kind ch d) room = Holds _ (check_room room (channel_tuning_rule kind ch d))
Ends Holds (pool_start cs kind mode retrigger) room = Holds _ (Pool.start_rule cs kind mode retrigger).0
Ends Holds (pool_note_on t key hz v) room = Holds _ (check_room room (Pool.note_on_rule t key hz v))
Ends Holds (pool_note_off t key v) room = Holds _ (check_room room (Pool.note_off_rule t key v))
Ends Holds (pool_note_pitch t key hz) room = Holds _ (check_room room (Pool.note_pitch_rule t key hz))
Ends Holds (pool_note_attr t key p) room = Holds _ (check_room room (Pool.note_attr_rule t key p))
Ends Holds (pool_global_attr t m) room = Holds _ (check_room room (Pool.global_attr_rule t m))
Ends Holds (pool_stop t) room = Holds _ (check_room room (Pool.stop_rule t))
Ends Holds (plan_start cs kind) room = Holds _ (Plan.start_rule cs kind).0
Ends Holds (plan_set_tuning t ks ns ds) room = Holds _ (check_room room (Plan.set_tuning_rule t ks ns ds))
Ends Holds (plan_set_tuning_of_pitches t ks hzs) room = Holds _ (check_room room (Plan.set_tuning_of_pitches_rule t ks hzs))
Ends Holds (plan_note_on t key v) room = Holds _ (check_room room (Plan.note_on_rule t key v))
Ends Holds (plan_note_off t key v) room = Holds _ (check_room room (Plan.note_off_rule t key v))
Ends Holds (plan_note_attr t key p) room = Holds _ (check_room room (Plan.note_attr_rule t key p))
Ends Holds (plan_global_attr t m) room = Holds _ (check_room room (Plan.global_attr_rule t m))
Ends Holds (plan_stop t) room = Holds _ (check_room room (Plan.stop_rule t))

-- ---- the numbers of a refusal

-- An outcome is a value, or a refusal whose number is among `ns`.
abbrev pub Among : {A : Type 0} → List ℕ → Outcome A → Type 0
Among ns (value a) = Unit {0}
Among ns (refused n) = member n ns ≡ true

-- SPEC 2.2, 8.4: a message is refused 6 for a channel over 15; else with what its data are refused with; else 10 for want of room.
abbrev pub MessageRefused : (ch : ℕ) → ChannelMessageType → (room n : ℕ) → Type 0
MessageRefused ch m room n =
    ((is_channel ch ≡ false) × (n ≡ channel_over15))
    ⊎ ((is_channel ch ≡ true)
    × ((check_data m (value (tt {0})) ≡ refused n) ⊎ (Valid (to_message ch m) × (room < length (bytes (to_message ch m))) × (n ≡ buffer_too_short))))
