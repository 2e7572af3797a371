-- The interface for C, SPEC 12: each function that can be refused, with what its contract says it answers in the fields `outcome` and `refusal`, and the
-- numbers that it is allowed (SPEC 2.2), in the order of the tests. Lookups, releases of a model, detunings of a plan and the seven makers of messages cannot
-- be refused.
use Rattle.std.specs.Prelude.{◌≡◌, true, ℕ, ◌<◌, List, [], ◌∷◌, ℤ, Float}
use Rattle.arithmetic.specs.Nearest.{nearest_rule}
use Rattle.arithmetic.specs.Pitch.{pitch_rule}
use Rattle.arithmetic.specs.Measure.{measure_rule}
use Rattle.channels.specs.Lists.{member}
use Rattle.channels.specs.TuningValue.{tuning_rule}
use Rattle.pools.specs.Pool as Pools
use Rattle.plans.specs.Plan.{Model, open_rule, set_tuning, set_tuning_of_pitches}
use Rattle.plans.specs.declared.aot.GroupBy.{GroupBy}
use Rattle.pools.specs.declared.settings.PoolGroupBy.{PoolGroupBy}
use Rattle.pools.specs.declared.settings.PoolingMode.{PoolingMode}
use Rattle.pools.specs.declared.settings.Retrigger.{Retrigger}
use Rattle.pools.specs.declared.settings.Retrigger.TheVariants.{Off, On}
use Rattle.channels.specs.declared.tuning_value.TuningKind.{TuningKind}
use Rattle.senders.specs.Buffer.{check_room, result_of}
use Rattle.senders.specs.Midi.{message_rule}
use Rattle.senders.specs.Mts.{channel_tuning_rule}
use Rattle.senders.specs.Jit as Jit
use Rattle.plan_tuner.specs.Aot as Aot
use Rattle.capi.specs.Answers.{of_sent, of_press, of_list, of_plan, of_plan_sent, of_registered, of_repitched, of_nearest, of_pitch, of_measure, of_tuning}
use Rattle.capi.specs.declared.answer.Answer.{Answer}
use Rattle.theorems.specs.Entries as E

pub data Function : Type 0 where
  -- A call of the tuners or of messages, with the room of the buffer.
  call : E.Entry → (room : ℕ) → Function
  pool_model_open : (channels : List ℕ) → PoolGroupBy → PoolingMode → Retrigger → Function
  register_key : Pools.State → (key : ℕ) (hz : Float) → Function
  repitch_key : Pools.State → (key : ℕ) (hz : Float) → Function
  plan_model_open : (channels : List ℕ) → GroupBy → Function
  plan_model_set_tuning : Model → (keys : List ℕ) (notes : List ℤ) (detunings : List Float) → Function
  plan_model_set_tuning_of_pitches : Model → (keys : List ℕ) (pitches : List Float) → Function
  nearest_note : (hz : Float) → Function
  note_pitch : (note : ℤ) → Function
  measure : (detuning : Float) → Function
  tuning_value : TuningKind → (detuning : Float) → Function

-- SPEC 12.3: `outcome` and `refusal` of the answer.
abbrev pub fields : Answer → ℕ × ℕ
fields a = (a.outcome, a.refusal)

abbrev pub called : E.Entry → ℕ → ℕ × ℕ
called (E.raw_message ch m) room = fields (of_sent (result_of (check_room room (message_rule ch m))))
called (E.channel_tuning kind ch d) room = fields (of_sent (result_of (check_room room (channel_tuning_rule kind ch d))))
called (E.pool_start cs kind mode retrigger) room = fields (of_list (Jit.start_rule cs kind mode retrigger).0)
called (E.pool_note_on t key hz v) room = fields (of_press (result_of (check_room room (Jit.note_on_rule t key hz v))))
called (E.pool_note_off t key v) room = fields (of_sent (result_of (check_room room (Jit.note_off_rule t key v))))
called (E.pool_note_pitch t key hz) room = fields (of_sent (result_of (check_room room (Jit.note_pitch_rule t key hz))))
called (E.pool_note_attr t key p) room = fields (of_sent (result_of (check_room room (Jit.note_attr_rule t key p))))
called (E.pool_global_attr t m) room = fields (of_sent (result_of (check_room room (Jit.global_attr_rule t m))))
called (E.pool_stop t) room = fields (of_sent (result_of (check_room room (Jit.stop_rule t))))
called (E.plan_start cs kind) room = fields (of_list (Aot.start_rule cs kind).0)
called (E.plan_set_tuning t ks ns ds) room = fields (of_plan_sent (result_of (check_room room (Aot.set_tuning_rule t ks ns ds))))
called (E.plan_set_tuning_of_pitches t ks hzs) room = fields (of_plan_sent (result_of (check_room room (Aot.set_tuning_of_pitches_rule t ks hzs))))
called (E.plan_note_on t key v) room = fields (of_sent (result_of (check_room room (Aot.note_on_rule t key v))))
called (E.plan_note_off t key v) room = fields (of_sent (result_of (check_room room (Aot.note_off_rule t key v))))
called (E.plan_note_attr t key p) room = fields (of_sent (result_of (check_room room (Aot.note_attr_rule t key p))))
called (E.plan_global_attr t m) room = fields (of_sent (result_of (check_room room (Aot.global_attr_rule t m))))
called (E.plan_stop t) room = fields (of_sent (result_of (check_room room (Aot.stop_rule t))))

abbrev pub answered : Function → ℕ × ℕ
answered (call c room) = called c room
answered (pool_model_open cs by mode retrigger) = fields (of_list (Pools.open_rule cs by mode retrigger).0)
answered (register_key s key hz) = let a = of_registered (Pools.outcome_and_state s (Pools.register_rule s key hz)).0 in (a.outcome, a.refusal)
answered (repitch_key s key hz) = let a = of_repitched (Pools.repitch_rule s key hz) in (a.outcome, a.refusal)
answered (plan_model_open cs by) = fields (of_list (open_rule cs by).0)
answered (plan_model_set_tuning m ks ns ds) = fields (of_plan (set_tuning m ks ns ds).1)
answered (plan_model_set_tuning_of_pitches m ks hzs) = fields (of_plan (set_tuning_of_pitches m ks hzs).1)
answered (nearest_note hz) = let a = of_nearest (nearest_rule hz) in (a.outcome, a.refusal)
answered (note_pitch note) = let a = of_pitch (pitch_rule note) in (a.outcome, a.refusal)
answered (measure d) = let a = of_measure (measure_rule d) in (a.outcome, a.refusal)
answered (tuning_value kind d) = let a = of_tuning (tuning_rule kind d) in (a.outcome, a.refusal)

-- SPEC 2.2, 7.2d: a press of a held key is refused by 11, but with retrigger it is not.
abbrev pub register_allowed : Retrigger → List ℕ
register_allowed Off = 1 ∷ 11 ∷ []
register_allowed On = 1 ∷ []

-- SPEC 2.2: the numbers that a function may be refused by.
abbrev pub allowed : Function → List ℕ
allowed (call c room) = E.allowed c
allowed (pool_model_open cs by mode retrigger) = 6 ∷ 7 ∷ []
allowed (register_key s key hz) = register_allowed s.retrigger
allowed (repitch_key s key hz) = 1 ∷ []
allowed (plan_model_open cs by) = 6 ∷ 7 ∷ []
allowed (plan_model_set_tuning m ks ns ds) = 12 ∷ 4 ∷ 3 ∷ 5 ∷ []
allowed (plan_model_set_tuning_of_pitches m ks hzs) = 12 ∷ 1 ∷ 5 ∷ []
allowed (nearest_note hz) = 1 ∷ []
allowed (note_pitch note) = 4 ∷ []
allowed (measure d) = 2 ∷ []
allowed (tuning_value kind d) = 2 ∷ []

-- SPEC 12.3: a call ends in what it does, and `refusal` is 0; or it is refused, and `refusal` is among these numbers.
pub data AllowedAnswer (ns : List ℕ) : (outcome refusal : ℕ) → Type 0 where
  done : (outcome : ℕ) → outcome < 4 → AllowedAnswer ns outcome 0
  refuses : (n : ℕ) → member n ns ≡ true → AllowedAnswer ns 4 n
