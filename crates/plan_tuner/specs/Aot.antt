-- The plan tuner, SPEC 9: the rule of each call, over what the tuner holds. The test for room (10) is added to each where a contract cites it.
use Rattle.std.specs.Prelude.{◌≡◌, true, false, List, [], ℕ, ℤ, pos, Float, length, Result, Some, None, flat_map}
use Rattle.std.specs.Prelude.{Option as Optional}
use Rattle.arrayvec.specs.ArrayVec.{ArrayVec}
use Rattle.std.proofs.Math.Option.{Option, some, none}
use Rattle.channels.specs.Outcome.{Outcome, value, refused}
use Rattle.channels.specs.Refusal.{buffer_too_short}
use Rattle.channels.specs.Lists.{upward}
use Rattle.plans.specs.PlanLine.{PlanLine}
use Rattle.channels.specs.Places.{Place}
use Rattle.plans.specs.Placing.{Placing, InOrder, Fits, Demand3}
use Rattle.plans.specs.Plan.{Model, view as plan_view, open_rule, planned, set_tuning, set_tuning_of_pitches}
use Rattle.plans.specs.Plan as M
use Rattle.channels.specs.TuningValue.{sent_as, tuning_kind_of}
use Rattle.channels.specs.declared.tuning_value.TuningKind.{TuningKind}
use Rattle.plans.specs.declared.aot.GroupBy.{GroupBy}
use Rattle.plans.specs.declared.aot.GroupBy.TheVariants.{Channel}
use Rattle.senders.specs.Message.{Message}
use Rattle.senders.specs.Midi.{bytes_of}
use Rattle.senders.specs.Buffer.{Effect, WriteOutcome, sent}
use Rattle.senders.specs.Mts.{tuning_messages}
use Rattle.senders.specs.Tuner.{on_channel, place_from, key_rule, to_all_rule}
use Rattle.senders.specs.declared.midi.ChannelMessageType.{ChannelMessageType}
use Rattle.senders.specs.declared.tuner.NoteMessage.TheVariants.{Off, On, Pressure}
use Rattle.plan_tuner.specs.declared.aot.AotTuner.{AotTuner}
use Rattle.plan_tuner.specs.declared.aot.PlanSent.{PlanSent}
use Rattle.plan_tuner.specs.declared.aot.PlanSent.TheVariants.{Tuned, Untuned}
use Rattle.arithmetic.specs.declared.refusal.Refusal.{Refusal}
use Rattle.arithmetic.specs.Answers.{outcome_by}

-- SPEC 9.1: the plan model, and the tuning kind.
pub record Tuner : Type 0 where
  pub plan : Model
  pub tuning_kind : TuningKind

-- The tuner that the struct in memory stands for.
abbrev pub view : AotTuner → Tuner
view t = record { plan = plan_view t.model; tuning_kind = tuning_kind_of t.tuning_kind }

abbrev pub with_plan : Tuner → Model → Tuner
with_plan t m = record { plan = m; tuning_kind = t.tuning_kind }

-- ---- SPEC 9.1a: a tuner is opened on a channel list, and plans in channel groups, since a sound module is sent tunings of whole channels alone

abbrev pub start_rule : List ℕ → TuningKind → Outcome (List ℕ) × Tuner
start_rule channels kind = let o = open_rule channels Channel in (o.0, record { plan = o.1; tuning_kind = kind })

-- SPEC 9.1a: a tuner that is opened anew stays as it was if the list is refused.
abbrev pub StartMeets : Outcome (List ℕ) → Tuner → AotTuner → AotTuner → Type 0
StartMeets (value cs) t old new = view new ≡ t
StartMeets (refused n) t old new = new ≡ old

-- ---- SPEC 9.3: a tuning, refused for its lists as a plan is, then by 10, unless there are too few channels

-- SPEC 9.3: a tuning answers the count of channels, and how many bytes were sent.
pub data Planned : Type 0 where
  plan_tuned : (channels bytes : ℕ) → Planned
  plan_untuned : (channels : ℕ) → Planned

-- A plan was sent, or there are too few channels for it.
abbrev pub planned_sent : PlanSent → Planned
planned_sent (Tuned channels written) = plan_tuned channels written
planned_sent (Untuned channels) = plan_untuned channels

abbrev pub plan_sent : Result PlanSent Refusal → Outcome Planned
plan_sent r = outcome_by planned_sent r

-- The tuning of channel i, by its detuning.
abbrev pub channel_messages : TuningKind → List ℕ → ℕ → Option Float → List Message
channel_messages kind channels i (some d) = on_channel channels i (λ ch. tuning_messages ch (sent_as kind d))
channel_messages kind channels i none = []

-- SPEC 9.3: the tuning of channel i of a plan; in channel groups all notes are of group 0.
abbrev pub tunings : TuningKind → Model → ℕ → List Message
tunings kind m i = channel_messages kind m.channels i (m.detunings i (pos 0))

-- SPEC 9.3: the tuning of each channel used, from channel 0 on.
abbrev pub plan_messages : TuningKind → Model → List Message
plan_messages kind m = flat_map (tunings kind m) (upward 0 m.num_channels)

-- The bytes of a tuning, if there is one.
abbrev pub bytes_in : Optional (ArrayVec ℕ) → List ℕ
bytes_in (Some bs) = bs.items
bytes_in None = []

-- SPEC 9.3: the tunings of a plan are sent; where there are too few channels nothing is.
abbrev pub plan_effect : Tuner → Model × M.PlanAnswer → Outcome (Effect Planned Tuner)
plan_effect t (m, M.tuned n) =
    let bs = bytes_of (plan_messages t.tuning_kind m) in value (record { result = plan_tuned n (length bs); bytes = bs; next = with_plan t m })
plan_effect t (m, M.untuned n) = value (record { result = plan_untuned n; bytes = []; next = with_plan t m })
plan_effect t (m, M.refused n) = refused n

-- The rule of lists, by their lines.
abbrev pub tuning_rule : Tuner → Outcome (List PlanLine) → Outcome (Effect Planned Tuner)
tuning_rule t lines = plan_effect t (planned t.plan lines)

abbrev pub set_tuning_rule : Tuner → List ℕ → List ℤ → List Float → Outcome (Effect Planned Tuner)
set_tuning_rule t ks ns ds = plan_effect t (set_tuning t.plan ks ns ds)

abbrev pub set_tuning_of_pitches_rule : Tuner → List ℕ → List Float → Outcome (Effect Planned Tuner)
set_tuning_of_pitches_rule t ks hzs = plan_effect t (set_tuning_of_pitches t.plan ks hzs)

-- SPEC 6.6a: some placing in order fits the channels present.
abbrev pub SomeFits : GroupBy → List PlanLine → ℕ → Type 0
SomeFits by lines present = (p : Placing) × InOrder by lines p × Fits lines present p

-- SPEC 6.6, of what a tuner answered to these lists, if they were not refused, where `next` is the tuner thereafter. Where the plan's bytes had no room
-- the answer is 10 and no count: then it was not for want of channels.
abbrev pub PlanOptimal : Tuner → Outcome (List PlanLine) → Outcome Planned → Tuner → Type 0
PlanOptimal t (refused k) a next = Unit {0}
PlanOptimal t (value lines) (value (plan_tuned n bytes)) next = Demand3 t.plan.group_by lines (length t.plan.channels) next.plan.keys true n
PlanOptimal t (value lines) (value (plan_untuned n)) next = Demand3 t.plan.group_by lines (length t.plan.channels) next.plan.keys false n
PlanOptimal t (value lines) (refused k) next = (k ≡ buffer_too_short) × SomeFits t.plan.group_by lines (length t.plan.channels)

-- ---- SPEC 9.3a: presses, releases and pressures

-- SPEC 9.6: where a key of the plan is.
abbrev pub found : Tuner → ℕ → Option Place
found t key = place_from (t.plan.keys key)

abbrev pub note_on_rule : Tuner → ℕ → ℕ → WriteOutcome
note_on_rule t key velocity = key_rule On t.plan.channels velocity (found t key)

abbrev pub note_off_rule : Tuner → ℕ → ℕ → WriteOutcome
note_off_rule t key velocity = key_rule Off t.plan.channels velocity (found t key)

abbrev pub note_attr_rule : Tuner → ℕ → ℕ → WriteOutcome
note_attr_rule t key pressure = key_rule Pressure t.plan.channels pressure (found t key)

-- ---- SPEC 9.4: a message to every channel, except bends of a tuner that tunes by bends

abbrev pub global_attr_rule : Tuner → ChannelMessageType → WriteOutcome
global_attr_rule t m = to_all_rule t.tuning_kind t.plan.channels m

-- ---- SPEC 9.3b: a stop sends nothing

abbrev pub stop_rule : Tuner → WriteOutcome
stop_rule t = sent []
