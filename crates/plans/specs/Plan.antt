-- A plan model as its calls see it, SPEC 6.2 to 6.5, and the rule of each call.
use Rattle.std.specs.Prelude.{◌≡◌, Bool, true, false, cond, ◌&&◌, List, [], ◌∷◌, map, ℕ, zero, suc, ◌/◌, leb, ltb, eqb, ℤ, pos, ◌+ℤ◌, Float, length, get_or, Result, Ok, Err, Some, None}
use Rattle.std.specs.Prelude.{Option as Optional}
use Rattle.std.proofs.Math.Option.{Option, none, some}
use Rattle.std.specs.Int.Signed.{le_z}
use Rattle.std.specs.Float.{nan}
use Rattle.std.specs.Float.Ieee.{le}
use Rattle.std.specs.Float.Ieee.Positive.{positive}
use Rattle.arithmetic.specs.Outcome.{Outcome, value}
use Rattle.arithmetic.specs.Note.{is_note, lowest_note}
use Rattle.plans.specs.declared.aot.GroupBy.{GroupBy}
use Rattle.plans.specs.declared.aot.GroupBy.TheVariants.{Note, NoteLetter, Channel}
use Rattle.channels.specs.declared.keys.Place.{Place}
use Rattle.arithmetic.specs.declared.refusal.Refusal.{Refusal}
use Rattle.arithmetic.specs.Refusal.{number}
use Rattle.plans.specs.declared.aot.AotTuningModel.{AotTuningModel}
use Rattle.plans.specs.declared.aot.Planned.{Planned}
use Rattle.plans.specs.declared.aot.Planned.TheVariants.{Tuned, Untuned}
use Rattle.channels.specs.ChannelList.{list_rule, present, entries}
use Rattle.channels.specs.Places.{note_of, channel_of}
use Rattle.plans.specs.PlanNumbers.{detuning_of, floats, group_by_of}
use Rattle.plans.specs.PlanLine.{PlanLine, group, same}
use Rattle.plans.specs.Walk.{count, assignment, entry}
use Rattle.plans.specs.Placing.{Demand3}
use Rattle.plans.specs.PlanLists.{note_lists, pitch_lists}

-- SPEC 6.2: a plan model, with or without a plan.
pub record Model : Type 0 where
  -- SPEC 1.6a: the MIDI channels present; channel i is entry i.
  pub channels : List ℕ
  pub group_by : GroupBy
  pub tuned : Bool
  -- SPEC 6.4b: those of the plan, and without a plan as many as are present.
  pub num_channels : ℕ
  -- SPEC 6.5: the channel and the note of a key that is in the plan.
  pub keys : ℕ → Option (ℕ × ℤ)
  -- SPEC 6.5a: the detuning of a group on a channel.
  pub detunings : ℕ → ℤ → Option Float

-- ---- SPEC 6.2: opening

-- SPEC 6.2: a model without a plan.
abbrev pub empty : List ℕ → GroupBy → Model
empty cs by = record { channels = cs; group_by = by; tuned = false; num_channels = length cs; keys = λ k. none; detunings = λ c g. none }

-- SPEC 6.2a: a model that is opened on a refused list has no channels.
unfoldable pub open_rule : List ℕ → GroupBy → Outcome (List ℕ) × Model
open_rule cs by = (list_rule cs, empty (present (list_rule cs)) by)

-- ---- SPEC 6.4: planning

pub data PlanAnswer : Type 0 where
  -- Each has the count of channels.
  tuned untuned : ℕ → PlanAnswer
  refused : ℕ → PlanAnswer

-- SPEC 6.4: the model with the plan of these lines.
abbrev pub planned_model : Model → List PlanLine → Model
planned_model m lines = record {
  channels = m.channels;
  group_by = m.group_by;
  tuned = true;
  num_channels = count m.group_by lines;
  keys = assignment m.group_by lines;
  detunings = entry m.group_by lines;
}

-- SPEC 6.4, 6.4a: tuned with the plan, or untuned with none, both with the count; a refusal leaves the model as it was.
unfoldable pub planned : Model → Outcome (List PlanLine) → Model × PlanAnswer
planned m (Outcome.refused n) = (m, refused n)
planned m (value lines) =
    let n = count m.group_by lines in
    cond (leb n (length m.channels)) (planned_model m lines, tuned n) (empty m.channels m.group_by, untuned n)

abbrev pub set_tuning : Model → List ℕ → List ℤ → List Float → Model × PlanAnswer
set_tuning m ks ns ds = planned m (note_lists ks ns ds)

abbrev pub set_tuning_of_pitches : Model → List ℕ → List Float → Model × PlanAnswer
set_tuning_of_pitches m ks hzs = planned m (pitch_lists ks hzs)

-- SPEC 6.6, of what planning these lists on a model gave, if they were not refused. The channels present are the model's, and the lookup is the new model's.
abbrev pub PlanOptimal : Model → Outcome (List PlanLine) → Model × PlanAnswer → Type 0
PlanOptimal m (Outcome.refused n) r = Unit {0}
PlanOptimal m (value lines) (next, tuned n) = Demand3 m.group_by lines (length m.channels) next.keys true n
PlanOptimal m (value lines) (next, untuned n) = Demand3 m.group_by lines (length m.channels) next.keys false n
PlanOptimal m (value lines) (next, refused n) = ⊥

-- Each detuning can be measured: it is finite and above zero.
abbrev pub Measurable : Model → Type 0
Measurable m = (c : ℕ) (g : ℤ) (d : Float) → m.detunings c g ≡ some d → positive d ≡ true

-- ---- SPEC 6.5b: the entries of a channel, by rising group

-- The numbers z, z + 1 and so on, n of them.
unfoldable pub numbers_from : ℕ → ℤ → List ℤ
numbers_from zero z = []
numbers_from (suc n) z = z ∷ numbers_from n (z +ℤ pos 1)

-- SPEC 1.7a: all groups, which are the notes, the letters, or the one whole channel.
unfoldable pub groups : GroupBy → List ℤ
groups Note = numbers_from 801 lowest_note
groups NoteLetter = numbers_from 12 (pos 0)
groups Channel = numbers_from 1 (pos 0)

abbrev pub entry_at : ℤ → Option Float → Option (ℤ × Float) → Option (ℤ × Float)
entry_at g (some d) r = some (g, d)
entry_at g none r = r

-- SPEC 6.5b: the first of these groups, not below `from`, that has an entry.
unfoldable pub first_entry : ℤ → (ℤ → Option Float) → List ℤ → Option (ℤ × Float)
first_entry from f [] = none
first_entry from f (g ∷ gs) = let r = first_entry from f gs in cond (le_z from g) (entry_at g (f g) r) r

unfoldable pub next_rule : Model → ℕ → ℤ → Option (ℤ × Float)
next_rule m c from = first_entry from (m.detunings c) (groups m.group_by)

-- ---- records of keys

-- What a model has of a key. A key that is not in the plan has no note.
pub record KeyRecord : Type 0 where
  pub note : ℤ
  pub channel : ℕ
  pub detuning : Float

unfoldable pub is_in : KeyRecord → Bool
is_in r = is_note r.note

-- Of the key's record as it is stored, 0 or note + 301 + 1024 * channel, and its detuning.
abbrev pub key_record : ℕ → Float → KeyRecord
key_record raw d = record { note = note_of raw; channel = channel_of (raw / 1024); detuning = d }

unfoldable pub key_records : List ℕ → List Float → List KeyRecord
key_records [] ds = []
key_records (raw ∷ records) [] = []
key_records (raw ∷ records) (d ∷ ds) = key_record raw d ∷ key_records records ds

-- What stands for a key beyond the records.
abbrev pub no_key : KeyRecord
no_key = key_record 0 nan

-- SPEC 6.5: a key is found on its channel with its note, or it is not found.
unfoldable pub key_in : List KeyRecord → ℕ → Option (ℕ × ℤ)
key_in rs k = let r = get_or rs k no_key in cond (is_in r) (some (r.channel, r.note)) none

abbrev pub larger : Float → Option Float → Option Float
larger d none = some d
larger d (some e) = cond (le d e) (some e) (some d)

-- The record counts for the group g on channel c.
unfoldable pub counts : GroupBy → ℕ → ℤ → KeyRecord → Bool
counts by c g r = leb r.channel c && is_in r && same (group by r.note) g

-- SPEC 6.5a: the largest detuning of the group g up to channel c. Keys of a group come to their channels by rising detuning, so it is the one that came last.
unfoldable pub highest : GroupBy → ℕ → ℤ → List KeyRecord → Option Float
highest by c g [] = none
highest by c g (r ∷ rs) = let h = highest by c g rs in cond (counts by c g r) (larger r.detuning h) h

-- ---- SPEC 12.1: the model of what lies in memory

unfoldable pub records_in : List ℕ → List Float → List KeyRecord
records_in records detunings = key_records records (map detuning_of detunings)

-- SPEC 6.5a: channels beyond the plan's have no entry.
unfoldable pub detuning_in : GroupBy → ℕ → List KeyRecord → ℕ → ℤ → Option Float
detuning_in by n rs c g = cond (ltb c n) (highest by c g rs) none

-- The model of its settings and its records.
abbrev pub model_with : List ℕ → GroupBy → Bool → ℕ → List KeyRecord → Model
model_with cs by planned n rs = record { channels = cs; group_by = by; tuned = planned; num_channels = n; keys = key_in rs; detunings = detuning_in by n rs }

unfoldable pub view : AotTuningModel → Model
view m = model_with (entries m.channels) (group_by_of m.group_by) (eqb m.tuned 1) m.num_channels (records_in m.records (floats m.detunings))

-- ---- calls in place

-- SPEC 1.9a: a refusal leaves the model as it was.
abbrev pub KeptIfRefused : PlanAnswer → AotTuningModel → AotTuningModel → Type 0
KeptIfRefused (refused n) old new = new ≡ old
KeptIfRefused (tuned n) old new = Unit {0}
KeptIfRefused (untuned n) old new = Unit {0}

-- A tuning follows the rule in its model and its answer, and leaves the very same model where it is refused.
abbrev pub TuningMeets : Model × PlanAnswer → AotTuningModel → AotTuningModel → PlanAnswer → Type 0
TuningMeets rule old new answer = ((view new, answer) ≡ rule) × KeptIfRefused answer old new

-- ---- the code's answers in these words

abbrev pub access_answer : Optional Place → Option (ℕ × ℤ)
access_answer (Some p) = some (p.channel, p.note.number)
access_answer None = none

abbrev pub plan_answer : Result Planned Refusal → PlanAnswer
plan_answer (Ok (Tuned n)) = tuned n
plan_answer (Ok (Untuned n)) = untuned n
plan_answer (Err r) = refused (number r)
