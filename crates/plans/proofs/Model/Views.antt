-- A plan model as it lies in memory: what its detunings are read as, and the model of a plan that was made.
use mathlib.Core.Path.{◌≡◌, refl, sym, ap, ◌∙◌}
use mathlib.Core.Bool.{Bool, true, false, cond}
use mathlib.Core.List.{List, [], ◌∷◌, map}
use mathlib.Core.Option.{Option, none}
use Prim.Native.Nat.{ℕ, ◌<◌, ◌≤◌}
use lib.Dec.{T, ltb}
use lib.Ieee.{Float, nan, inf, fin, is_nan, of_bits}
use lib.Ieee.Positive.{positive}
use lib.ListN.{length, get_or, replicate, length-map}
use Rattle.std.specs.Float.{NotNan}
use Rattle.std.proofs.lemmas.List.{get_or-map}
use Rattle.channels.specs.Lists.{Each}
use Rattle.channels.specs.ChannelList.{entries}
use Rattle.channels.specs.declared.list.ChannelList.{ChannelList}
use Rattle.channels.proofs.Lists.Laws.{Each-zip}
use Rattle.arithmetic.specs.Outcome.{value}
use Rattle.plans.specs.declared.aot.GroupBy.{GroupBy}
use Rattle.plans.specs.PlanLine.{PlanLine}
use Rattle.plans.specs.PlanNumbers.{detuning_of, floats, group_by_of}
use Rattle.plans.specs.Plan.{KeyRecord, Model, no_key, key_record, tuned, detuning_in, model_with, key_records, records_in, empty, planned_model, planned, view}
use Rattle.plans.specs.Walk.{count}
use Rattle.plans.specs.PlanInternal.{Accepted, Assignments}
use Rattle.plans.proofs.Model.Records.{key_records_at, length_key_records}
use Rattle.plans.proofs.Model.Models.{same_model, AllOut, no_keys, no_detunings, replicated_out, planned_tuned}
use Rattle.plans.proofs.Model.Lookups.{key_in_is_assignment, detuning_entry}

-- ---- detunings as they are read

pub detuning_kept : (d : Float) → T (positive d) → detuning_of d ≡ d
unfolding detuning_of is_nan
detuning_kept nan p = absurd p
detuning_kept (inf s) p = absurd p
detuning_kept (fin s m e) p = refl

-- those of lines are read as they are
pub lines_kept : (ds : List Float) (l : List PlanLine) → Each (λ (x : PlanLine). x.key < length ds) l → Each (λ (x : PlanLine). T (positive x.detuning)) l
    → Each (λ (x : PlanLine). get_or ds x.key nan ≡ x.detuning) l
    → Each (λ (x : PlanLine). get_or (map detuning_of ds) x.key nan ≡ x.detuning) l
lines_kept ds l b p h =
    Each-zip (λ x b f. get_or-map detuning_of ds x.key nan nan b ∙ f) l b
    (Each-zip (λ x p h. ap detuning_of h ∙ detuning_kept x.detuning p) l p h)

-- a key's record
pub record_in : (records : List ℕ) (ds : List Float) → length records ≡ length ds → (k : ℕ)
    → get_or (records_in records ds) k no_key ≡ key_record (get_or records k 0) (get_or (map detuning_of ds) k nan)
unfolding records_in
record_in records ds e k = key_records_at records (map detuning_of ds) k (e ∙ sym (length-map ds detuning_of))

pub records_count : (records : List ℕ) (ds : List Float) → length records ≡ length ds → length (records_in records ds) ≡ length records
unfolding records_in
records_count records ds e = length_key_records records (map detuning_of ds) (e ∙ sym (length-map ds detuning_of))

-- what stands at a key with a detuning, as it is read
pub record_at : (records : List ℕ) (ds : List Float) → length records ≡ length ds → (k : ℕ) → k < length ds → (d : Float) → d ≡ detuning_of (get_or ds k nan)
    → get_or (records_in records ds) k no_key ≡ key_record (get_or records k 0) d
record_at records ds e k h d u = record_in records ds e k ∙ ap (key_record (get_or records k 0)) (get_or-map detuning_of ds k nan nan h ∙ sym u)

pub number_read : (d : Float) → NotNan (detuning_of d)
unfolding detuning_of is_nan of_bits
number_read nan = tt
number_read (inf s) = tt
number_read (fin s m e) = tt

-- all are read as numbers
pub numbers_read : (records : List ℕ) (ds : List Float) → Each (λ (r : KeyRecord). NotNan r.detuning) (records_in records ds)
unfolding records_in key_records
numbers_read [] ds = tt
numbers_read (c ∷ records) [] = tt
numbers_read (c ∷ records) (d ∷ ds) = (number_read d, numbers_read records ds)

-- ---- no plan
module _ (cs : List ℕ) (by : GroupBy) (n : ℕ) (rs : List KeyRecord) (e : n ≡ length cs) (out : AllOut rs) where
  pub view_of_none : model_with cs by false n rs ≡ empty cs by
  unfolding detuning_in
  view_of_none =
      same_model (model_with cs by false n rs) (empty cs by) refl refl refl e (no_keys rs out)
      (λ c g. no_detuning (ltb c n) (no_detunings by c g rs out))
    where
      no_detuning : (b : Bool) {o : Option Float} → o ≡ none → cond b o none ≡ none
      no_detuning true e = e
      no_detuning false e = refl

-- of a model in which no key has a record
pub view_of_empty : (list : ChannelList) (by : GroupBy) (number n : ℕ) (bits : List ℕ) → group_by_of number ≡ by → n ≡ length (entries list)
    → view (record { records = replicate 256 0; detunings = bits; channels = list; group_by = number; num_channels = n; tuned = 0 }) ≡ empty (entries list) by
unfolding view records_in
view_of_empty list by number n bits e h =
    rw e (view_of_none (entries list) by n (records_in (replicate 256 0) (floats bits)) h (replicated_out 256 (map detuning_of (floats bits))))

-- ---- a plan
module _ (m : Model) (lines : List PlanLine) (ok : Accepted lines) (rs : List KeyRecord) (n : ℕ) (s : Assignments m.group_by lines rs n)
    (fit : count m.group_by lines ≤ length m.channels) (few : n ≤ 16) where
  pub view_of_plan : (model_with m.channels m.group_by true n rs, tuned n) ≡ planned m (value lines)
  unfolding detuning_in
  view_of_plan =
      let by = m.group_by in
      (λ i. (
        same_model (model_with m.channels by true n rs) (planned_model m lines) refl refl refl s.count_is (key_in_is_assignment by lines ok rs n s few)
            (detuning_entry by lines ok rs n s few) i,
        tuned (s.count_is i),
      ))
      ∙ sym (planned_tuned m lines fit)
