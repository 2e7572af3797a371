-- A plan tuner after any tunings, refused and untuned ones included: its tuning kind, its channels and its channel groups are those that it was started
-- with, and its channels are distinct.
use mathlib.Core.Path.{◌≡◌, refl, sym, ap, subst, ◌∙◌}
use mathlib.Core.Bool.{Bool, true, false, cond}
use mathlib.Core.List.{List, [], ◌∷◌, ◌++◌}
use Prim.Native.Nat.{ℕ}
use lib.Dec.{leb}
use lib.ListN.{length}
use Rattle.channels.specs.Outcome.{Outcome, value, refused}
use Rattle.channels.specs.ChannelList.{list_rule, present}
use Rattle.channels.specs.Refusal.{buffer_too_short}
use Rattle.channels.specs.declared.tuning_value.TuningKind.{TuningKind}
use Rattle.plans.specs.PlanLine.{PlanLine}
use Rattle.plans.specs.Plan as M
use Rattle.plans.specs.Plan.{Model, planned, open_rule}
use Rattle.plans.specs.declared.aot.GroupBy.TheVariants.{Channel}
use Rattle.plans.proofs.Model.Models.{planned_cases}
use Rattle.senders.specs.Buffer.{Effect, check_room, state_after, CallMeets}
use Rattle.senders.specs.Midi.{bytes_of}
use Rattle.senders.proofs.Tuners.Buffer.{handed_back}
use Rattle.plan_tuner.specs.Aot.{Tuner, view, Planned, plan_messages, plan_effect, start_rule}
use Rattle.plan_tuner.specs.declared.aot.AotTuner.{AotTuner}
use Rattle.theorems.specs.ChannelLists.{DistinctChannels}
use Rattle.theorems.specs.PlanTunerCalls.{Lists, notes, pitches, tune_rule, lines_of, Call, tune, step, run, reached}
use Rattle.theorems.proofs.ChannelLists.{channels_different}

-- ---- what no tuning alters

-- Planning leaves the channels and the kind of group.
pub planned_kept : (m : Model) (lines : Outcome (List PlanLine)) → ((planned m lines).0.channels ≡ m.channels) × ((planned m lines).0.group_by ≡ m.group_by)
unfolding planned
planned_kept m (refused n) = (refl, refl)
planned_kept m (value lines) =
    planned_cases m lines (λ r. (r.0.channels ≡ m.channels) × (r.0.group_by ≡ m.group_by)) (λ h. (refl, refl)) (λ h. (refl, refl))

pub record SettingsKept (t u : Tuner) : Type 0 where
  pub kind_is : u.tuning_kind ≡ t.tuning_kind
  pub channels_is : u.plan.channels ≡ t.plan.channels
  pub groups_is : u.plan.group_by ≡ t.plan.group_by

pub settings_refl : (t : Tuner) → SettingsKept t t
settings_refl t = record { kind_is = refl; channels_is = refl; groups_is = refl }

-- And so does a tuning, refused and untuned ones included.
pub tuning_kept :
    (t : Tuner) (lines : Outcome (List PlanLine)) (room : ℕ)
    → SettingsKept t (state_after t (check_room room (plan_effect t (planned t.plan lines))))
tuning_kept t lines room = by (planned t.plan lines) (planned_kept t.plan lines)
  where
    at : (e : Effect Planned Tuner) → SettingsKept t e.next → (b : Bool) → SettingsKept t (state_after t (cond b (value e) (refused buffer_too_short)))
    at e k true = k
    at e k false = settings_refl t

    by :
        (o : Model × M.PlanAnswer) → (o.0.channels ≡ t.plan.channels) × (o.0.group_by ≡ t.plan.group_by)
        → SettingsKept t (state_after t (check_room room (plan_effect t o)))
    by (m, M.tuned n) h = at _ (record { kind_is = refl; channels_is = h.0; groups_is = h.1 }) (leb (length (bytes_of (plan_messages t.tuning_kind m))) room)
    by (m, M.untuned n) h = at _ (record { kind_is = refl; channels_is = h.0; groups_is = h.1 }) (leb 0 room)
    by (m, M.refused n) h = settings_refl t

-- A tuning, of whatever lists and however it ends, leaves the channels.
pub channels_kept :
    (s back : AotTuner) (lines : Outcome (List PlanLine)) {old new : List ℕ} {answer : Outcome Planned}
    → CallMeets view (plan_effect (view s) (planned (view s).plan lines)) s old answer back new → (view back).plan.channels ≡ (view s).plan.channels
channels_kept s back lines {old} p =
    ap (λ (x : Tuner). x.plan.channels) (handed_back p) ∙ (tuning_kept (view s) lines (length old)).channels_is

settings_trans : {t u v : Tuner} → SettingsKept t u → SettingsKept u v → SettingsKept t v
settings_trans a b =
    record {
      kind_is = b.kind_is ∙ a.kind_is;
      channels_is = b.channels_is ∙ a.channels_is;
      groups_is = b.groups_is ∙ a.groups_is;
    }

pub rule_is : (t : Tuner) (lists : Lists) → tune_rule t lists ≡ plan_effect t (planned t.plan (lines_of lists))
rule_is t (notes ks ns ds) = refl
rule_is t (pitches ks hzs) = refl

step_kept : (t : Tuner) (c : Call) → SettingsKept t (step t c)
unfolding step
step_kept t (tune lists room) =
    subst (λ (o : Outcome (Effect Planned Tuner)). SettingsKept t (state_after t (check_room room o))) (sym (rule_is t lists))
    (tuning_kept t (lines_of lists) room)

run_kept : (t : Tuner) (cs : List Call) → SettingsKept t (run t cs)
unfolding run
run_kept t [] = settings_refl t
run_kept t (c ∷ cs) = settings_trans (step_kept t c) (run_kept (step t c) cs)

-- ---- the channels are distinct

pub started_distinct : (cs : List ℕ) (kind : TuningKind) → DistinctChannels (start_rule cs kind).1.plan.channels
unfolding open_rule
started_distinct cs kind = let d = channels_different cs in d.1

pub tuned_distinct :
    (s back : AotTuner) (lines : Outcome (List PlanLine)) {old new : List ℕ} {answer : Outcome Planned}
    → CallMeets view (plan_effect (view s) (planned (view s).plan lines)) s old answer back new
    → DistinctChannels (view s).plan.channels → DistinctChannels (view back).plan.channels
tuned_distinct s back lines p f = subst DistinctChannels (sym (channels_kept s back lines p)) f

-- ---- a tuner as it was started, and then tuned

module _ (channels : List ℕ) (kind : TuningKind) (calls : List Call) where
  settings_kept : SettingsKept (start_rule channels kind).1 (reached channels kind calls)
  settings_kept = run_kept (start_rule channels kind).1 calls

  pub reached_kind : (reached channels kind calls).tuning_kind ≡ kind
  reached_kind = settings_kept.kind_is

  -- Only channel groups are sent.
  pub reached_groups : (reached channels kind calls).plan.group_by ≡ Channel
  unfolding open_rule
  reached_groups = settings_kept.groups_is

  -- The channels are those of the list that it was started with.
  pub reached_channels : (reached channels kind calls).plan.channels ≡ present (list_rule channels)
  unfolding open_rule
  reached_channels = settings_kept.channels_is

  pub reached_distinct : DistinctChannels (reached channels kind calls).plan.channels
  reached_distinct = subst DistinctChannels (sym settings_kept.channels_is) (started_distinct channels kind)

run_snoc : (t : Tuner) (cs : List Call) (c : Call) → run t (cs ++ (c ∷ [])) ≡ step (run t cs) c
unfolding run
run_snoc t [] c = refl
run_snoc t (d ∷ cs) c = run_snoc (step t d) cs c

-- The tuner that a tuning hands back, however it ends, is again one that tunings led to.
pub handed_back_reached :
    (channels : List ℕ) (kind : TuningKind) (calls : List Call) (s back : AotTuner) → view s ≡ reached channels kind calls → (lists : Lists)
    {old new : List ℕ} {answer : Outcome Planned} → CallMeets view (tune_rule (view s) lists) s old answer back new
    → view back ≡ reached channels kind (calls ++ (tune lists (length old) ∷ []))
unfolding step
handed_back_reached channels kind calls s back is lists {old} call =
    handed_back call
    ∙ ap (λ (t : Tuner). state_after t (check_room (length old) (tune_rule t lists))) is
    ∙ sym (run_snoc (start_rule channels kind).1 calls (tune lists (length old)))
