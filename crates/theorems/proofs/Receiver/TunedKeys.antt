-- A plan tuner that any tunings have led to, refused and untuned ones included. After a tuned answer a press of a key of the list is received as its
-- note's, on a channel that is tuned by the last detuning of a chain of the list's own keys there, from this key on.
use mathlib.Core.Path.{◌≡◌, refl, sym, ap, subst, ◌∙◌}
use mathlib.Core.Option.{Option, some, none}
use mathlib.Core.List.{List, [], ◌∷◌, ◌++◌}
use Prim.Native.Nat.{ℕ, ◌<◌, ◌≤◌}
use native.Mathlib.Omega.{arith}
use borrow.Author.Tests.{eq-eqb}
use lib.IntN.{ℤ, pos}
use lib.Ieee.{Float}
use lib.ListN.{length, take, get_elem?}
use Rattle.channels.specs.Outcome.{Outcome, value, refused}
use Rattle.channels.specs.ChannelList.{list_rule, present}
use Rattle.channels.specs.Lists.{Each}
use Rattle.plans.specs.PlanLine.{PlanLine, group}
use Rattle.channels.specs.Places.{Place}
use Rattle.plans.specs.Plan as M
use Rattle.plans.specs.Plan.{Model, view as plan_view, planned, open_rule}
use Rattle.plans.specs.PlanInternal.{Accepted}
use Rattle.plans.specs.PlanLists.{pitch_lists}
use Rattle.channels.specs.TuningValue.{sent_as}
use Rattle.theorems.specs.Bounds.{value_of, StepBound}
use Rattle.plans.specs.declared.aot.GroupBy.{GroupBy}
use Rattle.plans.specs.declared.aot.GroupBy.TheVariants.{Channel}
use Rattle.channels.specs.declared.tuning_value.TuningKind.{TuningKind}
use Rattle.plans.proofs.Lines.Accepted.{notes_accepted, pitches_accepted}
use Rattle.channels.proofs.Lists.Laws.{Each-map}
use Rattle.theorems.proofs.Plans.Entries.{tuned_channels}
use Rattle.theorems.specs.PlannedKeys.{row, JoinChain, Placed}
use Rattle.theorems.proofs.Plans.PlannedKeys.{planned_keys}
use Rattle.theorems.proofs.Plans.Pitches.{pitches_law}
use Rattle.senders.specs.Buffer.{Effect, CallMeets, WriteMeets}
use Rattle.senders.specs.Tuner.{place_from}
use Rattle.plan_tuner.specs.Aot.{Tuner, view, Planned, plan_tuned, plan_effect, set_tuning_of_pitches_rule, found, note_on_rule}
use Rattle.theorems.specs.Reader.{State}
use Rattle.theorems.specs.Receiver.{Receiver, Other, receive_bytes}
use Rattle.theorems.specs.ExpectedEffect.{tuned, note_expected, key_expected, value_in}
use Rattle.theorems.specs.PlanTunerCalls.{Lists, notes, pitches, tune_rule, lines_of, Typed, Call, tune, reached}
use Rattle.theorems.specs.ChannelLists.{DistinctChannels}
use Rattle.theorems.specs.TunedKeys.{ChannelTuned, KeyTuned}
use Rattle.senders.specs.declared.tuner.NoteMessage.TheVariants.{On}
use Rattle.plan_tuner.specs.declared.aot.AotTuner.{AotTuner}
use Rattle.theorems.proofs.Receiver.BothTuners.{key_received}
use Rattle.theorems.proofs.Tuners.PoolTunerCalls.{entry_of_length}
use Rattle.theorems.proofs.Receiver.Received.{tuned_value}
use Rattle.theorems.proofs.Tuners.PlanTunerCalls.{planned_kept, rule_is, reached_kind, reached_groups, reached_channels, reached_distinct, handed_back_reached}
use Rattle.theorems.proofs.Receiver.PlanTuner.{plan_tunes, tuned_answer}

-- ---- a tuned answer

-- The lists were accepted, and the tuner has their plan.
record TunedPlan (s back : Tuner) (n : ℕ) (o : Outcome (List PlanLine)) : Type 0 where
  lines : List PlanLine
  lines_is : o ≡ value lines
  answer_is : (planned s.plan (value lines)).1 ≡ M.tuned n
  plan_is : back.plan ≡ (planned s.plan (value lines)).0

tuned_plan :
    (s back : AotTuner) (o : Outcome (List PlanLine)) {old new : List ℕ} {n w : ℕ}
    → CallMeets view (plan_effect (view s) (planned (view s).plan o)) s old (value (plan_tuned n w)) back new → TunedPlan (view s) (view back) n o
unfolding planned
tuned_plan s back (refused k) call =
    let g = tuned_answer (view s) (planned (view s).plan (refused k)) call in
    let e = g.planned_is in
    absurd (let z : ◌≡◌ {A = ℕ} 0 1 = cc in omega arith)
tuned_plan s back (value lines) call =
    let g = tuned_answer (view s) (planned (view s).plan (value lines)) call in
    record {
      lines = lines;
      lines_is = refl;
      answer_is = ap (λ (x : Model × M.PlanAnswer). x.1) g.planned_is;
      plan_is = ap (λ (x : Tuner). x.plan) g.next_is ∙ sym (ap (λ (x : Model × M.PlanAnswer). x.0) g.planned_is);
    }

lists_accepted : (lists : Lists) (lines : List PlanLine) → Typed lists → lines_of lists ≡ value lines → Accepted lines
lists_accepted (notes ks ns ds) lines ok e = notes_accepted ks ns ds lines ok.0 ok.1 e
lists_accepted (pitches ks hzs) lines ok e = pitches_accepted ks hzs lines ok e

-- ---- what a tuning comes to

module _
    (channels : List ℕ) (kind : TuningKind) (calls : List Call) (s back : AotTuner) (is : view s ≡ reached channels kind calls) (lists : Lists)
    {old new : List ℕ} {n w : ℕ} (call : CallMeets view (tune_rule (view s) lists) s old (value (plan_tuned n w)) back new) where
  next : view back ≡ reached channels kind (calls ++ (tune lists (length old) ∷ []))
  next = handed_back_reached channels kind calls s back is lists call

  kind_is : (view back).tuning_kind ≡ kind
  kind_is = ap (λ (t : Tuner). t.tuning_kind) next ∙ reached_kind channels kind (calls ++ (tune lists (length old) ∷ []))

  channels_is : (view back).plan.channels ≡ present (list_rule channels)
  channels_is = ap (λ (t : Tuner). t.plan.channels) next ∙ reached_channels channels kind (calls ++ (tune lists (length old) ∷ []))

  distinct_channels : DistinctChannels (view back).plan.channels
  distinct_channels =
      subst (λ (t : Tuner). DistinctChannels t.plan.channels) (sym next) (reached_distinct channels kind (calls ++ (tune lists (length old) ∷ [])))

  by_lines : CallMeets view (plan_effect (view s) (planned (view s).plan (lines_of lists))) s old (value (plan_tuned n w)) back new
  by_lines = subst (λ (o : Outcome (Effect Planned Tuner)). CallMeets view o s old (value (plan_tuned n w)) back new) (rule_is (view s) lists) call

  module _ (ok : Typed lists) where
    got : TunedPlan (view s) (view back) n (lines_of lists)
    got = tuned_plan s back (lines_of lists) by_lines

    lines_ok : Accepted got.lines
    lines_ok = lists_accepted lists got.lines ok got.lines_is

    groups : (view s).plan.group_by ≡ Channel
    groups = ap (λ (t : Tuner). t.plan.group_by) is ∙ reached_groups channels kind calls

    facts : let next = (planned (view s).plan (value got.lines)).0 in
        (next.num_channels ≡ n) × (n ≤ length (view s).plan.channels) × Each (Placed next got.lines n) got.lines
    facts = planned_keys (view s).plan got.lines lines_ok n got.answer_is

    few : n ≤ length (present (list_rule channels))
    few = subst (λ (l : List ℕ). n ≤ length l) (ap (λ (t : Tuner). t.plan.channels) is ∙ reached_channels channels kind calls) facts.1

    tuned_by : (i : ℕ) → i < n → (d : Float) → (view back).plan.detunings i (pos 0) ≡ some d
        → ChannelTuned (present (list_rule channels)) kind (view back) (take w new) i
    tuned_by i h d e =
        let at = entry_of_length (present (list_rule channels)) i (omega (arith, few)) in
        let count : (view back).plan.num_channels ≡ n = ap (λ (m : Model). m.num_channels) got.plan_is ∙ facts.0 in
        record {
          midi = at.0;
          listed_is = at.1;
          detuning = d;
          entered = e;
          received =
              λ other st r.
              plan_tunes other st r (view s) (planned (view s).plan (lines_of lists)) by_lines at.0 distinct_channels i d
              (subst (λ (k : ℕ). i < k) (sym count) h)
              (subst (λ (l : List ℕ). get_elem? l i ≡ some at.0) (sym channels_is) at.1)
              e
              ∙ ap (λ (k : TuningKind). tuned (sent_as k d) (r at.0)) kind_is;
        }

    -- After a tuned answer of n channels, on a tuner that any tunings have led to, each of the n is tuned by the plan's detuning of it.
    pub channels_tuned : (i : ℕ) → i < n → ChannelTuned (present (list_rule channels)) kind (view back) (take w new) i
    channels_tuned i h = by ((view back).plan.detunings i (pos 0)) refl
      where
        by : (o : Option Float) → (view back).plan.detunings i (pos 0) ≡ o
            → ChannelTuned (present (list_rule channels)) kind (view back) (take w new) i
        by (some d) e = tuned_by i h d e
        by none e =
            absurd
            ((tuned_channels (view s).plan got.lines lines_ok groups n got.answer_is).0 i h
            (ap (λ (m : Model). m.detunings i (pos 0)) (sym got.plan_is) ∙ e))

    press_after_sounds :
        (l : PlanLine) (i midi : ℕ) (d : Float)
        → found (view back) l.key ≡ some (record { channel = i; note = l.note }) → get_elem? (present (list_rule channels)) i ≡ some midi
        → ((other : Other) (st : State) (r : Receiver) → receive_bytes other st (take w new) r midi ≡ tuned (sent_as kind d) (r midi))
        → (other : Other) (st before : State) (r : Receiver) (v : ℕ) {old₂ new₂ : List ℕ} {w₂ : ℕ}
        → WriteMeets (note_on_rule (view back) l.key v) old₂ (value w₂) new₂
        → receive_bytes other st (take w₂ new₂) (receive_bytes other before (take w new) r) midi
        ≡ note_expected On l.note v (tuned (sent_as kind d) (r midi))
    unfolding plan_view
    press_after_sounds l i midi d f e h other st before r v a =
        let q = receive_bytes other before (take w new) r in
        ap (λ (x : Receiver). x midi) (key_received other st q back.model.channels On v (found (view back) l.key) a)
        ∙ ap (λ (o : Option Place). key_expected On (view back).plan.channels v o q midi) f
        ∙ here (subst (λ (c : List ℕ). get_elem? c i ≡ some midi) (sym channels_is) e)
        ∙ ap (note_expected On l.note v) (h other before r)
      where
        here : get_elem? (view back).plan.channels i ≡ some midi
            → key_expected On (view back).plan.channels v (some (record { channel = i; note = l.note })) (receive_bytes other before (take w new) r) midi
            ≡ note_expected On l.note v (receive_bytes other before (take w new) r midi)
        here g = rw (g, eq-eqb midi midi refl) refl

    key_tuned : (l : PlanLine) → Placed (planned (view s).plan (value got.lines)).0 got.lines n l
        → KeyTuned (present (list_rule channels)) kind (view back) (take w new) got.lines n l
    unfolding group tuned_by
    key_tuned l p =
        let e : (view back).plan.detunings p.channel (pos 0) ≡ some p.detuning =
        ap (λ (m : Model). m.detunings p.channel (pos 0)) got.plan_is ∙ own p.entered in
        let c = tuned_by p.channel p.below p.detuning e in
        let f : found (view back) l.key ≡ some (record { channel = p.channel; note = l.note }) =
        ap (λ (m : Model). place_from (m.keys l.key)) got.plan_is ∙ ap place_from p.found in
        record {
          channel = p.channel;
          below = p.below;
          found_is = f;
          on = c;
          chain = subst (λ (x : Model). JoinChain (row x.group_by got.lines x.keys p.channel (group x.group_by l.note)) l p.detuning) (sym got.plan_is) p.chain;
          sounds = λ other st before r v a. press_after_sounds l p.channel c.midi p.detuning f c.listed_is c.received other st before r v a;
        }
      where
        m : Model
        m = (planned (view s).plan (value got.lines)).0

        own : m.detunings p.channel (group m.group_by l.note) ≡ some p.detuning → m.detunings p.channel (pos 0) ≡ some p.detuning
        own e =
            subst (λ (k : GroupBy). m.detunings p.channel (group k l.note) ≡ some p.detuning)
            ((planned_kept (view s).plan (value got.lines)).1 ∙ groups) e

    -- And each key of the list is on one of them, and a press of it is received there as its note's.
    pub keys_tuned :
        (lines : List PlanLine) × (lines_of lists ≡ value lines)
        × Each (KeyTuned (present (list_rule channels)) kind (view back) (take w new) lines n) lines
    keys_tuned = (got.lines, got.lines_is, Each-map (λ l p. key_tuned l p) got.lines facts.2)

-- ---- a tuning of pitches

module _
    (channels : List ℕ) (kind : TuningKind) (calls : List Call) (s back : AotTuner) (is : view s ≡ reached channels kind calls)
    (ks : List ℕ) (hzs : List Float) {old new : List ℕ} {n w : ℕ}
    (call : CallMeets view (set_tuning_of_pitches_rule (view s) ks hzs) s old (value (plan_tuned n w)) back new) (ok : Typed (pitches ks hzs)) where
  -- Each channel of the plan then has a value that is not clamped and within the bound of its kind, by the plan's detuning of it.
  pub pitches_near :
      (i : ℕ) (h : i < n) (other : Other) (st : State) (r : Receiver)
      → let c = channels_tuned channels kind calls s back is (pitches ks hzs) call ok i h in
      StepBound kind (value_in kind (receive_bytes other st (take w new) r c.midi)) c.detuning
  pitches_near i h other st r =
      let c = channels_tuned channels kind calls s back is (pitches ks hzs) call ok i h in
      let g = tuned_plan s back (pitch_lists ks hzs) call in
      let entered : (planned (view s).plan (value g.lines)).0.detunings i (pos 0) ≡ some c.detuning =
      ap (λ (m : Model). m.detunings i (pos 0)) (sym g.plan_is) ∙ c.entered in
      let value_is : value_in kind (receive_bytes other st (take w new) r c.midi) ≡ value_of (sent_as kind c.detuning) =
      ap (value_in kind) (c.received other st r) ∙ tuned_value kind c.detuning (r c.midi) in
      subst (λ (k : ℤ). StepBound kind k c.detuning) (sym value_is)
      (pitches_law (view s).plan ks hzs g.lines (pitches_accepted ks hzs g.lines ok g.lines_is) g.lines_is i (pos 0) c.detuning entered kind)
