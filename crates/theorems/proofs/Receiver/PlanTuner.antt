-- What the calls of a plan tuner wrote, as a reader and a receiver by the Specification take it, from any state they were in: the tunings of a plan, and
-- with BothTuners the presses, releases, pressures and messages to all.
use Rattle.std.specs.Prelude.{flat_map}
use mathlib.Core.Path.{◌≡◌, refl, sym, ap, subst, ◌∙◌}
use mathlib.Core.Bool.{Bool, true, false, cond}
use mathlib.Core.Option.{Option, some, none}
use mathlib.Core.List.{List, [], ◌∷◌, ◌++◌}
use Prim.Native.Nat.{ℕ, zero, suc, ◌<◌}
use native.Mathlib.Nat.{zero-add}
use native.Mathlib.Omega.{arith}
use lib.Dec.{T, eqb, eqb→eq}
use Rattle.std.proofs.Math.Option.{none-ne-some}
use lib.IntN.{pos}
use lib.Ieee.{Float}
use lib.ListN.{length, take, drop, get_elem?}
use lib.Seq.{take_at}
use borrow.Author.Tests.{eq-eqb}
use Rattle.channels.specs.Outcome.{value}
use Rattle.channels.specs.ChannelList.{entries}
use Rattle.channels.specs.Lists.{Distinct, member, upward}
use Rattle.plans.specs.Plan as M
use Rattle.plans.specs.Plan.{Model, view as plan_view, planned, open_rule}
use Rattle.channels.specs.TuningValue.{sent_as}
use Rattle.channels.specs.declared.list.ChannelList.{ChannelList}
use Rattle.channels.specs.declared.tuning_value.TuningKind.{TuningKind}
use Rattle.channels.proofs.Lists.Laws.{T→false, member_head, member_tail, not_false, true→T}
use Rattle.channels.proofs.Values.{sent_in_steps}
use Rattle.senders.specs.Buffer.{Effect, CallMeets, overwrite}
use Rattle.senders.specs.Message.{Message}
use Rattle.senders.specs.Midi.{bytes_of}
use Rattle.plan_tuner.specs.Aot.{Tuner, view, with_plan, Planned, plan_tuned, channel_messages, plan_messages, plan_effect}
use Rattle.theorems.specs.Reader.{State, read}
use Rattle.theorems.specs.Receiver.{Channel, Receiver, Other, receive_all, receive_bytes}
use Rattle.theorems.specs.ExpectedEffect.{tuned, in_turn, channel_expected, plan_expected}
use Rattle.plan_tuner.specs.declared.aot.AotTuner.{AotTuner}
use Rattle.theorems.specs.ChannelLists.{DistinctChannels}
use Rattle.theorems.proofs.Bytes.Read.{read_plain}
use Rattle.theorems.proofs.Receiver.Conveyed.{Conveys, conveys_none, conveys_each, conveys_tuning}
use Rattle.theorems.proofs.Bytes.Accepted.{accepted}
use Rattle.plan_tuner.proofs.Tunings.{upward_push}

-- ---- the tunings of a plan, read and received

module _ (other : Other) (kind : TuningKind) (l : ChannelList) where
  channel_conveyed : (i : ℕ) (o : Option Float) → Conveys other (channel_messages kind (entries l) i o) (channel_expected kind (entries l) i o)
  channel_conveyed i (some d) = let c = conveys_tuning other l i (sent_as kind d) (sent_in_steps kind d) in record { plain = c.plain; received = c.received }
  channel_conveyed i none = let c = conveys_none other in record { plain = c.plain; received = c.received }

  plan_conveyed :
      (m : Model) → m.channels ≡ entries l → Conveys other (plan_messages kind m) (plan_expected kind m)
  plan_conveyed m e =
      let channels = upward 0 m.num_channels in
      subst
      (λ (cs : List ℕ).
      Conveys other (flat_map (λ i. channel_messages kind cs i (m.detunings i (pos 0))) channels)
      (in_turn (λ i. channel_expected kind cs i (m.detunings i (pos 0))) channels))
      (sym e)
      (conveys_each other (λ i. channel_messages kind (entries l) i (m.detunings i (pos 0)))
      (λ i. channel_expected kind (entries l) i (m.detunings i (pos 0))) channels (λ i. channel_conveyed i (m.detunings i (pos 0))))

-- A tuned answer: what was planned is the tuner's plan, and its tunings stand at the buffer's start.
pub record TunedAnswer (t : Tuner) (o : Model × M.PlanAnswer) (back : Tuner) (new : List ℕ) (n w : ℕ) : Type 0 where
  pub model : Model
  pub planned_is : o ≡ (model, M.tuned n)
  pub next_is : back ≡ with_plan t model
  pub starts : take w new ≡ bytes_of (plan_messages back.tuning_kind back.plan)

pub tuned_answer : (t : Tuner) (o : Model × M.PlanAnswer) {s back : AotTuner} {old new : List ℕ} {n w : ℕ}
    → CallMeets view (plan_effect t o) s old (value (plan_tuned n w)) back new → TunedAnswer t o (view back) new n w
tuned_answer t (m, M.tuned k) {old = old} {n = n} {w = w} p =
    let a = accepted p in
    let bs : List ℕ = bytes_of (plan_messages t.tuning_kind m) in
    let e : Effect Planned Tuner = record { result = plan_tuned k (length bs); bytes = bs; next = with_plan t m } in
    let same : e ≡ a.effect = cc in
    let next = a.next_is ∙ sym (ap (λ (x : Effect Planned Tuner). x.next) same) in
    let says : plan_tuned n w ≡ plan_tuned k (length bs) = a.answer_is ∙ sym (ap (λ (x : Effect Planned Tuner). x.result) same) in
    let long : w ≡ length bs = cc in
    let count : k ≡ n = cc in
    record {
      model = m;
      planned_is = ap (λ (j : ℕ). (m, M.tuned j)) count;
      next_is = next;
      starts =
          ap (λ (x : List ℕ). take w x) a.new_is
          ∙ ap (λ (x : Effect Planned Tuner). take w (overwrite x.bytes old)) (sym same)
          ∙ take_at bs (drop (length bs) old) w (sym long)
          ∙ ap (λ (x : Tuner). bytes_of (plan_messages x.tuning_kind x.plan)) (sym next);
    }
tuned_answer t (m, M.untuned k) p = let a = accepted p in absurd (let z : ◌≡◌ {A = ℕ} 0 1 = cc in omega arith)
tuned_answer t (m, M.refused k) p = let a = accepted p in absurd (let z : ◌≡◌ {A = ℕ} 0 1 = cc in omega arith)

module _ (other : Other) (st : State) (r : Receiver) (t : Tuner) (o : Model × M.PlanAnswer) {s back : AotTuner} {old new : List ℕ} {n w : ℕ}
    (call : CallMeets view (plan_effect t o) s old (value (plan_tuned n w)) back new) where
  conveyed : Conveys other (plan_messages (view back).tuning_kind (view back).plan) (plan_expected (view back).tuning_kind (view back).plan)
  unfolding plan_view
  conveyed = plan_conveyed other (view back).tuning_kind back.model.channels (view back).plan refl

  -- After a tuned answer a reader finds the tunings of the plan's channels.
  pub plan_read : read st (take w new) ≡ plan_messages (view back).tuning_kind (view back).plan
  plan_read = ap (read st) (tuned_answer t o call).starts ∙ read_plain st (plan_messages (view back).tuning_kind (view back).plan) conveyed.plain

  -- And a receiver has them.
  pub plan_received : receive_bytes other st (take w new) r ≡ plan_expected (view back).tuning_kind (view back).plan r
  plan_received = ap (λ (x : List Message). receive_all other x r) plan_read ∙ conveyed.received r

-- ---- channel by channel

module _ (kind : TuningKind) (cs : List ℕ) (detunings : ℕ → Option Float) where
  abbrev change : ℕ → Receiver → Receiver
  change i = channel_expected kind cs i (detunings i)

  abbrev up_to : ℕ → Receiver → Receiver
  up_to n r = in_turn change (upward 0 n) r

  up_to_suc : (n : ℕ) (r : Receiver) → up_to (suc n) r ≡ change n (up_to n r)
  up_to_suc n r = ap (λ (l : List ℕ). in_turn change l r) (upward_push 0 n ∙ ap (λ (k : ℕ). upward 0 n ++ (k ∷ [])) (zero-add n)) ∙ go (upward 0 n) r
    where
      go : (l : List ℕ) (r : Receiver) → in_turn change (l ++ (n ∷ [])) r ≡ change n (in_turn change l r)
      go [] r = refl
      go (i ∷ l) r = go l (change i r)

  module _ (ch : ℕ) where
    -- A change of another channel leaves this one.
    other_channel : (i : ℕ) (r : Receiver) → (get_elem? cs i ≡ some ch → ⊥) → change i r ch ≡ r ch
    other_channel i r h = by (detunings i) (get_elem? cs i) refl
      where
        at : (c : ℕ) (f : Channel → Channel) → get_elem? cs i ≡ some c → (b : Bool) → eqb ch c ≡ b → cond b (f (r ch)) (r ch) ≡ r ch
        at c f e true q = absurd (h (e ∙ ap some (sym (eqb→eq ch c (true→T q)))))
        at c f e false q = refl

        by : (d : Option Float) (o : Option ℕ) → get_elem? cs i ≡ o → channel_expected kind cs i d r ch ≡ r ch
        by none o e = refl
        by (some d) none e = rw e refl
        by (some d) (some c) e = rw e (at c (tuned (sent_as kind d)) e (eqb ch c) refl)

    channel_unchanged : (n : ℕ) (r : Receiver) → ((i : ℕ) → i < n → get_elem? cs i ≡ some ch → ⊥) → up_to n r ch ≡ r ch
    unfolding upward
    channel_unchanged zero r h = refl
    channel_unchanged (suc n) r h =
        ap (λ (q : Receiver). q ch) (up_to_suc n r)
        ∙ other_channel n (up_to n r) (h n (omega arith))
        ∙ channel_unchanged n r (λ i k. h i (omega arith))

    -- The channel changes at its only place in the list.
    channel_changed :
        (n i : ℕ) (d : Float) (r : Receiver) → i < n → get_elem? cs i ≡ some ch → detunings i ≡ some d → ((j : ℕ) → get_elem? cs j ≡ some ch → j ≡ i)
        → up_to n r ch ≡ tuned (sent_as kind d) (r ch)
    unfolding upward
    channel_changed zero i d r h e q only = absurd (let z : ⊥ = omega arith in z)
    channel_changed (suc n) i d r h e q only = by (λ k. channel_changed n i d r k e q only) (eqb i n) refl
      where
        here : change i (up_to n r) ch ≡ tuned (sent_as kind d) (up_to n r ch)
        here = rw (q, e, eq-eqb ch ch refl) refl

        apart : eqb i n ≡ false → i ≡ n → ⊥
        apart k f = let w = eq-eqb i n f in let z : ◌≡◌ {A = ℕ} 0 1 = cc in omega arith

        by : (i < n → up_to n r ch ≡ tuned (sent_as kind d) (r ch)) → (b : Bool) → eqb i n ≡ b → up_to (suc n) r ch ≡ tuned (sent_as kind d) (r ch)
        by before true k =
            let last : i ≡ n = eqb→eq i n (true→T k) in
            ap (λ (x : Receiver). x ch) (up_to_suc n r)
            ∙ ap (λ (j : ℕ). change j (up_to n r) ch) (sym last)
            ∙ here
            ∙ ap (tuned (sent_as kind d)) (channel_unchanged n r (λ j g f. let y = only j f in let z : ⊥ = omega arith in z))
        by before false k =
            ap (λ (x : Receiver). x ch) (up_to_suc n r)
            ∙ other_channel n (up_to n r) (λ f. apart k (sym (only n f)))
            ∙ before (omega (arith, apart k))

-- ---- a channel of a list without repetition stands at one place

entry_member : (cs : List ℕ) (ch j : ℕ) → get_elem? cs j ≡ some ch → T (member ch cs)
entry_member [] ch j e = absurd (none-ne-some ch e)
entry_member (c ∷ cs) ch zero e = let same : c ≡ ch = cc in subst (λ (x : ℕ). T (member x (c ∷ cs))) same (member_head c cs)
entry_member (c ∷ cs) ch (suc j) e = member_tail ch c cs (entry_member cs ch j e)

only_place : (cs : List ℕ) (ch i j : ℕ) → Distinct cs → get_elem? cs i ≡ some ch → get_elem? cs j ≡ some ch → j ≡ i
only_place [] ch i j f e q = absurd (none-ne-some ch e)
only_place (c ∷ cs) ch zero zero f e q = refl
only_place (c ∷ cs) ch zero (suc j) f e q =
    let same : c ≡ ch = cc in
    absurd (not_false (T→false _ f.0) (subst (λ (x : ℕ). T (member x cs)) (sym same) (entry_member cs ch j q)))
only_place (c ∷ cs) ch (suc i) zero f e q =
    let same : c ≡ ch = cc in
    absurd (not_false (T→false _ f.0) (subst (λ (x : ℕ). T (member x cs)) (sym same) (entry_member cs ch i e)))
only_place (c ∷ cs) ch (suc i) (suc j) f e q = ap suc (only_place cs ch i j f.1 e q)

-- ---- what a plan comes to

module _ (other : Other) (st : State) (r : Receiver) (t : Tuner) (o : Model × M.PlanAnswer) {s back : AotTuner} {old new : List ℕ} {n w : ℕ}
    (call : CallMeets view (plan_effect t o) s old (value (plan_tuned n w)) back new) (ch : ℕ) where
  -- After a tuned answer each channel of the plan is tuned by its detuning, from whatever it was.
  pub plan_tunes :
      DistinctChannels (view back).plan.channels → (i : ℕ) (d : Float) → i < (view back).plan.num_channels → get_elem? (view back).plan.channels i ≡ some ch
      → (view back).plan.detunings i (pos 0) ≡ some d → receive_bytes other st (take w new) r ch ≡ tuned (sent_as (view back).tuning_kind d) (r ch)
  plan_tunes f i d h e q =
      let m = (view back).plan in
      ap (λ (x : Receiver). x ch) (plan_received other st r t o call)
      ∙ channel_changed (view back).tuning_kind m.channels (λ j. m.detunings j (pos 0)) ch m.num_channels i d r h e q
      (λ j g. only_place m.channels ch i j f.0 e g)

  -- Every other channel is as it was.
  pub plan_spares :
      ((i : ℕ) → i < (view back).plan.num_channels → get_elem? (view back).plan.channels i ≡ some ch → ⊥)
      → receive_bytes other st (take w new) r ch ≡ r ch
  plan_spares h =
      let m = (view back).plan in
      ap (λ (x : Receiver). x ch) (plan_received other st r t o call)
      ∙ channel_unchanged (view back).tuning_kind m.channels (λ j. m.detunings j (pos 0)) ch m.num_channels r h
