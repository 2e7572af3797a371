-- The interface for C: each function ends in what it does or in a refusal whose number it is allowed, and a refused one leaves its block and its buffer as
-- they were.
use Prim.Native.Nat.{ℕ, ◌<◌}
use mathlib.Core.Path.{◌≡◌, refl, sym, ap, ◌∙◌}
use mathlib.Core.Bool.{true, ◌&&◌}
use mathlib.Core.Logic.{inl, inr}
use mathlib.Core.List.{List, [], ◌∷◌, ◌++◌}
use mathlib.Core.Option.{Option, some, none}
use lib.Dec.{T, leb}
use lib.IntN.{ℤ}
use lib.Ieee.{Float}
use lib.Ieee.Positive.{positive}
use lib.ListN.{length}
use native.Mathlib.Omega.{arith}
use Rattle.arithmetic.specs.Outcome.{Outcome, value, refused}
use Rattle.arithmetic.specs.Note.{is_note}
use Rattle.arithmetic.specs.Pitch.{is_pitch, pitch_rule}
use Rattle.arithmetic.specs.Nearest.{nearest_rule}
use Rattle.arithmetic.specs.Measure.{measure_rule}
use Rattle.channels.specs.ChannelList.{list_rule}
use Rattle.channels.specs.Lists.{Each, member}
use Rattle.plans.specs.PlanLine.{PlanLine}
use Rattle.plans.specs.PlanLists.{note_lists, pitch_lists}
use Rattle.channels.specs.TuningValue.{tuning_rule}
use Rattle.pools.specs.View.{StateMeets}
use Rattle.channels.specs.Places.{Place}
use Rattle.pools.specs.Pool.{State, Press, Pressing, accepted, rejected, outcome_and_state, register_rule, repitch_rule}
use Rattle.pools.specs.Pool as Pools
use Rattle.pools.specs.declared.settings.Retrigger.{Retrigger}
use Rattle.pools.specs.declared.settings.Retrigger.TheVariants.{Off, On}
use Rattle.plans.specs.Plan as M
use Rattle.channels.specs.declared.tuning_value.Tuning.{Tuning}
use Rattle.channels.specs.declared.tuning_value.Tuning.TheVariants.{Fine, Bend}
use Rattle.senders.specs.Buffer.{Effect, CallMeets, check_room, result_of, StateAfter, buffer_after}
use Rattle.senders.specs.Midi.{message_rule}
use Rattle.senders.specs.Mts.{channel_tuning_rule}
use Rattle.senders.specs.Jit as Jit
use Rattle.senders.specs.declared.jit.JitTuner.{JitTuner}
use Rattle.plan_tuner.specs.Aot as Aot
use Rattle.plan_tuner.specs.declared.aot.AotTuner.{AotTuner}
use Rattle.capi.specs.Answers.{plan_in, plan_sent_in, of_sent, of_press, of_list, of_plan, of_plan_sent, of_pressed, of_registered, of_repitched, of_nearest, of_pitch, of_measure, of_tuning}
use Rattle.capi.specs.Entry.{EntryMeets}
use Rattle.capi.specs.declared.answer.Answer.{Answer}
use Rattle.theorems.specs.Entries as E
use Rattle.theorems.specs.FunctionsForC.{Function, call, pool_model_open, register_key, repitch_key, nearest_note, note_pitch, measure, tuning_value}
use Rattle.theorems.specs.FunctionsForC.{plan_model_open, plan_model_set_tuning, plan_model_set_tuning_of_pitches, called, answered, register_allowed, allowed, AllowedAnswer, done, refuses}
use Rattle.theorems.proofs.Plans.Refusals.{note_lists_numbers, pitch_lists_numbers, refused_unchanged as plan_refused_unchanged}
use Rattle.theorems.specs.Entries.{Among}
use Rattle.theorems.proofs.Pools.Refusals.{register_refuses}
use Rattle.theorems.proofs.Pools.Retrigger.{not_may_off}
use Rattle.theorems.proofs.Tuners.Refusals.{among_test}
use Rattle.theorems.proofs.Tuners.Demand1 as D

-- A call in place, whose answer is then given in numbers, meets the contract of an entry: one law over the tuner and the answer.
pub entry_meets :
    {R S T : Type 0} {view : T → S} {answer_of : Outcome R → Answer} {rule : Outcome (Effect R S)} {old new : T} {buffer buffer' : List ℕ}
    {result : Outcome R} {answer : Answer}
    → answer ≡ answer_of result → CallMeets view rule old buffer result new buffer' → EntryMeets view answer_of rule old buffer answer new buffer'
entry_meets {answer_of = answer_of} e p = record { answer_is = e ∙ ap answer_of p.result_is; block_is = p.state_is; buffer_is = p.buffer_is }

-- ---- what is allowed, in the fields of an answer

module _ (ns : List ℕ) where
  among_result : {R S : Type 0} (f : Outcome (Effect R S)) → Among ns f → Among ns (result_of f)
  among_result (value e) h = tt
  among_result (refused n) h = h

  sent_ends : {S : Type 0} (f : Outcome (Effect ℕ S)) → Among ns f → AllowedAnswer ns (of_sent (result_of f)).outcome (of_sent (result_of f)).refusal
  sent_ends (value e) h = done 0 (omega arith)
  sent_ends (refused n) h = refuses n h

  pressed_ends : (o : Outcome Jit.PressResult) → Among ns o → AllowedAnswer ns (of_press o).outcome (of_press o).refusal
  pressed_ends (value (Jit.press_sent n)) h = done 0 (omega arith)
  pressed_ends (value (Jit.press_rejected n)) h = done 2 (omega arith)
  pressed_ends (refused n) h = refuses n h

  press_ends :
      {S : Type 0} (f : Outcome (Effect Jit.PressResult S)) → Among ns f
      → AllowedAnswer ns (of_press (result_of f)).outcome (of_press (result_of f)).refusal
  press_ends f h = pressed_ends (result_of f) (among_result f h)

  planned_ends : (o : Outcome Aot.Planned) → Among ns o → AllowedAnswer ns (of_plan_sent o).outcome (of_plan_sent o).refusal
  planned_ends (value (Aot.plan_tuned n bytes)) h = done 0 (omega arith)
  planned_ends (value (Aot.plan_untuned n)) h = done 1 (omega arith)
  planned_ends (refused n) h = refuses n h

  plan_sent_ends :
      {S : Type 0} (f : Outcome (Effect Aot.Planned S)) → Among ns f
      → AllowedAnswer ns (of_plan_sent (result_of f)).outcome (of_plan_sent (result_of f)).refusal
  plan_sent_ends f h = planned_ends (result_of f) (among_result f h)

  list_ends : (o : Outcome (List ℕ)) → Among ns o → AllowedAnswer ns (of_list o).outcome (of_list o).refusal
  list_ends (value cs) h = done 0 (omega arith)
  list_ends (refused n) h = refuses n h

  pressing_ends : (p : Option Place) (r : Press) → AllowedAnswer ns (of_pressed p r).outcome (of_pressed p r).refusal
  pressing_ends p (accepted c s note d) = done 0 (omega arith)
  pressing_ends p rejected = done 2 (omega arith)

  registered_ends : (o : Outcome Pressing) → Among ns o → AllowedAnswer ns (of_registered o).outcome (of_registered o).refusal
  registered_ends (value p) h = pressing_ends p.released p.press
  registered_ends (refused n) h = refuses n h

  repitched_ends : (o : Outcome (Option (Place × Float))) → Among ns o → AllowedAnswer ns (of_repitched o).outcome (of_repitched o).refusal
  repitched_ends (value (some r)) h = done 0 (omega arith)
  repitched_ends (value none) h = done 3 (omega arith)
  repitched_ends (refused n) h = refuses n h

  nearest_ends : (o : Outcome (ℤ × Float)) → Among ns o → AllowedAnswer ns (of_nearest o).outcome (of_nearest o).refusal
  nearest_ends (value r) h = done 0 (omega arith)
  nearest_ends (refused n) h = refuses n h

  pitch_ends : (o : Outcome Float) → Among ns o → AllowedAnswer ns (of_pitch o).outcome (of_pitch o).refusal
  pitch_ends (value hz) h = done 0 (omega arith)
  pitch_ends (refused n) h = refuses n h

  measure_ends : (o : Outcome ℤ) → Among ns o → AllowedAnswer ns (of_measure o).outcome (of_measure o).refusal
  measure_ends (value l) h = done 0 (omega arith)
  measure_ends (refused n) h = refuses n h

  tuning_ends : (o : Outcome Tuning) → Among ns o → AllowedAnswer ns (of_tuning o).outcome (of_tuning o).refusal
  tuning_ends (value (Fine v)) h = done 0 (omega arith)
  tuning_ends (value (Bend v)) h = done 0 (omega arith)
  tuning_ends (refused n) h = refuses n h

  replied_among : (s : State) (o : Outcome (Pressing × State)) → Among ns o → Among ns (outcome_and_state s o).0
  unfolding outcome_and_state
  replied_among s (value r) h = tt
  replied_among s (refused n) h = h

  plan_ends :
      (m : M.Model) (lines : Outcome (List PlanLine)) → ((n : ℕ) → lines ≡ refused n → T (member n ns))
      → AllowedAnswer (ns ++ []) (of_plan (M.planned m lines).1).outcome (of_plan (M.planned m lines).1).refusal
  plan_ends m lines h = by (M.planned m lines).1 refl
    where
      by : (a : M.PlanAnswer) → (M.planned m lines).1 ≡ a → AllowedAnswer (ns ++ []) (of_plan a).outcome (of_plan a).refusal
      by (M.tuned n) e = done 0 (omega arith)
      by (M.untuned n) e = done 1 (omega arith)
      by (M.refused n) e = refuses n (D.member_longer n ns [] (h n (plan_refused_unchanged m lines n e).0))

-- ---- the theorem

called_ends : (c : E.Entry) (room : ℕ) → AllowedAnswer (E.allowed c) (called c room).0 (called c room).1
called_ends (E.raw_message ch m) room = sent_ends _ (check_room room (message_rule ch m)) (D.demand_1 (E.raw_message ch m) room)
called_ends (E.channel_tuning kind ch d) room = sent_ends _ (check_room room (channel_tuning_rule kind ch d)) (D.demand_1 (E.channel_tuning kind ch d) room)
called_ends (E.pool_start cs kind mode retrigger) room =
    list_ends _ (Jit.start_rule cs kind mode retrigger).0 (D.demand_1 (E.pool_start cs kind mode retrigger) room)
called_ends (E.pool_note_on t key hz v) room = press_ends _ (check_room room (Jit.note_on_rule t key hz v)) (D.demand_1 (E.pool_note_on t key hz v) room)
called_ends (E.pool_note_off t key v) room = sent_ends _ (check_room room (Jit.note_off_rule t key v)) (D.demand_1 (E.pool_note_off t key v) room)
called_ends (E.pool_note_pitch t key hz) room = sent_ends _ (check_room room (Jit.note_pitch_rule t key hz)) (D.demand_1 (E.pool_note_pitch t key hz) room)
called_ends (E.pool_note_attr t key p) room = sent_ends _ (check_room room (Jit.note_attr_rule t key p)) (D.demand_1 (E.pool_note_attr t key p) room)
called_ends (E.pool_global_attr t m) room = sent_ends _ (check_room room (Jit.global_attr_rule t m)) (D.demand_1 (E.pool_global_attr t m) room)
called_ends (E.pool_stop t) room = sent_ends _ (check_room room (Jit.stop_rule t)) (D.demand_1 (E.pool_stop t) room)
called_ends (E.plan_start cs kind) room = list_ends _ (Aot.start_rule cs kind).0 (D.demand_1 (E.plan_start cs kind) room)
called_ends (E.plan_set_tuning t ks ns ds) room =
    plan_sent_ends _ (check_room room (Aot.set_tuning_rule t ks ns ds)) (D.demand_1 (E.plan_set_tuning t ks ns ds) room)
called_ends (E.plan_set_tuning_of_pitches t ks hzs) room =
    plan_sent_ends _ (check_room room (Aot.set_tuning_of_pitches_rule t ks hzs)) (D.demand_1 (E.plan_set_tuning_of_pitches t ks hzs) room)
called_ends (E.plan_note_on t key v) room = sent_ends _ (check_room room (Aot.note_on_rule t key v)) (D.demand_1 (E.plan_note_on t key v) room)
called_ends (E.plan_note_off t key v) room = sent_ends _ (check_room room (Aot.note_off_rule t key v)) (D.demand_1 (E.plan_note_off t key v) room)
called_ends (E.plan_note_attr t key p) room = sent_ends _ (check_room room (Aot.note_attr_rule t key p)) (D.demand_1 (E.plan_note_attr t key p) room)
called_ends (E.plan_global_attr t m) room = sent_ends _ (check_room room (Aot.global_attr_rule t m)) (D.demand_1 (E.plan_global_attr t m) room)
called_ends (E.plan_stop t) room = sent_ends _ (check_room room (Aot.stop_rule t)) (D.demand_1 (E.plan_stop t) room)

register_among : (s : State) (key : ℕ) (hz : Float) → Among (register_allowed s.retrigger) (register_rule s key hz)
register_among s key hz = by (register_rule s key hz) refl
  where
    ns : List ℕ
    ns = register_allowed s.retrigger

    one : (r : Retrigger) → member 1 (register_allowed r) ≡ true
    one Off = refl
    one On = refl

    by : (o : Outcome (Pressing × State)) → register_rule s key hz ≡ o → Among ns o
    by (value r) e = tt
    by (refused n) e =
        elim ((register_refuses s key hz n).0 e) [
          | inl h ↦ ap (λ (k : ℕ). member k ns) h.1 ∙ one s.retrigger
          | inr h ↦ ap (λ (k : ℕ). member k ns) h.1.1 ∙ ap (λ (r : Retrigger). member 11 (register_allowed r)) (not_may_off s key h.1.0)
        ]

pub demand_1 : (f : Function) → AllowedAnswer (allowed f) (answered f).0 (answered f).1
unfolding Pools.open_rule M.open_rule repitch_rule nearest_rule pitch_rule measure_rule tuning_rule
demand_1 (call c room) = called_ends c room
demand_1 (pool_model_open cs by mode retrigger) = list_ends (6 ∷ 7 ∷ []) (list_rule cs) (D.channel_list_among cs)
demand_1 (register_key s key hz) =
    let ns = register_allowed s.retrigger in
    registered_ends ns _ (replied_among ns s _ (register_among s key hz))
demand_1 (repitch_key s key hz) = repitched_ends _ _ (among_test (allowed (repitch_key s key hz)) 1 (is_pitch hz) _ refl tt)
demand_1 (plan_model_open cs by) = list_ends (6 ∷ 7 ∷ []) (list_rule cs) (D.channel_list_among cs)
demand_1 (plan_model_set_tuning m ks ns ds) = plan_ends (12 ∷ 4 ∷ 3 ∷ 5 ∷ []) m (note_lists ks ns ds) (note_lists_numbers ks ns ds)
demand_1 (plan_model_set_tuning_of_pitches m ks hzs) = plan_ends (12 ∷ 1 ∷ 5 ∷ []) m (pitch_lists ks hzs) (pitch_lists_numbers ks hzs)
demand_1 (nearest_note hz) = nearest_ends _ _ (among_test (allowed (nearest_note hz)) 1 (is_pitch hz) _ refl tt)
demand_1 (note_pitch note) = pitch_ends _ _ (among_test (allowed (note_pitch note)) 4 (is_note note) _ refl tt)
demand_1 (measure d) = measure_ends _ _ (among_test (allowed (measure d)) 2 (positive d) _ refl tt)
demand_1 (tuning_value kind d) = tuning_ends _ _ (among_test (allowed (tuning_value kind d)) 2 (positive d) _ refl tt)

register_known : (r : Retrigger) → Each (λ (n : ℕ). leb 1 n && leb n 13 ≡ true) (register_allowed r)
register_known Off = (refl, (refl, tt))
register_known On = (refl, tt)

-- The numbers are those of refusals, from 1 to 13.
pub numbers_known : (f : Function) → Each (λ (n : ℕ). leb 1 n && leb n 13 ≡ true) (allowed f)
numbers_known (call c room) = D.numbers_known c
numbers_known (pool_model_open cs by mode retrigger) = (refl, (refl, tt))
numbers_known (register_key s key hz) = register_known s.retrigger
numbers_known (repitch_key s key hz) = (refl, tt)
numbers_known (plan_model_open cs by) = (refl, (refl, tt))
numbers_known (plan_model_set_tuning m ks ns ds) = (refl, (refl, (refl, (refl, tt))))
numbers_known (plan_model_set_tuning_of_pitches m ks hzs) = (refl, (refl, (refl, tt)))
numbers_known (nearest_note hz) = (refl, tt)
numbers_known (note_pitch note) = (refl, tt)
numbers_known (measure d) = (refl, tt)
numbers_known (tuning_value kind d) = (refl, tt)

-- ---- a refusal leaves the block and the buffer

-- This is for a call that writes, where no result of it has the outcome 4.
pub refused_unchanged :
    {R S B : Type 0} {view : B → S} {answer_of : Outcome R → Answer} {rule : Outcome (Effect R S)} {old new : B} {buffer buffer' : List ℕ} {answer : Answer}
    → ((r : R) → (answer_of (value r)).outcome < 4) → EntryMeets view answer_of rule old buffer answer new buffer' → answer.outcome ≡ 4
    → (new ≡ old) × (buffer' ≡ buffer)
refused_unchanged
    {R = R} {S = S} {view = view} {answer_of = answer_of} {rule = rule} {old = old} {new = new} {buffer = buffer} {buffer' = buffer'} {answer = answer}
    below p h =
    by (check_room (length buffer) rule) p.answer_is p.block_is p.buffer_is
  where
    by :
        (f : Outcome (Effect R S)) → answer ≡ answer_of (result_of f) → StateAfter view f old new → buffer' ≡ buffer_after f buffer
        → (new ≡ old) × (buffer' ≡ buffer)
    by (value e) a m l = absurd (omega (arith, below e.result, sym h ∙ ap (λ (x : Answer). x.outcome) a))
    by (refused k) a m l = (m, l)

-- None has it for the three kinds of result.
pub sent_below : (n : ℕ) → (of_sent (value n)).outcome < 4
sent_below n = omega arith

pub press_below : (r : Jit.PressResult) → (of_press (value r)).outcome < 4
press_below (Jit.press_sent n) = omega arith
press_below (Jit.press_rejected n) = omega arith

pub plan_below : (r : Aot.Planned) → (of_plan_sent (value r)).outcome < 4
plan_below (Aot.plan_tuned n bytes) = omega arith
plan_below (Aot.plan_untuned n) = omega arith

-- This is for the calls that open a block.
pub pool_open_refused_unchanged : (o : Outcome (List ℕ)) (t : Jit.Tuner) (old new : JitTuner) → Jit.StartMeets o t old new → (of_list o).outcome ≡ 4 → new ≡ old
pool_open_refused_unchanged (value cs) t old new p h = absurd (omega (arith, h))
pool_open_refused_unchanged (refused n) t old new p h = p

pub plan_open_refused_unchanged : (o : Outcome (List ℕ)) (t : Aot.Tuner) (old new : AotTuner) → Aot.StartMeets o t old new → (of_list o).outcome ≡ 4 → new ≡ old
plan_open_refused_unchanged (value cs) t old new p h = absurd (omega (arith, h))
plan_open_refused_unchanged (refused n) t old new p h = p

-- This is for a press of a pool model and a tuning of a plan model: the model and the kind beside it are the whole block.
pub register_refused_unchanged :
    (s : State) (rule : Outcome (Pressing × State)) (old new : JitTuner) → StateMeets rule old.model new.model → new.tuning_kind ≡ old.tuning_kind
    → (of_registered (outcome_and_state s rule).0).outcome ≡ 4 → new ≡ old
unfolding outcome_and_state
register_refused_unchanged s (value r) old new p k h = by r.0.press h
  where
    by : (press : Press) → (of_pressed r.0.released press).outcome ≡ 4 → new ≡ old
    by (accepted c stopped note d) h = absurd (omega (arith, h))
    by rejected h = absurd (omega (arith, h))
register_refused_unchanged s (refused n) old new p k h = rw (p, k)

pub tuning_refused_unchanged :
    (rule : M.Model × M.PlanAnswer) (old new : AotTuner) → M.TuningMeets rule old.model new.model rule.1 → new.tuning_kind ≡ old.tuning_kind
    → (of_plan rule.1).outcome ≡ 4 → new ≡ old
tuning_refused_unchanged (m, M.tuned n) old new p k h = absurd (omega (arith, h))
tuning_refused_unchanged (m, M.untuned n) old new p k h = absurd (omega (arith, h))
tuning_refused_unchanged (m, M.refused n) old new p k h = rw (p.1, k)

-- ---- what a plan answers is read back from its numbers: the clauses `optimal` of the entries that plan speak of the very answer

pub plan_read : (a : M.PlanAnswer) → plan_in (of_plan a) ≡ a
plan_read (M.tuned n) = refl
plan_read (M.untuned n) = refl
plan_read (M.refused n) = refl

pub plan_sent_read : (o : Outcome Aot.Planned) → plan_sent_in (of_plan_sent o) ≡ o
plan_sent_read (value (Aot.plan_tuned n bytes)) = refl
plan_sent_read (value (Aot.plan_untuned n)) = refl
plan_sent_read (refused n) = refl
