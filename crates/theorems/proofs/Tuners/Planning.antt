-- Demand 3 of a plan tuner, from its plan model's: it holds whatever room there is for the bytes, and a call that follows the rule keeps it.
use mathlib.Core.Path.{◌≡◌, refl, sym, subst}
use mathlib.Core.Bool.{Bool, true, false, cond}
use mathlib.Core.List.{List}
use Prim.Native.Nat.{ℕ}
use native.Mathlib.Omega.{arith}
use borrow.Author.Tests.{le-leb}
use lib.Dec.{leb}
use lib.ListN.{length}
use Rattle.channels.specs.Outcome.{Outcome, value, refused}
use Rattle.channels.specs.Refusal.{buffer_too_short}
use Rattle.plans.specs.PlanLine.{PlanLine}
use Rattle.plans.specs.Placing.{Demand3}
use Rattle.plans.specs.Plan as M
use Rattle.plans.specs.Plan.{Model, planned}
use Rattle.plans.specs.PlanInternal.{Fine}
use Rattle.plans.proofs.Planning.Demand3.{demand_3}
use Rattle.senders.specs.Buffer.{Effect, CallMeets, check_room, result_of, state_after}
use Rattle.senders.specs.Midi.{bytes_of}
use Rattle.senders.proofs.Tuners.Buffer.{handed_back}
use Rattle.plan_tuner.specs.Aot.{Tuner, Planned, PlanOptimal, plan_tuned, with_plan, view, plan_messages, plan_effect}
use Rattle.plan_tuner.specs.declared.aot.AotTuner.{AotTuner}
use Rattle.plan_tuner.proofs.PlanCalls.{some_fits}

module _ (t : Tuner) (room : ℕ) where
  sent_optimal :
      (lines : List PlanLine) (m : Model) (n : ℕ) (bs : List ℕ) → Demand3 t.plan.group_by lines (length t.plan.channels) m.keys true n → (b : Bool)
      → let f : Outcome (Effect Planned Tuner) =
      cond b (value (record { result = plan_tuned n (length bs); bytes = bs; next = with_plan t m })) (refused buffer_too_short) in
      PlanOptimal t (value lines) (result_of f) (state_after t f)
  sent_optimal lines m n bs d true = d
  sent_optimal lines m n bs d false = (refl, some_fits t.plan.group_by lines (length t.plan.channels) d)

  check_room_optimal :
      (lines : Outcome (List PlanLine)) (r : Model × M.PlanAnswer) → M.PlanOptimal t.plan lines r
      → PlanOptimal t lines (result_of (check_room room (plan_effect t r))) (state_after t (check_room room (plan_effect t r)))
  check_room_optimal (refused k) r d = tt
  check_room_optimal (value lines) (m, M.tuned n) d =
      sent_optimal lines m n (bytes_of (plan_messages t.tuning_kind m)) d (leb (length (bytes_of (plan_messages t.tuning_kind m))) room)
  check_room_optimal (value lines) (m, M.untuned n) d = rw (le-leb 0 room (omega arith)) d
  check_room_optimal (value lines) (m, M.refused n) d = absurd d

  -- Demand 3 of a tuner's rule, whatever room there is for the bytes.
  pub rule_optimal :
      (lines : Outcome (List PlanLine)) → Fine lines
      → let rule = check_room room (plan_effect t (planned t.plan lines)) in
      PlanOptimal t lines (result_of rule) (state_after t rule)
  rule_optimal lines f = check_room_optimal lines (planned t.plan lines) (demand_3 t.plan lines (λ l e. subst Fine e f))

-- A tuning follows its rule, with demand 3, where the model did so.
pub tuning_meets_optimal :
    (s back : AotTuner) (old new : List ℕ) (answer : Outcome Planned) (lines : Outcome (List PlanLine)) (r : Model × M.PlanAnswer)
    → r ≡ planned (view s).plan lines → M.PlanOptimal (view s).plan lines r → CallMeets view (plan_effect (view s) r) s old answer back new
    → CallMeets view (plan_effect (view s) (planned (view s).plan lines)) s old answer back new × PlanOptimal (view s) lines answer (view back)
tuning_meets_optimal s back old new answer lines r e d p = (
  subst (λ (x : Model × M.PlanAnswer). CallMeets view (plan_effect (view s) x) s old answer back new) e p,
  subst (λ (x : Outcome Planned). PlanOptimal (view s) lines x (view back)) (sym p.result_is)
      (subst (λ (x : Tuner). PlanOptimal (view s) lines (result_of (check_room (length old) (plan_effect (view s) r))) x) (sym (handed_back p))
      (check_room_optimal (view s) (length old) lines r d)),
)
