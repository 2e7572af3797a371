-- `aot::AotTuner::set_tuning` meets its contract, demand 3 included: the model's tuning of a copy, and what is then sent.
use Rattle.std.proofs.Common.{refl, sym, subst}
use Rattle.arithmetic.proofs.Rules.Outcomes.{hands_on_by}
use Rattle.channels.specs.Outcome.{Outcome}
use Rattle.plans.specs.Plan.{view as plan_view}
use Rattle.plan_tuner.specs.Aot.{Planned, view, planned_sent, PlanOptimal}
use Rattle.plan_tuner.proofs.PlanCalls.{unsent_optimal}
use Rattle.plan_tuner.proofs.aot.AotTuner.set_tuning.Goals as goal

pub returns-in_err-written-in-Tuned-clause-optimal : goal.returns-in_err-written-in-Tuned-clause-optimal
returns-in_err-written-in-Tuned-clause-optimal g c =
    let t = view c.args.self.now in
    let lines = g.L.TuningLists.lines c.args.lists.now in
    let optimal = rw c.in-Tuned.is at c.in_ok-channels.ensures.optimal in
    subst (λ (x : Outcome Planned). PlanOptimal t lines x t)
    (sym (hands_on_by planned_sent _ _ c.from_residual-in_err-written-in-Tuned.ensures.1 refl))
    (unsent_optimal t t (plan_view c.set_tuning.new.self) c.in-Tuned.channels lines optimal c.in_err-written-in-Tuned.ensures)
