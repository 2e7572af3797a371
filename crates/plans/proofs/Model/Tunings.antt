-- What a tuning leaves, by its cases: refused, untuned and tuned. Each follows the rule, and meets demand 3.
use Rattle.std.proofs.Common.{◌≡◌, ℕ, ◌<◌, ◌≤◌, List, length, Result, Ok, Err, refl, sym, ap, ◌∙◌, subst, arith}
use Rattle.std.specs.Result.{IsErrAnd}
use Rattle.arithmetic.specs.Outcome.{Outcome, value}
use Rattle.arithmetic.specs.declared.refusal.Refusal.{Refusal}
use Rattle.plans.specs.declared.aot.AotTuningModel.{AotTuningModel}
use Rattle.plans.specs.declared.aot.GroupBy.{GroupBy}
use Rattle.plans.specs.declared.aot.Planned.{Planned}
use Rattle.plans.specs.declared.sorted_keys.SortedKeys.{SortedKeys}
use Rattle.plans.specs.PlanLine.{PlanLine}
use Rattle.plans.specs.Walk.{count}
use Rattle.plans.specs.PlanNumbers.{floats}
use Rattle.plans.specs.Plan.{KeyRecord, Model, PlanAnswer, tuned, untuned, Measurable, PlanOptimal, TuningMeets, empty, plan_answer, view, planned, records_in}
use Rattle.plans.specs.PlanInternal.{Checked, Assignments, lines_of}
use Rattle.plans.proofs.Model.Models.{planned_untuned}
use Rattle.plans.proofs.Planning.Planned.{checked_fine, plan_optimal, planned_lines, planned_refused}
use Rattle.plans.proofs.Model.Views.{view_of_plan}
use Rattle.plans.proofs.Model.Entries.{planned_positive}
use lib.Ieee.Bits.{is_true}

-- the very model is left
pub refused_tunes : (a : AotTuningModel) (o : Outcome (List PlanLine)) (e : Refusal) (r : Result Planned Refusal) → IsErrAnd r (λ d. d ≡ e)
    → Checked o (Err e) → TuningMeets (planned (view a) o) a a (plan_answer r)
refused_tunes a o e (Ok p) h c = absurd h
refused_tunes a o e (Err d) h c = (planned_refused o (view a) d (rw h c), refl)

module _ (a : AotTuningModel) (o : Outcome (List PlanLine)) (s : SortedKeys) (c : Checked o (Ok s)) (cs : List ℕ) (same : cs ≡ (view a).channels)
    (by : GroupBy) (own : by ≡ (view a).group_by) where
  -- no plan is left
  pub untuned_tunes : (rs : List KeyRecord) (n : ℕ) → Assignments by (lines_of s) rs n → length cs < n → (new : AotTuningModel) → view new ≡ empty cs by
      → TuningMeets (planned (view a) o) a new (untuned n)
  untuned_tunes rs n assignments few new e =
      let m = view a in
      let p = planned_lines o s m c in
      let n_is : n ≡ count m.group_by (lines_of s) = assignments.count_is ∙ ap (λ (g : GroupBy). count g (lines_of s)) own in
      let more : length m.channels < count m.group_by (lines_of s) = omega (arith, n_is, ap length same) in (
        (λ i. ((e ∙ (λ j. empty (same j) (own j))) i, untuned (n_is i))) ∙ sym (planned_untuned m (lines_of s) more) ∙ p.1,
        tt,
      )

  -- the plan is left
  pub tuned_tunes : (records bits : List ℕ) (n : ℕ) → Assignments by (lines_of s) (records_in records (floats bits)) n → n ≤ length cs → length cs ≤ 16
      → TuningMeets (planned (view a) o) a
      (record { records = records; detunings = bits; channels = a.channels; group_by = a.group_by; num_channels = n; tuned = 1 }) (tuned n)
  unfolding view
  tuned_tunes records bits n assignments fit few =
      let m = view a in
      let p = planned_lines o s m c in
      let assigned = subst (λ (g : GroupBy). Assignments g (lines_of s) (records_in records (floats bits)) n) own assignments in
      (view_of_plan m (lines_of s) p.0 (records_in records (floats bits)) n assigned (omega (arith, assigned.count_is, ap length same)) (omega arith) ∙ p.1, tt)

-- what follows the rule meets demand 3
pub optimal_of : (a : AotTuningModel) (o : Outcome (List PlanLine)) (r : Result SortedKeys Refusal) → Checked o r
    → (new : AotTuningModel) (answer : PlanAnswer) → TuningMeets (planned (view a) o) a new answer → PlanOptimal (view a) o (view new, answer)
optimal_of a o r c new answer t = plan_optimal (view a) o (view new, answer) (checked_fine o r c) t.0

-- and each of its detunings can be measured
pub measurable_of : (a : AotTuningModel) (o : Outcome (List PlanLine)) (s : SortedKeys) → Checked o (Ok s) → (new : AotTuningModel) (answer : PlanAnswer)
    → TuningMeets (planned (view a) o) a new answer → Measurable (view new)
measurable_of a (Outcome.refused n) s c new answer t = absurd c
measurable_of a (value lines) s c new answer t =
    λ i g d e. is_true _ (planned_positive (view a) lines c.0 i g d (ap (λ (x : Model × PlanAnswer). x.0.detunings i g) (sym t.0) ∙ e))
