-- Demand 3: nobody who places the keys by hand does better than the plan. One statement for every model, both kinds of list and every kind of group.
use mathlib.Core.Path.{◌≡◌, refl, sym}
use mathlib.Core.Bool.{Bool, true, false, cond}
use mathlib.Core.List.{List}
use Prim.Native.Nat.{ℕ}
use native.Mathlib.Nat.{not-le_of_lt}
use lib.Dec.{T, leb, leb→le, nleb→lt, not_T}
use lib.ListN.{length}
use Rattle.arithmetic.specs.Outcome.{Outcome, value}
use Rattle.plans.specs.PlanLine.{PlanLine}
use Rattle.plans.specs.Walk.{count, assignment, channel}
use Rattle.plans.specs.Placing.{Demand3}
use Rattle.plans.specs.Plan.{Model, tuned, untuned, planned_model, empty, planned, PlanOptimal}
use Rattle.plans.specs.PlanInternal.{Accepted}
use Rattle.plans.proofs.Planning.Plan.{walk_best, more_than_present}
use Rattle.plans.proofs.Walk.Assignments.{lines_assigned}

-- An answer with the walk's count, tuned where that many channels are present, with the walk's assignments as the lookup.
pub walk_meets_demand_3 : (m : Model) (lines : List PlanLine) → Accepted lines
    → (t : Bool) → leb (count m.group_by lines) (length m.channels) ≡ t
    → (find : ℕ → _) → (T t → find ≡ assignment m.group_by lines)
    → Demand3 m.group_by lines (length m.channels) find t (count m.group_by lines)
walk_meets_demand_3 m lines ok t e find same =
    let by = m.group_by in
    let n = count by lines in
    let present = length m.channels in
    let b = walk_best by lines ok in
    let more = more_than_present by lines n (channel by lines) b present in
    record {
      counted = (channel by lines, b);
      planned = λ h. (channel by lines, rw (same h) (lines_assigned by lines ok), b);
      untuned = (
        λ h. more.0 (nleb→lt n present (rw e h)),
        λ no. rw (sym e) (not_T (leb n present) λ h. not-le_of_lt (more.1 no) (leb→le n present h)),
      );
    }

-- Planning accepted lists meets demand 3: on every model, however it was opened and whatever was planned before.
pub demand_3 : (m : Model) (o : Outcome (List PlanLine)) → ((lines : List PlanLine) → o ≡ value lines → Accepted lines) → PlanOptimal m o (planned m o)
unfolding planned
demand_3 m (Outcome.refused n) ok = tt
demand_3 m (value lines) ok = go (leb (count m.group_by lines) (length m.channels)) refl
  where
    go : (t : Bool) → leb (count m.group_by lines) (length m.channels) ≡ t
        → PlanOptimal m (value lines) (cond t (planned_model m lines, tuned (count m.group_by lines))
        (empty m.channels m.group_by, untuned (count m.group_by lines)))
    go true e = walk_meets_demand_3 m lines (ok lines refl) true e (assignment m.group_by lines) (λ h. refl)
    go false e = walk_meets_demand_3 m lines (ok lines refl) false e (λ k. _) (λ h. absurd h)
