-- What a plan tuner's calls come to: a tuning by the model's answer, with demand 3.
use mathlib.Core.Path.{◌≡◌, refl}
use mathlib.Core.Bool.{Bool, true, false, cond}
use mathlib.Core.Option.{Option}
use mathlib.Core.List.{List}
use Prim.Native.Nat.{ℕ}
use native.Mathlib.Omega.{arith}
use borrow.Author.Tests.{leb-true, leb-false}
use lib.Dec.{leb}
use lib.IntN.{ℤ}
use lib.ListN.{length}
use Rattle.channels.specs.Outcome.{Outcome, value, refused}
use Rattle.channels.specs.Refusal.{buffer_too_short}
use Rattle.plans.specs.PlanLine.{PlanLine}
use Rattle.plans.specs.Placing.{Demand3}
use Rattle.plans.specs.Plan as M
use Rattle.plans.specs.Plan.{Model}
use Rattle.plans.specs.declared.aot.GroupBy.{GroupBy}
use Rattle.senders.specs.Buffer.{WriteMeets, sent, result_of}
use Rattle.plan_tuner.specs.Aot.{Tuner, SomeFits, PlanOptimal}

-- ---- demand 3

-- a plan that is tuned is a placing that fits
pub some_fits :
    (by : GroupBy) (lines : List PlanLine) (present : ℕ) {find : ℕ → Option (ℕ × ℤ)} {n : ℕ} → Demand3 by lines present find true n
    → SomeFits by lines present
some_fits by lines present {n = n} d = go (leb n present) refl
  where
    go : (b : Bool) → leb n present ≡ b → SomeFits by lines present
    go true e = let p = d.planned tt in (p.0, p.2.in_order, omega (arith, p.2.exact, leb-true n present e))
    go false e = absurd (d.untuned.1 (λ q o f. let k = d.counted.1.least q o in let z : ⊥ = omega (arith, leb-false n present e) in z))

-- so it is where the plan's bytes have no room
pub unsent_optimal :
    (t next : Tuner) (m : Model) (n : ℕ) (lines : Outcome (List PlanLine)) {k : ℕ} {bs old new : List ℕ} → M.PlanOptimal t.plan lines (m, M.tuned n)
    → WriteMeets (sent bs) old (refused k) new → PlanOptimal t lines (refused k) next
unsent_optimal t next m n (refused j) d p = tt
unsent_optimal t next m n (value lines) {k} {bs} {old} d p =
    (short (leb (length bs) (length old)) p.result_is, some_fits t.plan.group_by lines (length t.plan.channels) d)
  where
    short : (b : Bool) → refused k ≡ result_of (cond b (sent bs) (refused buffer_too_short)) → k ≡ buffer_too_short
    short true e = absurd (cc)
    short false e = cc
