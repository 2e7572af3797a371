-- What a planned model's detuning entries are: each is an f64 that is finite and above zero, so that it can be measured.
use Rattle.std.specs.Prelude.{filter}
use mathlib.Core.Path.{◌≡◌, sym, ◌∙◌, subst}
use mathlib.Core.List.{List, [], ◌∷◌}
use mathlib.Core.Option.{none, some}
use Prim.Native.Nat.{ℕ}
use native.Mathlib.Omega.{arith}
use borrow.Author.Tests.{ltb-true, ltb-false}
use lib.Dec.{T, leb, ltb}
use lib.IntN.{ℤ}
use lib.Ieee.{Float}
use lib.Ieee.Positive.{positive}
use Rattle.arithmetic.specs.Outcome.{value}
use Rattle.plans.specs.declared.aot.GroupBy.{GroupBy}
use Rattle.channels.specs.Lists.{Each, Pairwise}
use Rattle.plans.specs.PlanLine.{PlanLine, of_group, rising}
use Rattle.plans.specs.Walk.{count, entry, channel}
use Rattle.plans.specs.Plan.{Model, planned}
use Rattle.plans.specs.PlanInternal.{Accepted}
use Rattle.channels.proofs.Lists.Laws.{tested, passed, failed, Each-filter, Pairwise-filter}
use Rattle.plans.proofs.Lines.Rising.{Each-rising}
use Rattle.plans.specs.PlanOrder.{UpTo}
use Rattle.plans.proofs.Planning.Plan.{lines_sorted}
use Rattle.std.proofs.Math.Option.{none-ne-some}
use Rattle.plans.proofs.Model.Models.{planned_cases}
use Rattle.plans.proofs.Walk.Carried.{entry_is, no_entry, last_is_largest}
use Rattle.plans.specs.Carried.{last_of, group_keys}

module _ (by : GroupBy) (lines : List PlanLine) (ok : Accepted lines) where
  pub group_keys_each : (P : PlanLine → Type 0) → Each P lines → (c : ℕ) (g : ℤ) → Each P (group_keys by lines c g)
  group_keys_each P h c g =
      Each-filter P (λ (l : PlanLine). leb (channel by lines l.key) c) (filter (of_group by g) (rising lines))
      (Each-filter P (of_group by g) (rising lines) (Each-rising P lines h))

  pub group_keys_sorted : (c : ℕ) (g : ℤ) → Pairwise UpTo (group_keys by lines c g)
  group_keys_sorted c g =
      Pairwise-filter UpTo (λ (l : PlanLine). leb (channel by lines l.key) c) (filter (of_group by g) (rising lines))
      (Pairwise-filter UpTo (of_group by g) (rising lines) (lines_sorted by lines ok))

  -- what holds of each line's detuning holds of each entry
  pub entry_each : (P : Float → Type 0) → Each (λ (l : PlanLine). P l.detuning) lines → (c : ℕ) (g : ℤ) (d : Float) → entry by lines c g ≡ some d → P d
  entry_each P h c g d e = elim (tested (ltb c (count by lines))) [
    | passed u ↦
        go (group_keys by lines c g) (group_keys_each (λ (l : PlanLine). P l.detuning) h c g)
        (group_keys_each (λ (l : PlanLine). T (positive l.detuning)) ok.detunings c g) (group_keys_sorted c g)
        (sym (entry_is by lines ok c g (ltb-true c (count by lines) u)) ∙ e)
    | failed u ↦ let k = sym (no_entry by lines ok c g (ltb-false c (count by lines) u)) ∙ e in absurd (let z : ◌≡◌ {A = ℕ} 0 1 = cc in omega arith)
  ]
    where
      go : (l : List PlanLine) → Each (λ (x : PlanLine). P x.detuning) l → Each (λ (x : PlanLine). T (positive x.detuning)) l → Pairwise UpTo l
          → last_of none l ≡ some d → P d
      go [] q p s u = absurd (let z : ◌≡◌ {A = ℕ} 0 1 = cc in omega arith)
      go (x ∷ l) q p s u =
          let z = last_is_largest (λ (y : PlanLine). P y.detuning) x l q p s in
          let f = sym z.3 ∙ u in
          let same : z.0.detuning ≡ d = cc in
          subst P same z.1

-- ---- the same of the model that planning hands back
pub planned_each : (m : Model) (lines : List PlanLine) → Accepted lines → (P : Float → Type 0) → Each (λ (l : PlanLine). P l.detuning) lines
    → (c : ℕ) (g : ℤ) (d : Float)
    → (planned m (value lines)).0.detunings c g ≡ some d → P d
planned_each m lines ok P h c g d =
    planned_cases m lines (λ r. r.0.detunings c g ≡ some d → P d) (λ l e. entry_each m.group_by lines ok P h c g d e) (λ l e. absurd (none-ne-some d e))

pub planned_positive : (m : Model) (lines : List PlanLine) → Accepted lines → (c : ℕ) (g : ℤ) (d : Float) → (planned m (value lines)).0.detunings c g ≡ some d
    → T (positive d)
planned_positive m lines ok c g d e = planned_each m lines ok (λ (f : Float). T (positive f)) ok.detunings c g d e
