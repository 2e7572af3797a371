-- When two models are the same, and which one has no keys.
use mathlib.Core.Path.{◌≡◌, refl, sym, subst}
use mathlib.Core.Bool.{false}
use Rattle.std.proofs.Math.Bool.{and-false}
use mathlib.Core.List.{List, [], ◌∷◌}
use mathlib.Core.Option.{none}
use Prim.Native.Nat.{ℕ, zero, suc, ◌<◌, ◌≤◌}
use borrow.Author.Tests.{le-leb, lt-leb, leb-true, leb-false}
use lib.Dec.{leb}
use lib.IntN.{ℤ}
use lib.Ieee.{Float}
use lib.ListN.{length, replicate}
use Rattle.arithmetic.specs.Outcome.{value}
use Rattle.plans.specs.declared.aot.GroupBy.{GroupBy}
use Rattle.plans.specs.PlanLine.{PlanLine}
use Rattle.plans.specs.Walk.{count}
use Rattle.plans.specs.Plan.{KeyRecord, Model, PlanAnswer, tuned, untuned, empty, planned_model, planned, is_in, key_records, key_in, counts, highest}
use Rattle.channels.specs.Lists.{Each}
use Rattle.channels.specs.Places.{note_of}
use Rattle.channels.proofs.Lists.Laws.{tested, passed, failed}

pub same_model : (m n : Model) → m.channels ≡ n.channels → m.group_by ≡ n.group_by → m.tuned ≡ n.tuned → m.num_channels ≡ n.num_channels
    → ((k : ℕ) → m.keys k ≡ n.keys k) → ((c : ℕ) (g : ℤ) → m.detunings c g ≡ n.detunings c g) → m ≡ n
same_model m n a b t d e f =
    λ i. record { channels = a i; group_by = b i; tuned = t i; num_channels = d i; keys = λ k. e k i; detunings = λ c g. f c g i }

-- no record is of a key in the plan
abbrev pub AllOut : List KeyRecord → Type 0
AllOut rs = Each (λ (r : KeyRecord). is_in r ≡ false) rs

pub replicated_out : (n : ℕ) (ds : List Float) → AllOut (key_records (replicate n 0) ds)
unfolding key_records is_in note_of
replicated_out zero ds = tt
replicated_out (suc n) [] = tt
replicated_out (suc n) (d ∷ ds) = (refl, replicated_out n ds)

pub no_keys : (rs : List KeyRecord) → AllOut rs → (k : ℕ) → key_in rs k ≡ none
unfolding key_in is_in note_of
no_keys [] h k = refl
no_keys (r ∷ rs) h zero = rw h.0
no_keys (r ∷ rs) h (suc k) = no_keys rs h.1 k

-- what is not in the plan counts for no group
pub out_counts : (by : GroupBy) (c : ℕ) (g : ℤ) (r : KeyRecord) → is_in r ≡ false → counts by c g r ≡ false
unfolding counts
out_counts by c g r e = rw (e, and-false (leb r.channel c))

pub no_detunings : (by : GroupBy) (c : ℕ) (g : ℤ) (rs : List KeyRecord) → AllOut rs → highest by c g rs ≡ none
unfolding highest
no_detunings by c g [] h = refl
no_detunings by c g (r ∷ rs) h = rw (out_counts by c g r h.0, no_detunings by c g rs h.1)

-- ---- planning, by its cases
module _ (m : Model) (lines : List PlanLine) where
  pub planned_untuned : length m.channels < count m.group_by lines
      → planned m (value lines) ≡ (empty m.channels m.group_by, untuned (count m.group_by lines))
  unfolding planned
  planned_untuned h = rw (lt-leb (count m.group_by lines) (length m.channels) h)

  pub planned_tuned : count m.group_by lines ≤ length m.channels → planned m (value lines) ≡ (planned_model m lines, tuned (count m.group_by lines))
  unfolding planned
  planned_tuned h = rw (le-leb (count m.group_by lines) (length m.channels) h)

-- what holds of the model and the answer where there are channels enough, and where there are too few, holds of planning
pub planned_cases : (m : Model) (lines : List PlanLine) (P : Model × PlanAnswer → Type 0)
    → (count m.group_by lines ≤ length m.channels → P (planned_model m lines, tuned (count m.group_by lines)))
    → (length m.channels < count m.group_by lines → P (empty m.channels m.group_by, untuned (count m.group_by lines))) → P (planned m (value lines))
planned_cases m lines P enough few = elim (tested (leb (count m.group_by lines) (length m.channels))) [
  | passed e ↦ let h = leb-true (count m.group_by lines) (length m.channels) e in subst P (sym (planned_tuned m lines h)) (enough h)
  | failed e ↦ let h = leb-false (count m.group_by lines) (length m.channels) e in subst P (sym (planned_untuned m lines h)) (few h)
]
