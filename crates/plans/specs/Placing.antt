-- Placings by hand, SPEC 6.6: no placing does better than a plan. These words know nothing of how a plan is made.
use Rattle.std.specs.Prelude.{◌↔◌, Bool, not, ◌&&◌, List, [], ◌∷◌, map, ◌≡◌, ℕ, ◌≤◌, ℤ, T, eqb, length, filter}
use Rattle.std.proofs.Math.Option.{Option, some}
use Rattle.plans.specs.declared.aot.GroupBy.{GroupBy}
use Rattle.channels.specs.Lists.{Each, once}
use Rattle.plans.specs.PlanLine.{PlanLine, of_group, joins, rising}

-- SPEC 6.6: a placing gives each key of the list one channel number, any whole number from 0.
abbrev pub Placing : Type 0
Placing = ℕ → ℕ

-- SPEC 6.6b: the lines on channel c, within group g, taken by rising detuning, and equal ones as in the list.
unfoldable pub together : GroupBy → List PlanLine → Placing → ℕ → ℤ → List PlanLine
together by lines p c g = rising (filter (λ (l : PlanLine). eqb (p l.key) c && of_group by g l) lines)

-- SPEC 6.6b: every detuning divided by the one before it in f64 is at least 0.999999 and less than 1.000001.
abbrev pub Joined : List PlanLine → Type 0
Joined [] = Unit {0}
Joined (x ∷ []) = Unit {0}
Joined (x ∷ y ∷ l) = T (joins x.detuning y.detuning) × Joined (y ∷ l)

-- SPEC 6.6b: a placing is in order if so it is on each channel, within each group.
abbrev pub InOrder : GroupBy → List PlanLine → Placing → Type 0
InOrder by lines p = (c : ℕ) (g : ℤ) → Joined (together by lines p c g)

-- SPEC 6.6a: how many numbers at least one key has.
unfoldable pub uses : List PlanLine → Placing → ℕ
uses lines p = length (once (map (λ (l : PlanLine). p l.key) lines))

-- SPEC 6.6a: a placing fits if these are no more than the channels present.
abbrev pub Fits : List PlanLine → ℕ → Placing → Type 0
Fits lines present p = uses lines p ≤ present

-- SPEC 6.6c: the placing is in order and uses exactly n channels, and no placing in order uses fewer.
pub record Best (by : GroupBy) (lines : List PlanLine) (n : ℕ) (p : Placing) : Type 0 where
  pub in_order : InOrder by lines p
  pub exact : uses lines p ≡ n
  pub least : (q : Placing) → InOrder by lines q → n ≤ uses lines q

-- SPEC 6.6e: no placing in order fits the channels present.
abbrev pub NoneFits : GroupBy → List PlanLine → ℕ → Type 0
NoneFits by lines present = (p : Placing) → InOrder by lines p → ¬ Fits lines present p

-- SPEC 6.6d: a lookup finds each key of the list on its channel i, with its note, and i is its number.
abbrev pub Found : (ℕ → Option (ℕ × ℤ)) → List PlanLine → Placing → Type 0
Found find lines p = Each (λ (l : PlanLine). find l.key ≡ some (p l.key, l.note)) lines

-- SPEC 6.6c to 6.6e, of a plan that was tuned or untuned with the count n, where `present` channels are present and `find` is the model's own lookup
-- thereafter.
pub record Demand3 (by : GroupBy) (lines : List PlanLine) (present : ℕ) (find : ℕ → Option (ℕ × ℤ)) (tuned : Bool) (n : ℕ) : Type 0 where
  -- Some placing in order uses exactly n channels, with "untuned" too, and none uses fewer.
  pub counted : (q : Placing) × Best by lines n q
  -- A plan that was tuned is such a placing.
  pub planned : T tuned → (p : Placing) × Found find lines p × Best by lines n p
  -- The answer is "untuned" exactly if no placing in order fits the channels present.
  pub untuned : T (not tuned) ↔ NoneFits by lines present
