-- The walk's channels by one pass over the lines in rising order, as code can plan: for each group it keeps the last detuning and the channel of the key that
-- had it, and a key joins that channel or takes the next one. No contract cites it.
use Rattle.std.specs.Prelude.{cond, List, [], ◌∷◌, ℕ, suc, max, eqb, ℤ, Float}
use Rattle.std.proofs.Math.Option.{Option, none, some}
use Rattle.plans.specs.declared.aot.GroupBy.{GroupBy}
use Rattle.plans.specs.PlanLine.{PlanLine, group, of_group, joins}

-- The last detuning of a group, and the number of its channel.
pub record Mark : Type 0 where
  pub last : Float
  pub number : ℕ

-- The channel of a detuning that comes next in the group.
abbrev pub number_after : Option Mark → Float → ℕ
number_after none d = 0
number_after (some s) d = cond (joins s.last d) s.number (suc s.number)

-- What the pass keeps for the group g after the lines `before`, the last one first.
abbrev pub mark : GroupBy → ℤ → List PlanLine → Option Mark
mark by g [] = none
mark by g (x ∷ before) =
    let r = mark by g before in
    cond (of_group by g x) (some (record { last = x.detuning; number = number_after r x.detuning })) r

abbrev pub number_of_next : GroupBy → List PlanLine → PlanLine → ℕ
number_of_next by before x = number_after (mark by (group by x.note) before) x.detuning

-- The channels of the lines l, which come after `before`.
abbrev pub numbers : GroupBy → List PlanLine → List PlanLine → List ℕ
numbers by before [] = []
numbers by before (x ∷ l) = number_of_next by before x ∷ numbers by (x ∷ before) l

-- One more than the largest.
abbrev pub top : List ℕ → ℕ
top [] = 0
top (n ∷ l) = max (suc n) (top l)

-- A key's channel in the pass over w, after `before`.
unfoldable pub find : GroupBy → ℕ → List PlanLine → List PlanLine → ℕ
find by k before [] = 0
find by k before (x ∷ w) = let r = find by k (x ∷ before) w in cond (eqb x.key k) (number_of_next by before x) r
