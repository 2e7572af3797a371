-- A plan key by key, by the model's own lookup, SPEC 6.5.
use Rattle.std.specs.Prelude.{◌≡◌, Bool, false, ◌&&◌, List, [], ◌∷◌, ◌++◌, ℕ, ◌<◌, eqb, ℤ, Float, filter}
use Rattle.std.proofs.Math.Option.{Option, some, none}
use Rattle.std.specs.Float.Ieee.{le}
use Rattle.plans.specs.declared.aot.GroupBy.{GroupBy}
use Rattle.plans.specs.PlanLine.{PlanLine, group, of_group, rising}
use Rattle.plans.specs.Placing.{Joined}
use Rattle.plans.specs.Plan.{Model}

-- The key is found on channel c.
abbrev pub is_on : ℕ → Option (ℕ × ℤ) → Bool
is_on c (some p) = eqb p.0 c
is_on c none = false

-- SPEC 6.6b: the list's own keys that a lookup finds on channel c, within group g, taken by rising detuning, and equal ones as in the list.
unfoldable pub row : GroupBy → List PlanLine → (ℕ → Option (ℕ × ℤ)) → ℕ → ℤ → List PlanLine
row kind lines find c g = rising (filter (λ (l : PlanLine). is_on c (find l.key) && of_group kind g l) lines)

-- The detuning of the last of x and the lines behind it.
abbrev pub last_detuning : PlanLine → List PlanLine → Float
last_detuning x [] = x.detuning
last_detuning x (y ∷ l) = last_detuning y l

-- SPEC 6.3a: from the key of l up to the detuning d through keys of a row. From this key on they all join, each detuning divided by the one before it giving
-- at least 0.999999 and less than 1.000001, and the last of them has the detuning d.
pub record JoinChain (keys : List PlanLine) (l : PlanLine) (d : Float) : Type 0 where
  pub before : List PlanLine
  pub behind : List PlanLine
  pub row_is : keys ≡ before ++ (l ∷ behind)
  pub joined : Joined (l ∷ behind)
  pub last_is : last_detuning l behind ≡ d

-- SPEC 6.5, 6.5a: a key of the list is found with its note on a channel below n, and a chain of the list's own keys there leads from it up to the detuning that
-- its group has on the channel.
pub record Placed (next : Model) (lines : List PlanLine) (n : ℕ) (l : PlanLine) : Type 0 where
  pub channel : ℕ
  pub below : channel < n
  pub found : next.keys l.key ≡ some (channel, l.note)
  pub detuning : Float
  pub entered : next.detunings channel (group next.group_by l.note) ≡ some detuning
  pub chain : JoinChain (row next.group_by lines next.keys channel (group next.group_by l.note)) l detuning

-- Two lines have one detuning.
abbrev pub same_detuning : PlanLine → PlanLine → Bool
same_detuning l m = le l.detuning m.detuning && le m.detuning l.detuning
