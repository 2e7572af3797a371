-- What the lines of a plan are once they are in order (PlanLine `rising`). No contract cites it.
use Rattle.std.specs.Prelude.{◌≡◌, false, List, T, eqb}
use Rattle.std.specs.Float.Ieee.{le}
use Rattle.std.specs.Float.Ieee.Positive.{positive}
use Rattle.channels.specs.Lists.{Pairwise}
use Rattle.plans.specs.PlanLine.{PlanLine}

-- The line's detuning is above zero and finite.
abbrev pub Positive : PlanLine → Type 0
Positive l = T (positive l.detuning)

-- Two such lines, and the first one's detuning is no larger.
pub record UpTo (x y : PlanLine) : Type 0 where
  pub first : Positive x
  pub second : Positive y
  pub ordered : T (le x.detuning y.detuning)

-- Each line's detuning is no larger than that of any later one.
abbrev pub Sorted : List PlanLine → Type 0
Sorted l = Pairwise UpTo l

-- Two lines have different keys.
abbrev pub Other : PlanLine → PlanLine → Type 0
Other x y = eqb x.key y.key ≡ false
