-- `PitchLists::line` meets its contract: a list without an entry is refused, then a number that is no pitch.
use Rattle.std.proofs.Common.{◌≡◌, ℤ, ap, ◌∙◌, arith}
use lib.Ieee.{Float}
use Rattle.arithmetic.specs.Outcome.{Outcome, value}
use Rattle.arithmetic.specs.Nearest.{nearest_rule}
use Rattle.plans.proofs.Lines.Check.{nearest_sound}
use Rattle.plans.proofs.lists.PitchListsTuningLists.line.Goals as goal
use Rattle.plans.proofs.lists.PitchListsTuningLists.line.Goals.{In_ok-hz, In_ok-nearest}

nearest_is : (c : In_ok-nearest)
    → ◌≡◌ {A = Outcome (ℤ × Float)} (value (c.in_ok-nearest.nearest.note.number, c.in_ok-nearest.nearest.detuning)) (nearest_rule c.in_ok-hz.hz)
nearest_is c = c.in_ok-nearest.ensures ∙ ap nearest_rule c.from_hz.ensures

pub invariant_of-result : goal.invariant_of-result
invariant_of-result c =
    let t = (goal.at.invariant_of-result c).In_ok-nearest in
    record { above_zero = (nearest_sound 0 c.in_ok-hz.hz _ c.in_ok-nearest.nearest.detuning (omega arith) (nearest_is t)).above }
