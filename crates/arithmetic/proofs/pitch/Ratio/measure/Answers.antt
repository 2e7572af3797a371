-- `pitch::Ratio::measure` meets its contract: the digits that the squarings write, behind those of the octave, and nothing leaves its type.
use mathlib.Core.Path.{ap}
use Prim.Native.Nat.{◌+◌, ◌*◌, ◌^◌, ◌<◌}
use native.Mathlib.Omega.{arith}
use Rattle.std.proofs.lemmas.Int.{ints}
use Rattle.arithmetic.specs.Outcome.{value}
use Rattle.arithmetic.proofs.Measure.Law.{digits_lt}
use Rattle.arithmetic.proofs.pitch.Ratio.measure.Goals as goal
use Rattle.arithmetic.proofs.pitch.Ratio.measure.Goals.{After-squarings}

-- the sum before the last subtraction
level-small : (c : After-squarings) → c.before.in-Some.binary.octave * 2 ^ 24 + c.squarings.result < 2 ^ 37
level-small c = omega (arith, c.squarings.ensures, digits_lt 24 c.before.in-Some.binary.first, c.before.in-Some.ensures)

pub overflow_add-level : goal.overflow_add-level
overflow_add-level c = omega (arith, level-small (goal.at.overflow_add-level c).After-squarings)

pub overflow_cast-result : goal.overflow_cast-result
overflow_cast-result c = omega (arith, level-small (goal.at.overflow_cast-result c).After-squarings)

pub overflow_sub-result : goal.overflow_sub-result
overflow_sub-result c = let l = level-small (goal.at.overflow_sub-result c).After-squarings in omega (arith, ints)

pub returns : goal.returns
returns c =
    let b = c.in-Some.binary in
    let l = level-small (goal.at.returns c).After-squarings in
    rw c.in-Some.ensures.2
    (ap value (rw (c.squarings.ensures) (omega (arith, ints))))
