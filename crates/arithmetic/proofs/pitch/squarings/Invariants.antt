-- `pitch::squarings`: what is written and the digits still to come make the number of all 24.
use mathlib.Core.Path.{◌≡◌}
use Prim.Native.Nat.{◌+◌, ◌*◌, ◌-◌, ◌^◌, ◌<◌}
use Rattle.arithmetic.specs.Measure.{digits}
use Rattle.arithmetic.proofs.pitch.squarings.Given as goal

abbrev pub invariant-loop : goal.invariant-loop
invariant-loop l = record {
  short : l.rest < 2 ^ 32;
  all : l.written * 2 ^ (24 - l.counter) + digits (24 - l.counter) l.rest ≡ digits 24 l.y;
}
