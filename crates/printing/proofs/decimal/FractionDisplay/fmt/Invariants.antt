-- The rest is less than a whole, so that ten times it fits.
use Rattle.std.proofs.Common.{◌<◌, ◌^◌}
use Rattle.printing.proofs.decimal.FractionDisplay.fmt.Given as goal

abbrev pub invariant-loop : goal.invariant-loop
invariant-loop g l = l.rest < 2 ^ 60
