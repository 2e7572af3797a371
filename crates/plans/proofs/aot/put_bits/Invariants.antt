-- `put_bits` meets its contract: the bits so far are those of the detunings so far.
use Rattle.std.proofs.Common.{◌≡◌, length, take}
use Rattle.plans.specs.PlanNumbers.{floats}
use Rattle.plans.proofs.aot.put_bits.Given as goal

abbrev pub invariant-loop-i : goal.invariant-loop-i
invariant-loop-i l = record {
  long : length l.bits ≡ 256;
  same : floats (take l.i l.bits) ≡ take l.i l.detunings;
}
