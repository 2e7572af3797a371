-- `AotTuningModel::detuning` meets its contract. The loop's invariant: what was found is the largest of the records so far.
use Rattle.std.proofs.Common.{◌≡◌, length, take}
use Rattle.arithmetic.specs.Answers.{optional}
use Rattle.plans.specs.PlanNumbers.{floats}
use Rattle.plans.specs.Plan.{highest, records_in}
use Rattle.plans.proofs.aot.AotTuningModel.detuning.Given as goal

abbrev pub invariant-loop-raw : goal.invariant-loop-raw
invariant-loop-raw l = optional l.largest ≡ highest l.by l.channel l.group (take (length l.yielded) (records_in l.self.records (floats l.self.detunings)))
