-- `aot::send_tunings`: the tunings of the channels before `i` were put together.
use Rattle.std.proofs.Common.{◌≡◌, ◌*◌, ◌≤◌, min, length}
use Rattle.plans.specs.Plan.{view}
use Rattle.plan_tuner.specs.Aot.{tunings}
use Rattle.plan_tuner.proofs.Tunings.{up_to}
use Rattle.plan_tuner.proofs.aot.send_tunings.Given as goal

abbrev pub invariant-loop-i : goal.invariant-loop-i
invariant-loop-i l = record {
  put : l.bytes.items ≡ up_to (tunings l.tuning_kind (view l.model)) l.i;
  size : length l.bytes.items ≤ 12 * min l.i 16;
}
