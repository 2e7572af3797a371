-- `JitTuningModel::next_key` meets its contract. The loop's invariant: none is found from `from` on and before the key.
use Rattle.std.proofs.Common.{◌≡◌}
use Rattle.pools.specs.Pool.{held_keys}
use Rattle.pools.specs.View.{view}
use Rattle.pools.proofs.jit.JitTuningModel.next_key.Given as goal

abbrev pub invariant-loop-key : goal.invariant-loop-key
invariant-loop-key l = held_keys (view l.self) l.key ≡ held_keys (view l.self) l.from
