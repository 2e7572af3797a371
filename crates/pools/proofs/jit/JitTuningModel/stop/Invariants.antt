-- `JitTuningModel::stop` meets its contract. The loop's invariant: what is left to release are the found keys from this one on.
use Rattle.std.proofs.Common.{◌≡◌, length}
use Rattle.pools.specs.Pool.{key_count, held_keys, released_all, stopped}
use Rattle.pools.specs.View.{view}
use Rattle.pools.proofs.jit.JitTuningModel.stop.Given as goal

abbrev pub invariant-loop-key : goal.invariant-loop-key
invariant-loop-key l = record {
  many : length (view l.self).keys ≡ key_count;
  left : stopped (view l.initial.self) ≡ released_all (view l.self) (held_keys (view l.self) l.key);
}
