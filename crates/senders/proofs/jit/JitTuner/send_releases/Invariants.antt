-- `JitTuner::send_releases`: what was put, and the releases of the keys that are left, are all.
use Rattle.std.specs.Prelude.{flat_map}
use Rattle.std.proofs.Common.{◌≡◌, ◌+◌, ◌*◌, ◌≤◌, ◌++◌, length}
use Rattle.std.proofs.Math.Option.{some}
use Rattle.pools.specs.Pool.{Held}
use Rattle.pools.specs.PoolAnswers.{remaining}
use Rattle.pools.specs.View.{view as pool_view}
use Rattle.senders.specs.Jit.{view, release_messages}
use Rattle.senders.specs.Midi.{bytes_of}
use Rattle.senders.specs.Tuner.{key_messages}
use Rattle.senders.specs.declared.tuner.NoteMessage.TheVariants.{Off}
use Rattle.senders.proofs.jit.JitTuner.send_releases.Given as goal

abbrev pub invariant-loop-held : goal.invariant-loop-held
invariant-loop-held l = record {
  put :
      l.bytes.items ++ bytes_of (flat_map (λ (h : Held). key_messages Off (pool_view l.self.model).channels 0 (some h.place)) (remaining l.held-iterator))
      ≡ bytes_of (release_messages (view l.self));
  room : length l.bytes.items + 3 * length (remaining l.held-iterator) ≤ 768;
}
