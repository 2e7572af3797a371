-- The channel for a press of a key that is not held: each way to it is that of the rule.
use Rattle.std.proofs.Common.{◌≡◌, ℕ, length, ℤ, Float, Some, None, sym}
use Rattle.std.proofs.Math.Option.{some, none}
use Rattle.channels.specs.Lists.{first}
use Rattle.channels.specs.declared.channel.Channel.{Channel}
use Rattle.pools.specs.Pool.{State, pool_of, pool, oldest, pressed}
use Rattle.pools.specs.View.{group_by_of, pooling_mode_of, view, state_with}
use Rattle.pools.specs.PoolInternal.{held_by, press_and_state}
use Rattle.pools.specs.declared.jit.allocation.Allocation.TheVariants.{Free, Stopped, Ignored}
use Rattle.pools.specs.declared.jit.allocation.Holder.{Holder}
use Rattle.pools.specs.declared.settings.PoolingMode.TheVariants.{Block, Stop, Ignore}
use Rattle.pools.specs.declared.jit.JitTuningModel.{JitTuningModel}
use Rattle.pools.proofs.Models.Views.{pool_there}
use Rattle.pools.proofs.Pools.PressCases.{pressed_front, pressed_nobody, pressed_blocked, pressed_elsewhere, pressed_stopping, pressed_ignoring}

module _ (m : JitTuningModel) (note : ℤ) (key : ℕ) (d : Float) where
  abbrev s : State
  s = view m

  pub allocates_free : (c : Channel) → some c.number ≡ first (pool s note).free → pressed s key note d ≡ press_and_state s key note d (Some (Free c))
  allocates_free c e = pressed_front s key note d c.number (sym e)

  module _ (full : none ≡ first (pool s note).free) where
    pub rejects_nobody : none ≡ oldest s note → pressed s key note d ≡ press_and_state s key note d None
    rejects_nobody e = pressed_nobody s key note d (sym full) (sym e)

    pub rejects_blocked : pooling_mode_of m.pooling_mode ≡ Block → pressed s key note d ≡ press_and_state s key note d None
    unfolding view state_with
    rejects_blocked e = pressed_blocked s key note d (sym full) e

    module _ (old : Holder) (longest : held_by (Some old) ≡ oldest s note) where
      abbrev pub pool_at : ℤ → ℕ
      pool_at z = pool_of (group_by_of m.group_by) z

      pub rejects_elsewhere : (pool_at old.note.number ≡ pool_at note → ⊥) → pressed s key note d ≡ press_and_state s key note d None
      unfolding view state_with held_by
      rejects_elsewhere other = pressed_elsewhere s key note d (sym full) _ (sym longest) (λ e. other (sym e))

      module _ (same : pool_at old.note.number ≡ pool_at note) (long : length m.pools ≡ 12) where
        pub allocates_stopped : pooling_mode_of m.pooling_mode ≡ Stop → pressed s key note d ≡ press_and_state s key note d (Some (Stopped old))
        unfolding view state_with held_by
        allocates_stopped e = pressed_stopping s key note d (sym full) _ (sym longest) same (pool_there m note long) e

        pub allocates_ignored : pooling_mode_of m.pooling_mode ≡ Ignore → pressed s key note d ≡ press_and_state s key note d (Some (Ignored old))
        unfolding view state_with held_by
        allocates_ignored e = pressed_ignoring s key note d (sym full) _ (sym longest) same (pool_there m note long) e

pub ruleset allocations = (allocates_free, rejects_nobody, rejects_blocked, rejects_elsewhere, allocates_stopped, allocates_ignored)
