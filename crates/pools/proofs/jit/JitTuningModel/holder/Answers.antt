-- `JitTuningModel::holder` meets its contract.
use Rattle.std.proofs.Common.{sym}
use Rattle.channels.specs.Places.{place}
use Rattle.pools.specs.Pool.{held_at}
use Rattle.pools.specs.PoolInternal.{held_by}
use Rattle.pools.proofs.Models.Views.{key_channel}
use Rattle.pools.proofs.jit.JitTuningModel.holder.Goals as goal

pub returns : goal.returns
unfolding place held_by held_at
returns c = rw (sym c.in_ok-place.ensures, c.by_remainder.ensures, key_channel c.args.self.now c.args.key _ (sym c.in_ok-place.ensures))
