-- A model as it is opened.
use Rattle.std.proofs.Common.{◌≡◌, ℕ, zero, suc, List, [], ◌∷◌, map, length, take, replicate, refl, ap}
use Rattle.std.proofs.Math.Option.{Option, none}
use Rattle.std.specs.Prelude.{Result, Ok, Err}
use Rattle.std.specs.Result.{result_unwrap_or}
use Rattle.arithmetic.specs.Answers.{outcome_by}
use Rattle.arithmetic.specs.declared.refusal.Refusal.{Refusal}
use Rattle.channels.specs.declared.list.ChannelList.{ChannelList}
use Rattle.channels.specs.ChannelList.{entries, present}
use Rattle.channels.specs.Places.{Place, note_of, place_of}
use Rattle.pools.specs.Pool.{key_count, pool_count, fresh, fresh_pool}
use Rattle.pools.specs.View.{pool_in, group_by_of, pooling_mode_of, retrigger_of, state_with, view}
use Rattle.pools.specs.declared.jit.JitTuningModel.{JitTuningModel}
use Rattle.pools.specs.declared.settings.PoolGroupBy.{PoolGroupBy}
use Rattle.pools.specs.declared.settings.PoolGroupBy.TheVariants.{NoteLetter, Channel}
use Rattle.pools.specs.declared.settings.PoolingMode.{PoolingMode}
use Rattle.pools.specs.declared.settings.Retrigger.{Retrigger}
use Rattle.pools.specs.declared.pool.Pool as C

first_pools : (g : PoolGroupBy) (p : C.Pool) → take (pool_count g) (map pool_in (replicate 12 p)) ≡ replicate (pool_count g) (pool_in p)
unfolding pool_count
first_pools NoteLetter p = refl
first_pools Channel p = refl

none_found : (n : ℕ) → map place_of (replicate n 0) ≡ replicate n none
unfolding place_of note_of
none_found zero = refl
none_found (suc n) = ap (λ (r : List (Option Place)). none ∷ r) (none_found n)

pub state_fresh : (m : JitTuningModel) (group : PoolGroupBy) (mode : PoolingMode) (retrigger : Retrigger) (p : C.Pool)
    → group_by_of m.group_by ≡ group → pooling_mode_of m.pooling_mode ≡ mode → retrigger_of m.retrigger ≡ retrigger
    → m.records ≡ replicate key_count 0 → m.pools ≡ replicate 12 p → pool_in p ≡ fresh_pool (length (entries m.channels))
    → view m ≡ fresh (entries m.channels) group mode retrigger
unfolding view state_with fresh
state_fresh m group mode retrigger p in-group in-mode in-retrigger records pools begun =
    rw (in-group, in-mode, in-retrigger, records, none_found key_count, pools, first_pools group p, begun)

-- a refused list is read as none
pub entries_listed : (r : Result ChannelList Refusal) (d : ChannelList) → entries d ≡ [] → entries (result_unwrap_or r d) ≡ present (outcome_by entries r)
entries_listed (Ok x) d h = refl
entries_listed (Err e) d h = h
