-- What holds of a pool model however it is played, SPEC 7.8: of each pool, and of all of them.
use Rattle.std.specs.Prelude.{ℕ, ◌+◌, ◌<◌, ◌≤◌, ◌≡◌, length, get_or}
use Rattle.std.proofs.Math.Option.{some}
use Rattle.channels.specs.Lists.{upward}
use Rattle.channels.specs.Places.{Place}
use Rattle.pools.specs.Pool.{key_count, Pool, State, empty_pool, pool_count, pool_of, found}
use Rattle.theorems.specs.PoolCalls.{times, occurrences}

-- A key is found on a note of the pool i.
pub record Holds (s : State) (i k : ℕ) : Type 0 where
  pub place : Place
  pub is : found s k ≡ some place
  pub here : pool_of s.group place.note ≡ i

-- SPEC 7.8: in pool i each of n channels stands once, free or with a key of its press order, and each key of that order is found in the pool and stands there
-- once.
pub record PoolOk (n : ℕ) (s : State) (i : ℕ) (p : Pool) : Type 0 where
  pub once : (c : ℕ) → occurrences s p c ≡ times c (upward 0 n)
  pub total : length p.free + length p.order ≡ n
  pub holds : (k : ℕ) → 0 < times k p.order → Holds s i k
  pub distinct : (k : ℕ) → times k p.order ≤ 1

-- So it is in every pool of a model of n channels, and every found key is on one of them.
pub record Ok (n : ℕ) (s : State) : Type 0 where
  pub few : n ≤ 16
  pub channels : length s.channels ≡ n
  pub pools : length s.pools ≡ pool_count s.group
  pub keys : length s.keys ≡ key_count
  pub low : (k : ℕ) (p : Place) → found s k ≡ some p → p.channel < n
  pub each : (i : ℕ) → i < pool_count s.group → PoolOk n s i (get_or s.pools i empty_pool)
