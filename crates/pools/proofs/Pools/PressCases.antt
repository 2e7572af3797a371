-- A press of a key that is not held, by whether a channel is free and, where none is, by the longest-held key and the pooling mode.
use Prim.Native.Nat.{ℕ, ◌<◌}
use mathlib.Core.Path.{◌≡◌, refl, sym, ap, ◌∙◌}
use mathlib.Core.Option.{Option, some, none}
use mathlib.Core.Logic.{◌≢◌}
use lib.IntN.{ℤ}
use lib.Ieee.{Float}
use lib.Dec.{eqb, eqb_refl}
use lib.ListN.{length, get_or}
use lib.Seq.{get_or-set_same, get_or-set_other}
use Rattle.channels.specs.Lists.{first}
use Rattle.pools.specs.Pool.{Pool, State, Held, pool_of, empty_pool, pool, found, with_pool, freed, freed_in, without_key, with_key, enqueue, released, oldest, oldest_of, Reclaimed, reclaimed, reclaim_by_mode, reclaim, reclaim_unless_free, accepted, rejected, taken, pressed, pressed_on}
use Rattle.pools.specs.declared.settings.PoolingMode.{PoolingMode}
use Rattle.pools.specs.declared.settings.PoolingMode.TheVariants.{Block, Stop, Ignore}
use Rattle.channels.proofs.Lists.Laws.{first_rest, first_none}
use lib.Ieee.Bits.{is_true}
use Rattle.pools.proofs.Pools.Releases.{held_at_is, released_found}

-- the longest-held key is the first of the press order, and is found
pub oldest_is : (s : State) (note : ℤ) (o : Held) → oldest s note ≡ some o → (first (pool s note).order ≡ some o.key) × (found s o.key ≡ some o.place)
unfolding oldest oldest_of
oldest_is s note o = go (first (pool s note).order)
  where
    go : (k : Option ℕ) → oldest_of s k ≡ some o → (k ≡ some o.key) × (found s o.key ≡ some o.place)
    go (some k) e = let h = held_at_is k (found s k) o e in (ap some (sym h.0), ap (found s) h.0 ∙ h.1)
    go none e = absurd (cc)

-- without a held key there is no room to make
pub reclaim_by_mode_none : (m : PoolingMode) (s : State) → reclaim_by_mode m s none ≡ reclaimed s none
unfolding reclaim_by_mode
reclaim_by_mode_none Block s = refl
reclaim_by_mode_none Stop s = refl
reclaim_by_mode_none Ignore s = refl

-- ---- a press, by whether a channel is free once room is made

module _ (s : State) (key : ℕ) (note : ℤ) (d : Float) (r : Reclaimed) (made : reclaim s note ≡ r) where
  pub pressed_free : (c : ℕ) → first (pool r.state note).free ≡ some c → pressed s key note d ≡ (accepted c r.stopped note d, taken r.state key note c)
  unfolding pressed pressed_on
  pressed_free c e = rw (made, e)

  pub pressed_none : first (pool r.state note).free ≡ none → pressed s key note d ≡ (rejected, s)
  unfolding pressed pressed_on
  pressed_none e = rw (made, e)

-- ---- a press, by whether a channel is free before that

pub pressed_front : (s : State) (key : ℕ) (note : ℤ) (d : Float) (c : ℕ) → first (pool s note).free ≡ some c
    → pressed s key note d ≡ (accepted c none note d, taken s key note c)
unfolding reclaim reclaim_unless_free
pressed_front s key note d c e = pressed_free s key note d (reclaimed s none) (rw e) c e

-- a pool whose longest-held key gives its channel up has that one free
freed_front : (p : Pool) (key channel : ℕ) → first p.free ≡ none → first p.order ≡ some key → first (freed_in p key channel).free ≡ some channel
unfolding freed_in enqueue first
freed_front p key channel free order = rw (first_none p.free free, first_rest p.order key order, is_true (eqb key key) (eqb_refl key))

module _ (s : State) (key : ℕ) (note : ℤ) (d : Float) (full : first (pool s note).free ≡ none) where
  reclaim_full : reclaim s note ≡ reclaim_by_mode s.mode s (oldest s note)
  unfolding reclaim reclaim_unless_free
  reclaim_full = rw full

  pub pressed_nobody : oldest s note ≡ none → pressed s key note d ≡ (rejected, s)
  pressed_nobody e = pressed_none s key note d (reclaimed s none) (reclaim_full ∙ ap (reclaim_by_mode s.mode s) e ∙ reclaim_by_mode_none s.mode s) full

  pub pressed_blocked : s.mode ≡ Block → pressed s key note d ≡ (rejected, s)
  unfolding reclaim_by_mode
  pressed_blocked e = pressed_none s key note d (reclaimed s none) (reclaim_full ∙ ap (λ (m : PoolingMode). reclaim_by_mode m s (oldest s note)) e) full

  module _ (o : Held) (was : oldest s note ≡ some o) where
    reclaim_is : (m : PoolingMode) → s.mode ≡ m → reclaim s note ≡ reclaim_by_mode m s (some o)
    reclaim_is m e = reclaim_full ∙ ap (λ (m : PoolingMode). reclaim_by_mode m s (oldest s note)) e ∙ ap (reclaim_by_mode m s) was

    -- the state in which the key is released, and so its channel free
    abbrev gone : State
    gone = without_key (freed s o.key o.place) o.key

    released_gone : released s o.key ≡ gone
    released_gone = released_found s o.key o.place (oldest_is s note o was).1

    stop_is : s.mode ≡ Stop → reclaim s note ≡ reclaimed gone (some o.place.note)
    unfolding reclaim_by_mode
    stop_is e = reclaim_is Stop e ∙ ap (λ (t : State). reclaimed t (some o.place.note)) released_gone

    -- the key is another pool's
    module _ (other : pool_of s.group note ≢ pool_of s.group o.place.note) where
      freed_elsewhere : first (pool (freed s o.key o.place) note).free ≡ none
      unfolding pool freed with_pool
      freed_elsewhere =
          ap (λ (p : Pool). first p.free) (get_or-set_other s.pools (pool_of s.group o.place.note) (pool_of s.group note) _ empty_pool other)
          ∙ full

      pub pressed_elsewhere : pressed s key note d ≡ (rejected, s)
      unfolding reclaim_by_mode without_key with_key pool
      pressed_elsewhere = go s.mode refl
        where
          go : (m : PoolingMode) → s.mode ≡ m → pressed s key note d ≡ (rejected, s)
          go Block e = pressed_blocked e
          go Stop e = pressed_none s key note d (reclaimed gone (some o.place.note)) (stop_is e) freed_elsewhere
          go Ignore e = pressed_none s key note d (reclaimed (freed s o.key o.place) none) (reclaim_is Ignore e) freed_elsewhere

    -- the key is of this pool, and gives its channel up
    module _ (same : pool_of s.group o.place.note ≡ pool_of s.group note) (small : pool_of s.group note < length s.pools) where
      freed_here : first (pool (freed s o.key o.place) note).free ≡ some o.place.channel
      unfolding pool freed with_pool
      freed_here =
          let i = pool_of s.group note in
          rw (same, get_or-set_same s.pools i (freed_in (get_or s.pools i empty_pool) o.key o.place.channel) empty_pool small)
          (freed_front (pool s note) o.key o.place.channel full (oldest_is s note o was).0)

      pub pressed_stopping : s.mode ≡ Stop
          → pressed s key note d ≡ (accepted o.place.channel (some o.place.note) note d, taken gone key note o.place.channel)
      unfolding without_key with_key pool
      pressed_stopping e = pressed_free s key note d (reclaimed gone (some o.place.note)) (stop_is e) o.place.channel freed_here

      pub pressed_ignoring : s.mode ≡ Ignore
          → pressed s key note d ≡ (accepted o.place.channel none note d, taken (freed s o.key o.place) key note o.place.channel)
      unfolding reclaim_by_mode
      pressed_ignoring e = pressed_free s key note d (reclaimed (freed s o.key o.place) none) (reclaim_is Ignore e) o.place.channel freed_here
