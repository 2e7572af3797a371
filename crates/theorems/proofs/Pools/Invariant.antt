-- Pools lose no channel: however a model was opened and whatever calls followed, refused and rejected ones included, each channel of each pool stands
-- exactly once, free or with one key that has not lost it.
use Prim.Native.Nat.{ℕ, ◌<◌, ◌≤◌}
use mathlib.Core.Path.{◌≡◌, refl, sym, subst, ◌∙◌}
use mathlib.Core.List.{List, []}
use mathlib.Core.Option.{Option, some, none}
use native.Mathlib.Omega.{arith}
use lib.ListN.{length, get_or, length-replicate, get_or-replicate}
use Rattle.pools.specs.declared.settings.PoolGroupBy.{PoolGroupBy}
use Rattle.pools.specs.declared.settings.PoolingMode.{PoolingMode}
use Rattle.pools.specs.declared.settings.Retrigger.{Retrigger}
use Rattle.channels.specs.Lists.{upward}
use Rattle.channels.specs.ChannelList.{list_rule, present}
use Rattle.channels.specs.Places.{Place}
use Rattle.pools.specs.Pool.{key_count, Pool, State, empty_pool, pool_count, found, fresh, open_rule}
use Rattle.theorems.specs.PoolCalls.{Call, step, run, reached, occurrences}
use Rattle.theorems.proofs.Pools.Occurrences.{times_none, times_range, times_past, length_range}
use Rattle.theorems.proofs.ChannelLists.{channels_different}
use Rattle.theorems.specs.PoolInvariant.{Ok, PoolOk}
use Rattle.theorems.proofs.Pools.OnePool.{keys_none}
use Rattle.plans.proofs.Lines.SortedKeys.{replicated_at}
use Rattle.theorems.proofs.Pools.Changes.{pressed_ok, released_ok}
use Rattle.theorems.proofs.Pools.Kept.{step_kept, run_kept}

-- ---- every call, and every sequence

pub step_ok : (n : ℕ) (s : State) → Ok n s → (c : Call) → Ok n (step s c)
step_ok n = step_kept (Ok n) (λ t ok key small e note d. pressed_ok n t ok key e small note d) (released_ok n)

run_ok : (n : ℕ) (s : State) → Ok n s → (cs : List Call) → Ok n (run s cs)
run_ok n = run_kept (Ok n) (λ t ok key small e note d. pressed_ok n t ok key e small note d) (released_ok n)

-- ---- a fresh model

fresh_none : (channels : List ℕ) (group : PoolGroupBy) (mode : PoolingMode) (retrigger : Retrigger) (k : ℕ)
    → found (fresh channels group mode retrigger) k ≡ none
unfolding fresh found
fresh_none channels group mode retrigger k = replicated_at none key_count k

pub fresh_ok : (channels : List ℕ) → length channels ≤ 16 → (group : PoolGroupBy) (mode : PoolingMode) (retrigger : Retrigger)
    → Ok (length channels) (fresh channels group mode retrigger)
unfolding fresh occurrences
fresh_ok channels few group mode retrigger =
    record {
      few = few;
      channels = refl;
      pools = length-replicate (pool_count group) unused;
      keys = length-replicate {A = Option Place} key_count none;
      low = λ k p f. absurd (nothing k p f);
      each = λ i h.
          subst (PoolOk (length channels) (fresh channels group mode retrigger) i) (sym (get_or-replicate (pool_count group) i unused empty_pool h)) all_free;
    }
  where
    nothing : (k : ℕ) (p : Place) → found (fresh channels group mode retrigger) k ≡ some p → ⊥
    nothing k p f = let g = fresh_none channels group mode retrigger k in let z : ◌≡◌ {A = ℕ} 0 1 = cc in omega arith

    unused : Pool
    unused = record { free = upward 0 (length channels); order = [] }

    all_free : {i : ℕ} → PoolOk (length channels) (fresh channels group mode retrigger) i (record { free = upward 0 (length channels); order = [] })
    all_free =
        record {
          once = λ c. omega (arith, keys_none (fresh channels group mode retrigger) c);
          total = omega (arith, length_range 0 (length channels));
          holds = λ k m. absurd (omega (arith, times_none k));
          distinct = λ k. omega (arith, times_none k);
        }

pub present_few : (cs : List ℕ) → length (present (list_rule cs)) ≤ 16
present_few cs = (channels_different cs).0

-- ---- the theorem

pub reached_ok : (channels : List ℕ) (group : PoolGroupBy) (mode : PoolingMode) (retrigger : Retrigger) (calls : List Call)
    → Ok (length (present (list_rule channels))) (reached channels group mode retrigger calls)
unfolding open_rule
reached_ok channels group mode retrigger calls =
    let cs = present (list_rule channels) in
    run_ok (length cs) (fresh cs group mode retrigger) (fresh_ok cs (present_few channels) group mode retrigger) calls

-- Each channel of each pool stands exactly once, free or with one key that has not lost it; a number that is no channel stands nowhere.
module _ (channels : List ℕ) (group : PoolGroupBy) (mode : PoolingMode) (retrigger : Retrigger) (calls : List Call) where
  pub channels_once : let s = reached channels group mode retrigger calls in
      (i : ℕ) → i < pool_count s.group → (c : ℕ) → c < length s.channels → occurrences s (get_or s.pools i empty_pool) c ≡ 1
  channels_once i h c k =
      let ok = reached_ok channels group mode retrigger calls in
      (ok.each i h).once c ∙ times_range c 0 (length (present (list_rule channels))) (omega arith) (omega (arith, ok.channels))

  pub no_others : let s = reached channels group mode retrigger calls in
      (i : ℕ) → i < pool_count s.group → (c : ℕ) → length s.channels ≤ c → occurrences s (get_or s.pools i empty_pool) c ≡ 0
  no_others i h c k =
      let ok = reached_ok channels group mode retrigger calls in
      (ok.each i h).once c ∙ times_past c 0 (length (present (list_rule channels))) (omega (arith, ok.channels))

  -- A found key, whether or not it has lost its channel, sounds on one of the model's channels: the channel list has an entry for it.
  pub found_channel : let s = reached channels group mode retrigger calls in
      (key : ℕ) (p : Place) → found s key ≡ some p → p.channel < length s.channels
  found_channel key p e =
      let ok = reached_ok channels group mode retrigger calls in
      let low = ok.low key p e in
      omega (arith, ok.channels)
