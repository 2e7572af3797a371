-- After `stop` no key is found, in any model; and where no channel was lost, every channel is free.
use Prim.Native.Nat.{ℕ, zero, suc, ◌+◌, ◌<◌}
use mathlib.Core.Path.{◌≡◌, refl, ap, subst, ◌∙◌}
use mathlib.Core.List.{List, [], ◌∷◌}
use mathlib.Core.Option.{Option, some, none}
use native.Mathlib.Omega.{arith}
use native.Mathlib.Nat.{add-zero, zero-add}
use Rattle.std.proofs.Math.Option.{none-ne-some}
use lib.ListN.{length, get_or}
use Rattle.pools.specs.declared.settings.PoolGroupBy.{PoolGroupBy}
use Rattle.pools.specs.declared.settings.PoolingMode.{PoolingMode}
use Rattle.pools.specs.declared.settings.Retrigger.{Retrigger}
use Rattle.channels.specs.Places.{Place}
use Rattle.pools.specs.Pool.{Pool, State, Held, empty_pool, pool_count, found, released, released_all, held_from, held_keys, stopped}
use Rattle.theorems.specs.PoolCalls.{Call, reached, times, keys_on, occurrences, stop, step}
use Rattle.theorems.proofs.Pools.Occurrences.{times_cons, times_same, times_range, either}
use Rattle.pools.proofs.Pools.Releases.{released_other}
use Rattle.theorems.proofs.Pools.Changes.{released_gone}
use Rattle.theorems.proofs.Pools.Invariant.{step_ok, reached_ok}

-- A key that is not found stays so.
none_stays_none : (s : State) (hs : List Held) (k : ℕ) → found s k ≡ none → found (released_all s hs) k ≡ none
unfolding released_all
none_stays_none s [] k e = e
none_stays_none s (h ∷ hs) k e =
    none_stays_none (released s h.key) hs k
    (either h.key k (λ same. rw same (released_gone s h.key)) (λ ne. released_other s h.key k ne ∙ e))

-- Every key that is in the table from number i on is released.
released_all_none : (l : List (Option Place)) (i j : ℕ) (s : State) (p : Place) → get_or l j none ≡ some p
    → found (released_all s (held_from i l)) (i + j) ≡ none
unfolding held_from released_all
released_all_none [] i j s p e = absurd (none-ne-some p e)
released_all_none (some q ∷ l) i zero s p e = rw add-zero (none_stays_none (released s i) (held_from (suc i) l) i (released_gone s i))
released_all_none (none ∷ l) i zero s p e = absurd (none-ne-some p e)
released_all_none (some q ∷ l) i (suc j) s p e =
    let k : suc i + j ≡ i + suc j = omega arith in
    subst (λ (m : ℕ). found (released_all (released s i) (held_from (suc i) l)) m ≡ none) k (released_all_none l (suc i) j (released s i) p e)
released_all_none (none ∷ l) i (suc j) s p e =
    let k : suc i + j ≡ i + suc j = omega arith in
    subst (λ (m : ℕ). found (released_all s (held_from (suc i) l)) m ≡ none) k (released_all_none l (suc i) j s p e)

-- No key is found after `stop`.
pub stop_empties : (s : State) (k : ℕ) → found (stopped s) k ≡ none
unfolding stopped held_keys found
stop_empties s k = go (get_or s.keys k none) refl
  where
    go : (p : Option Place) → get_or s.keys k none ≡ p → found (released_all s (held_from 0 s.keys)) k ≡ none
    go (some p) e = subst (λ (j : ℕ). found (released_all s (held_from 0 s.keys)) j ≡ none) (zero-add k) (released_all_none s.keys 0 k s p e)
    go none e = none_stays_none s (held_from 0 s.keys) k e

-- Each channel of every pool is free then, exactly once, and no key has one, however the model was opened and played.
pub stop_frees : (channels : List ℕ) (group : PoolGroupBy) (mode : PoolingMode) (retrigger : Retrigger) (calls : List Call)
    → let s = stopped (reached channels group mode retrigger calls) in
    (i : ℕ) → i < pool_count s.group
    → let p = get_or s.pools i empty_pool in
    (p.order ≡ []) × ((c : ℕ) → c < length s.channels → times c p.free ≡ 1) × (length p.free ≡ length s.channels)
unfolding step occurrences keys_on
stop_frees channels group mode retrigger calls i h =
    let m = reached channels group mode retrigger calls in
    let ok = step_ok _ m (reached_ok channels group mode retrigger calls) stop in
    let p = ok.each i h in
    let none_held = no_order (get_or (stopped m).pools i empty_pool).order (λ k in_order.
    let held = p.holds k in_order in
    let f = held.is in
    let g = stop_empties m k in
    let z : ◌≡◌ {A = ℕ} 0 1 = cc in
    omega arith) in (
      none_held,
      λ c low.
          free_once (stopped m) (get_or (stopped m).pools i empty_pool) c none_held
          (p.once c ∙ times_range c 0 _ (omega arith) (omega (arith, ok.channels))),
      omega (arith, p.total, ok.channels, ap length none_held),
    )
  where
    no_order : (l : List ℕ) → ((k : ℕ) → 0 < times k l → ⊥) → l ≡ []
    no_order [] f = refl
    no_order (k ∷ l) f = absurd (f k (omega (arith, times_cons k k l, times_same k)))

    -- A channel that stands once in a pool without held keys is free.
    free_once : (s : State) (p : Pool) (c : ℕ) → p.order ≡ [] → occurrences s p c ≡ 1 → times c p.free ≡ 1
    free_once s p c e once = omega (arith, subst (λ (l : List ℕ). times c p.free + keys_on s c l ≡ 1) e once)
