-- The invariant through each change of a pool: a free channel that is taken, one that is freed, a release, and the room for a press.
use Prim.Native.Nat.{ℕ, zero, suc, ◌<◌, ◌≤◌}
use mathlib.Core.Path.{◌≡◌, refl, sym, ap, subst, ◌∙◌}
use mathlib.Core.Bool.{Bool, true, false, cond}
use mathlib.Core.List.{List, [], ◌∷◌}
use mathlib.Core.Option.{Option, some, none}
use mathlib.Core.Logic.{◌≢◌}
use native.Mathlib.Omega.{arith}
use lib.IntN.{ℤ}
use lib.Ieee.{Float}
use lib.ListN.{length, get_or, set, drop, length-set, length-append}
use lib.Seq.{get_or-set_same, get_or-set_other}
use Rattle.pools.specs.declared.settings.PoolingMode.{PoolingMode}
use Rattle.pools.specs.declared.settings.PoolingMode.TheVariants.{Block, Stop, Ignore}
use Rattle.channels.specs.Lists.{member, without, first}
use Rattle.channels.specs.Places.{Place}
use Rattle.pools.specs.Pool.{key_count, Pool, State, Held, pool_of, pool, found, with_pool, with_key, enqueue, taken_in, taken, freed_in, freed, without_key, released, oldest, reclaim_by_mode, reclaim_unless_free, reclaim, pressed_on, pressed}
use Rattle.theorems.specs.PoolCalls.{times, keys_on, occurrences}
use Rattle.pools.proofs.Queues.{enqueue_room}
use Rattle.pools.proofs.Models.Views.{pool_small}
use Rattle.pools.proofs.Pools.PressCases.{oldest_is}
use Rattle.pools.proofs.Pools.Releases.{released_found, released_none, released_other}
use Rattle.theorems.proofs.Pools.Occurrences.{times_cons, times_same, either, member_times, member_not, sum_without, times_append, times_without, length_without}
use Rattle.channels.proofs.Lists.Laws.{first_rest}
use Rattle.theorems.specs.PoolInvariant.{Holds, Ok, PoolOk}
use Rattle.theorems.proofs.Pools.OnePool.{absent, pool_set_ok, apart, same_places_ok, free_low, keys_cons, keys_found, keys_none, keys_same, same_place_holds, one_pool, pool_ok, enqueued_ok}

-- ---- a press takes a free channel

taken_other : (s : State) (key : ℕ) (note : ℤ) (c k : ℕ) → k ≢ key → found (taken s key note c) k ≡ found s k
unfolding found taken with_key with_pool
taken_other s key note c k ne = get_or-set_other s.keys key k _ none ne

taken_same : (s : State) (key : ℕ) (note : ℤ) (c : ℕ) → key < length s.keys → found (taken s key note c) key ≡ some (record { channel = c; note = note })
unfolding found taken with_key with_pool
taken_same s key note c h = get_or-set_same s.keys key _ none h

module _ (n : ℕ) (s : State) (ok : Ok n s) (key : ℕ) (small : key < key_count) (e : found s key ≡ none) (note : ℤ) where
  pub taken_ok : (c : ℕ) → first (pool s note).free ≡ some c → Ok n (taken s key note c)
  unfolding taken with_key with_pool taken_in occurrences
  taken_ok c h =
      pool_set_ok n s t (pool_of s.group note) (taken_in p key) ok (pool_small s.group note) refl refl refl (length-set s.keys key (some place) ∙ ok.keys)
      low
      (enqueued_ok n s t (pool_of s.group note) refl (drop 1 p.free) p.order key place ok.few
      (λ x. omega (arith, p_ok.once x, ap (times x) parts, times_cons x c (drop 1 p.free)))
      (omega (arith, p_ok.total, ap length parts))
      p_ok.holds
      p_ok.distinct
      (absent n s (pool_of s.group note) p p_ok key e)
      (λ k m. taken_other s key note c k (let r = p_ok.holds k m in apart s key k r.place e r.is))
      (taken_same s key note c (rw ok.keys small))
      refl)
      (λ j i ne k m. taken_other s key note c k (let r = (ok.each j i).holds k m in apart s key k r.place e r.is))
    where
      p : Pool
      p = pool s note

      p_ok : PoolOk n s (pool_of s.group note) (pool s note)
      p_ok = pool_ok n s ok note

      place : Place
      place = record { channel = c; note = note }

      t : State
      t = taken s key note c

      parts : (pool s note).free ≡ c ∷ drop 1 (pool s note).free
      parts = first_rest (pool s note).free c h

      low : (k : ℕ) (r : Place) → found (taken s key note c) k ≡ some r → r.channel < n
      low k r f =
          either key k
          (λ same.
          let g = taken_same s key note c (rw ok.keys small) in
          let f' = subst (λ (x : ℕ). found (taken s key note c) x ≡ some r) same f in
          let is : ◌≡◌ {A = Place} (record { channel = c; note = note }) r = cc in
          subst (λ (x : Place). x.channel < n) is (free_low n s ok note c h))
          (λ ne. ok.low k r (sym (taken_other s key note c k ne) ∙ f))

-- ---- a key loses its channel, which goes to the back of the free ones

pub set_none : (l : List (Option Place)) (i : ℕ) → get_or (set l i none) i none ≡ none
set_none [] i = refl
set_none (p ∷ l) zero = refl
set_none (p ∷ l) (suc i) = set_none l i

pub freed_found : (s : State) (key : ℕ) (q : Place) (k : ℕ) → found (freed s key q) k ≡ found s k
unfolding found freed with_pool
freed_found s key q k = refl

module _ (n : ℕ) (s : State) (ok : Ok n s) (key : ℕ) (q : Place) (e : found s key ≡ some q) where
  held : Holds s (pool_of s.group q.note) key
  held = record { place = q; is = e; here = refl }

  q_ok : PoolOk n s (pool_of s.group q.note) (pool s q.note)
  q_ok = pool_ok n s ok q.note

  module _ (t : State) (g : t.group ≡ s.group) (agree : (k : ℕ) → k ≢ key → found t k ≡ found s k) where
    freed_by : (has : Bool) → member key (pool s q.note).order ≡ has
        → PoolOk n t (pool_of s.group q.note)
        (cond has (record { free = enqueue (pool s q.note).free q.channel; order = without key (pool s q.note).order }) (pool s q.note))
    unfolding occurrences
    freed_by true h =
        let p : Pool = pool s q.note in
        let inside : times key p.order ≡ 1 = omega (arith, member_times p.order key h, q_ok.distinct key) in
        let gone : times key (without key p.order) ≡ 0 = omega (arith, times_without key p.order key inside, times_same key) in
        let other : (k : ℕ) → 0 < times k (without key p.order) → k ≢ key = λ k m same. omega (arith, ap (λ (x : ℕ). times x (without key p.order)) same) in
        let less : (k : ℕ) → times k (without key p.order) ≤ times k p.order = λ k. omega (arith, times_without k p.order key inside) in
        let room : length p.free < 16 = omega (arith, ok.few, q_ok.total, length_without p.order key inside) in
        rw (enqueue_room p.free q.channel room)
        (record {
          once = λ c.
              omega (
                arith,
                q_ok.once c,
                times_append c p.free (q.channel ∷ []),
                sum_without (keys_on s c) (keys_none s c) (keys_cons s c) p.order key inside,
                keys_found s c key q e,
                keys_same s t c (without key p.order) (λ k m. agree k (other k m)),
              );
          total = omega (arith, q_ok.total, length-append p.free (q.channel ∷ []), length_without p.order key inside);
          holds = λ k m. same_place_holds s t (pool_of s.group q.note) k g (agree k (other k m)) (q_ok.holds k (omega (arith, less k)));
          distinct = λ k. omega (arith, less k, q_ok.distinct k);
        })
    freed_by false h =
        same_places_ok n s t (pool_of s.group q.note) g (pool s q.note)
        (λ k m. agree k (λ same. omega (arith, member_not (pool s q.note).order key h, ap (λ (x : ℕ). times x (pool s q.note).order) same)))
        q_ok

    -- This holds whether or not the key is still found afterwards.
    freed_pools_ok : t.channels ≡ s.channels → t.pools ≡ (freed s key q).pools → length t.keys ≡ key_count
        → ((p : Place) → found t key ≡ some p → p.channel < n)
        → Ok n t
    unfolding freed with_pool freed_in
    freed_pools_ok c pools keys low =
        pool_set_ok n s t (pool_of s.group q.note) (freed_in (pool s q.note) key q.channel) ok (pool_small s.group q.note) c g pools keys
        (λ k p f.
        either key k (λ same. low p (subst (λ (x : ℕ). found t x ≡ some p) same f)) (λ ne. ok.low k p (sym (agree k ne) ∙ f)))
        (freed_by (member key (pool s q.note).order) refl)
        (λ j a ne k m. agree k (λ same. ne (one_pool s j (pool_of s.group q.note) key (subst (Holds s j) same ((ok.each j a).holds k m)) held)))

  -- Ignore: the key stays found
  pub freed_ok : Ok n (freed s key q)
  unfolding freed with_pool
  freed_ok =
      freed_pools_ok (freed s key q) refl (λ k ne. freed_found s key q k) refl refl ok.keys (λ p f. ok.low key p (sym (freed_found s key q key) ∙ f))

  -- A release makes the key unknown.
  pub without_key_ok : Ok n (without_key (freed s key q) key)
  unfolding freed without_key with_pool with_key found
  without_key_ok =
      freed_pools_ok (without_key (freed s key q) key) refl (λ k ne. get_or-set_other s.keys key k none none ne) refl refl
      (length-set s.keys key none ∙ ok.keys)
      (λ p f. let gone = set_none s.keys key in let z : ◌≡◌ {A = ℕ} 0 1 = cc in absurd (omega arith))

pub released_ok : (n : ℕ) (s : State) → Ok n s → (key : ℕ) → Ok n (released s key)
released_ok n s ok key = go (found s key) refl
  where
    go : (p : Option Place) → found s key ≡ p → Ok n (released s key)
    go (some q) e = rw (released_found s key q e) (without_key_ok n s ok key q e)
    go none e = rw (released_none s key e) ok

without_key_gone : (s : State) (key : ℕ) (p : Place) → found (without_key (freed s key p) key) key ≡ none
unfolding found without_key freed with_key with_pool
without_key_gone s key p = set_none s.keys key

-- A released key is not found.
pub released_gone : (s : State) (key : ℕ) → found (released s key) key ≡ none
released_gone s key = go (found s key) refl
  where
    go : (p : Option Place) → found s key ≡ p → found (released s key) key ≡ none
    go (some p) e = rw (released_found s key p e) (without_key_gone s key p)
    go none e = rw (released_none s key e) e

-- ---- room for a press

-- What a press of a key that is not held finds: a state with nothing lost, in which the key is still not held.
pub record ReclaimOk (n : ℕ) (s : State) (key : ℕ) : Type 0 where
  pub sound : Ok n s
  pub new : found s key ≡ none

module _ (n : ℕ) (s : State) (ok : Ok n s) (key : ℕ) (e : found s key ≡ none) where
  reclaimed_ok : (mode : PoolingMode) (note : ℤ) (old : Option Held) → oldest s note ≡ old → ReclaimOk n (reclaim_by_mode mode s old).state key
  unfolding reclaim_by_mode
  reclaimed_ok Block note old h = record { sound = ok; new = e }
  reclaimed_ok Stop note none h = record { sound = ok; new = e }
  reclaimed_ok Stop note (some o) h =
      record {
        sound = released_ok n s ok o.key;
        new = released_other s o.key key (λ same. apart s key o.key o.place e (oldest_is s note o h).1 (sym same)) ∙ e;
      }
  reclaimed_ok Ignore note none h = record { sound = ok; new = e }
  reclaimed_ok Ignore note (some o) h = record { sound = freed_ok n s ok o.key o.place (oldest_is s note o h).1; new = freed_found s o.key o.place key ∙ e }

  pub reclaim_ok : (note : ℤ) → ReclaimOk n (reclaim s note).state key
  unfolding reclaim reclaim_unless_free
  reclaim_ok note = go (first (pool s note).free)
    where
      go : (c : Option ℕ) → ReclaimOk n (reclaim_unless_free c s note).state key
      go (some c) = record { sound = ok; new = e }
      go none = reclaimed_ok s.mode note (oldest s note) refl

  pub pressed_ok : key < key_count → (note : ℤ) (d : Float) → Ok n (pressed s key note d).1
  unfolding pressed pressed_on
  pressed_ok small note d = go (first (pool (reclaim s note).state note).free) refl
    where
      go : (c : Option ℕ) → first (pool (reclaim s note).state note).free ≡ c → Ok n (pressed_on c (reclaim s note) s key note d).1
      go (some c) h = let r = reclaim_ok note in taken_ok n (reclaim s note).state r.sound key small r.new note c h
      go none h = ok
