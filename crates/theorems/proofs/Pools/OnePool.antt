-- The invariant of one pool: the keys on a channel, what a change of one pool leaves of the others, and keys that are apart.
use Prim.Native.Nat.{ℕ, zero, suc, ◌+◌, ◌<◌, ◌≤◌}
use mathlib.Core.Path.{◌≡◌, refl, sym, ap, subst, ◌∙◌}
use mathlib.Core.Bool.{Bool, true, false}
use mathlib.Core.List.{List, [], ◌∷◌}
use mathlib.Core.Option.{Option, some, none}
use mathlib.Core.Logic.{◌≢◌}
use native.Mathlib.Omega.{arith}
use lib.IntN.{ℤ}
use lib.ListN.{length, get_or, set, drop, length-set, length-append}
use lib.Seq.{get_or-set_same, get_or-set_other}
use lib.Dec.{leb}
use borrow.Author.Tests.{leb-true, leb-false}
use Rattle.pools.specs.declared.settings.PoolGroupBy.{PoolGroupBy}
use Rattle.channels.specs.Lists.{upward, first}
use Rattle.channels.specs.Places.{Place}
use Rattle.pools.specs.Pool.{key_count, Pool, State, empty_pool, pool_count, pool_of, pool, found, enqueue}
use Rattle.theorems.specs.PoolCalls.{times, channel_at, keys_on, occurrences}
use Rattle.pools.proofs.Queues.{enqueue_room}
use Rattle.pools.proofs.Models.Views.{pool_small}
use Rattle.theorems.proofs.Pools.Occurrences.{times_cons, times_same, times_other, times_one, either, sum_append, times_append, times_past}
use Rattle.channels.proofs.Lists.Laws.{first_rest}
use Rattle.theorems.specs.PoolInvariant.{Holds, Ok, PoolOk}

-- ---- the keys on a channel

module _ (s : State) (c : ℕ) where
  pub keys_none : keys_on s c [] ≡ 0
  unfolding keys_on
  keys_none = refl

  pub keys_cons : (x : ℕ) (l : List ℕ) → keys_on s c (x ∷ l) ≡ keys_on s c (x ∷ []) + keys_on s c l
  unfolding keys_on
  keys_cons x l = omega arith

  pub keys_found : (x : ℕ) (p : Place) → found s x ≡ some p → keys_on s c (x ∷ []) ≡ times c (p.channel ∷ [])
  unfolding keys_on channel_at
  keys_found x p e = rw e (omega arith)

-- Only the places of the keys in the list count.
pub keys_same : (s t : State) (c : ℕ) (l : List ℕ) → ((k : ℕ) → 0 < times k l → found t k ≡ found s k) → keys_on t c l ≡ keys_on s c l
unfolding keys_on
keys_same s t c [] h = refl
keys_same s t c (x ∷ l) h =
    ap (λ (p : Option Place). times c (channel_at p) + keys_on t c l) (h x (omega (arith, times_cons x x l, times_same x)))
    ∙ ap (λ (n : ℕ). times c (channel_at (found s x)) + n) (keys_same s t c l (λ k i. h k (omega (arith, times_cons k x l))))

-- ---- what holds of each pool

-- A key that is found in one state is found in another that has the same place for it.
pub same_place_holds : (s t : State) (i k : ℕ) → t.group ≡ s.group → found t k ≡ found s k → Holds s i k → Holds t i k
same_place_holds s t i k g e h = record { place = h.place; is = e ∙ h.is; here = ap (λ (b : PoolGroupBy). pool_of b h.place.note) g ∙ h.here }

module _ (n : ℕ) (s t : State) (i : ℕ) (g : t.group ≡ s.group) where
  -- A pool stays as it is where the places of its keys do.
  pub same_places_ok : (p : Pool) → ((k : ℕ) → 0 < times k p.order → found t k ≡ found s k) → PoolOk n s i p → PoolOk n t i p
  unfolding occurrences
  same_places_ok p h ok =
      record {
        once = λ c. ap (λ (m : ℕ). times c p.free + m) (keys_same s t c p.order h) ∙ ok.once c;
        total = ok.total;
        holds = λ k m. same_place_holds s t i k g (h k m) (ok.holds k m);
        distinct = ok.distinct;
      }

  -- A key takes a channel that was neither free nor with another key.
  pub enqueued_ok : (free order : List ℕ) (key : ℕ) (q : Place)
      → n ≤ 16
      → ((c : ℕ) → times c free + keys_on s c order + times c (q.channel ∷ []) ≡ times c (upward 0 n))
      → length free + suc (length order) ≡ n
      → ((k : ℕ) → 0 < times k order → Holds s i k)
      → ((k : ℕ) → times k order ≤ 1)
      → times key order ≡ 0
      → ((k : ℕ) → 0 < times k order → found t k ≡ found s k)
      → found t key ≡ some q
      → pool_of t.group q.note ≡ i
      → PoolOk n t i (record { free = free; order = enqueue order key })
  unfolding occurrences
  enqueued_ok free order key q few once total holds distinct absent agree is here =
      rw (enqueue_room order key (omega arith))
      (record {
        once = λ c.
            omega (
              arith,
              once c,
              sum_append (keys_on t c) (keys_none t c) (keys_cons t c) order (key ∷ []),
              keys_same s t c order agree,
              keys_found t c key q is,
            );
        total = omega (arith, length-append order (key ∷ []));
        holds = λ k m.
            either k key
            (λ e. rw (← e) (record { place = q; is = is; here = here }))
            (λ ne.
            let old : 0 < times k order = omega (arith, times_append k order (key ∷ []), times_other k key ne) in
            same_place_holds s t i k g (agree k old) (holds k old));
        distinct = λ k.
            either k key
            (λ e. omega (arith, times_append k order (key ∷ []), times_one k key, ap (λ (x : ℕ). times x order) e, absent))
            (λ ne. omega (arith, times_append k order (key ∷ []), times_other k key ne, distinct k));
      })

-- One pool of a state is set, and the others stay.
pub pool_set_ok : (n : ℕ) (s t : State) (i : ℕ) (p : Pool) → Ok n s → i < pool_count s.group → t.channels ≡ s.channels → t.group ≡ s.group
    → t.pools ≡ set s.pools i p
    → length t.keys ≡ key_count
    → ((k : ℕ) (q : Place) → found t k ≡ some q → q.channel < n)
    → PoolOk n t i p
    → ((j : ℕ) → j < pool_count s.group → j ≢ i → (k : ℕ) → 0 < times k (get_or s.pools j empty_pool).order → found t k ≡ found s k)
    → Ok n t
pool_set_ok n s t i p ok h c g e keys low here others =
    record {
      few = ok.few;
      channels = ap length c ∙ ok.channels;
      pools = ap length e ∙ length-set s.pools i p ∙ ok.pools ∙ ap pool_count (sym g);
      keys = keys;
      low = low;
      each = λ j k.
          let inside : j < pool_count s.group = subst (λ (b : PoolGroupBy). j < pool_count b) g k in
          either i j
          (λ q. subst (λ (m : ℕ). PoolOk n t m (get_or t.pools m empty_pool)) (sym q) (subst (PoolOk n t i) (sym new) here))
          (λ ne. subst (PoolOk n t j) (sym (old j ne)) (same_places_ok n s t j g (get_or s.pools j empty_pool) (others j inside ne) (ok.each j inside)));
    }
  where
    new : get_or t.pools i empty_pool ≡ p
    new = ap (λ (l : List Pool). get_or l i empty_pool) e ∙ get_or-set_same s.pools i p empty_pool (rw ok.pools h)

    old : (j : ℕ) → j ≢ i → get_or t.pools j empty_pool ≡ get_or s.pools j empty_pool
    old j ne = ap (λ (l : List Pool). get_or l j empty_pool) e ∙ get_or-set_other s.pools i j p empty_pool ne

-- ---- keys apart

-- A key that is found is none that is not found.
pub apart : (s : State) (key k : ℕ) (p : Place) → found s key ≡ none → found s k ≡ some p → k ≢ key
apart s key k p e f q = let z : ◌≡◌ {A = ℕ} 0 1 = cc in omega arith

-- A key is in one pool.
pub one_pool : (s : State) (i j k : ℕ) → Holds s i k → Holds s j k → i ≡ j
one_pool s i j k a b =
    let x = a.is in
    let y = b.is in
    let same : a.place ≡ b.place = cc in
    sym a.here ∙ ap (λ (p : Place). pool_of s.group p.note) same ∙ b.here

-- A key that is not held has no channel.
pub absent : (n : ℕ) (s : State) (i : ℕ) (p : Pool) → PoolOk n s i p → (key : ℕ) → found s key ≡ none → times key p.order ≡ 0
absent n s i p ok key e = go (times key p.order) refl
  where
    go : (m : ℕ) → times key p.order ≡ m → times key p.order ≡ 0
    go zero q = q
    go (suc m) q = let h = ok.holds key (omega arith) in absurd (apart s key key h.place e h.is refl)

module _ (n : ℕ) (s : State) (ok : Ok n s) (note : ℤ) where
  pub pool_ok : PoolOk n s (pool_of s.group note) (pool s note)
  unfolding pool
  pool_ok = ok.each (pool_of s.group note) (pool_small s.group note)

-- A number that stands somewhere among the first n is one of them.
below_of_times : (c n : ℕ) → 0 < times c (upward 0 n) → c < n
below_of_times c n h = go (leb n c) refl
  where
    go : (b : Bool) → leb n c ≡ b → c < n
    go true e = absurd (omega (arith, times_past c 0 n (omega (arith, leb-true n c e))))
    go false e = leb-false n c e

-- A free channel is one of the model's.
pub free_low : (n : ℕ) (s : State) → Ok n s → (note : ℤ) (c : ℕ) → first (pool s note).free ≡ some c → c < n
unfolding occurrences
free_low n s ok note c h =
    let free = (pool s note).free in
    below_of_times c n (omega (arith, (pool_ok n s ok note).once c, ap (times c) (first_rest free c h), times_cons c c (drop 1 free), times_same c))
