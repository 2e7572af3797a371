-- Releases: what they leave of the found keys, one by one and in a stop.
use Prim.Native.Nat.{ℕ, ◌+◌, ◌<◌}
use mathlib.Core.Path.{◌≡◌, refl, sym, ap, ◌∙◌}
use mathlib.Core.Option.{Option, some, none}
use mathlib.Core.Logic.{◌≢◌}
use native.Mathlib.Omega.{arith}
use lib.ListN.{length, drop, length-set}
use lib.Seq.{get_or-set_other, drop-set-lt}
use Rattle.channels.specs.Places.{Place}
use Rattle.pools.specs.Pool.{State, Held, found, with_pool, with_key, freed, without_key, released, released_from, released_all, held_at, held_from, held_keys}
use Rattle.pools.proofs.Pools.HeldKeys.{found_met, held_keys_skip}

-- a key that is found, with its place
pub held_at_is : (k : ℕ) (p : Option Place) (o : Held) → held_at k p ≡ some o → (o.key ≡ k) × (p ≡ some o.place)
unfolding held_at
held_at_is k (some p) o e =
    let same : ◌≡◌ {A = Held} (record { key = k; place = p }) o = cc in
    (ap (λ (x : Held). x.key) (sym same), ap (λ (x : Held). some x.place) same)
held_at_is k none o e = absurd (cc)

pub held_at_none : (k : ℕ) (p : Option Place) → held_at k p ≡ none → p ≡ none
unfolding held_at
held_at_none k (some p) e = absurd (cc)
held_at_none k none e = refl

-- ---- a release leaves the other keys as they were

released_other_by : (p : Option Place) (s : State) (k key : ℕ) → key ≢ k → found (released_from p s k) key ≡ found s key
unfolding released_from found without_key freed with_key with_pool
released_other_by (some p) s k key h = get_or-set_other s.keys k key none none h
released_other_by none s k key h = refl

pub released_other : (s : State) (k key : ℕ) → key ≢ k → found (released s k) key ≡ found s key
unfolding released
released_other s k key h = released_other_by (found s k) s k key h

pub released_none : (s : State) (key : ℕ) → found s key ≡ none → released s key ≡ s
unfolding released released_from
released_none s key e = rw e

pub released_found : (s : State) (key : ℕ) (p : Place) → found s key ≡ some p → released s key ≡ without_key (freed s key p) key
unfolding released released_from
released_found s key p e = rw e

pub ruleset releases = (held_at_is, held_at_none, released_none, released_found)

-- the found keys behind a released one stay
held_behind : (s : State) (key from : ℕ) → key < from → held_keys (released s key) from ≡ held_keys s from
unfolding held_keys released released_from without_key freed with_key with_pool
held_behind s key from h = go (found s key)
  where
    go : (p : Option Place) → held_from from (drop from (released_from p s key).keys) ≡ held_from from (drop from s.keys)
    go (some p) = ap (held_from from) (drop-set-lt from s.keys key none h)
    go none = refl

pub released_keys : (s : State) (key : ℕ) → length (released s key).keys ≡ length s.keys
unfolding released released_from without_key freed with_key with_pool
released_keys s key = go (found s key)
  where
    go : (p : Option Place) → length (released_from p s key).keys ≡ length s.keys
    go (some p) = length-set s.keys key none
    go none = refl

-- all that are to be released from a key on: this one, and those behind it
pub stop_turn : (s : State) (key : ℕ) → key < length s.keys
    → released_all s (held_keys s key) ≡ released_all (released s key) (held_keys (released s key) (key + 1))
unfolding released_all
stop_turn s key h = go (found s key) refl
  where
    go : (p : Option Place) → found s key ≡ p → released_all s (held_keys s key) ≡ released_all (released s key) (held_keys (released s key) (key + 1))
    go (some p) e =
        ap (released_all s) (found_met s key p h e).left ∙ ap (released_all (released s key)) (sym (held_behind s key (key + 1) (omega arith)))
    go none e = ap (released_all s) (held_keys_skip s key h e) ∙ ap (λ (t : State). released_all t (held_keys t (key + 1))) (sym (released_none s key e))
