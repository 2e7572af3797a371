-- The found keys by rising key: the next one from a number on, and what is left behind it.
use Prim.Native.Nat.{ℕ, zero, suc, ◌+◌, ◌<◌, ◌≤◌}
use mathlib.Core.Path.{◌≡◌, refl, sym, ap, subst, ◌∙◌}
use mathlib.Core.Bool.{Bool, true, false}
use mathlib.Core.List.{List, [], ◌∷◌}
use mathlib.Core.Option.{Option, some, none}
use native.Mathlib.Numerals.{add-one}
use native.Mathlib.Omega.{arith}
use borrow.Author.Tests.{ltb-true, ltb-false}
use lib.Dec.{ltb}
use lib.ListN.{length, get_or, drop, drop_of_length-le}
use lib.Seq.{drop-cons}
use Rattle.channels.specs.Lists.{first}
use Rattle.channels.specs.Places.{Place}
use Rattle.pools.specs.Pool.{State, Held, found, held_from, held_keys}

held_from_few : (key : ℕ) (l : List (Option Place)) → length (held_from key l) ≤ length l
unfolding held_from
held_from_few key [] = omega arith
held_from_few key (some p ∷ l) = omega (arith, held_from_few (suc key) l)
held_from_few key (none ∷ l) = omega (arith, held_from_few (suc key) l)

-- no more keys are found than there are
pub held_few : (s : State) → length (held_keys s 0) ≤ length s.keys
unfolding held_keys
held_few s = held_from_few 0 s.keys

module _ (l : List (Option Place)) (key : ℕ) where
  pub held_from_found : (p : Place) → key < length l → get_or l key none ≡ some p
      → held_from key (drop key l) ≡ record { key = key; place = p } ∷ held_from (key + 1) (drop (key + 1) l)
  unfolding held_from
  held_from_found p h e = rw (drop-cons l key none h, e, add-one)

  pub held_from_skip : key < length l → get_or l key none ≡ none → held_from key (drop key l) ≡ held_from (key + 1) (drop (key + 1) l)
  unfolding held_from
  held_from_skip h e = rw (drop-cons l key none h, e, add-one)

  pub held_from_end : length l ≤ key → held_from key (drop key l) ≡ []
  unfolding held_from
  held_from_end h = rw (drop_of_length-le l {i = key} h)

-- ---- a walk over the found keys: from 0, and then each time from one above the last

-- A key that the walk meets from a number on: where it is found, and what is left behind it.
pub record Met (s : State) (from : ℕ) (h : Held) : Type 0 where
  pub reached : from ≤ h.key
  pub inside : h.key < length s.keys
  pub is : found s h.key ≡ some h.place
  pub left : held_keys s from ≡ h ∷ held_keys s (h.key + 1)

module _ (s : State) where
  -- the walk ends at the last key
  pub held_keys_end : (from : ℕ) → length s.keys ≤ from → held_keys s from ≡ []
  unfolding held_keys
  held_keys_end from h = held_from_end s.keys from h

  pub found_met : (from : ℕ) (p : Place) → from < length s.keys → found s from ≡ some p → Met s from (record { key = from; place = p })
  unfolding held_keys found
  found_met from p h e = record { reached = omega arith; inside = h; is = e; left = held_from_found s.keys from p h e }

  pub held_keys_found : (from : ℕ) (p : Place) → from < length s.keys → found s from ≡ some p
      → held_keys s from ≡ record { key = from; place = p } ∷ held_keys s (from + 1)
  held_keys_found from p h e = (found_met from p h e).left

  pub held_keys_skip : (from : ℕ) → from < length s.keys → found s from ≡ none → held_keys s from ≡ held_keys s (from + 1)
  unfolding held_keys found
  held_keys_skip from h e = held_from_skip s.keys from h e

  first_met : (n from : ℕ) → length s.keys ≤ from + n → (h : Held) → first (held_keys s from) ≡ some h → Met s from h
  unfolding first
  first_met zero from end h e =
      let none_left = held_keys_end from (omega arith) in
      absurd (let f = sym (ap first none_left) ∙ e in cc)
  first_met (suc n) from end h e = go (ltb from (length s.keys)) refl (first_met n (from + 1) (omega arith) h)
    where
      by_place : from < length s.keys → (p : Option Place) → found s from ≡ p → (first (held_keys s (from + 1)) ≡ some h → Met s (from + 1) h) → Met s from h
      by_place inside (some p) f rec =
          let m = found_met from p inside f in
          let g = sym (ap first m.left) ∙ e in
          let same : ◌≡◌ {A = Held} (record { key = from; place = p }) h = cc in
          subst (Met s from) same m
      by_place inside none f rec =
          let over = held_keys_skip from inside f in
          let m = rec (sym (ap first over) ∙ e) in
          record { reached = omega (arith, m.reached); inside = m.inside; is = m.is; left = over ∙ m.left }

      go : (b : Bool) → ltb from (length s.keys) ≡ b → (first (held_keys s (from + 1)) ≡ some h → Met s (from + 1) h) → Met s from h
      go true q rec = by_place (ltb-true from (length s.keys) q) (found s from) refl rec
      go false q rec =
          let none_left = held_keys_end from (ltb-false from (length s.keys) q) in
          absurd (let f = sym (ap first none_left) ∙ e in cc)

  -- The next key is the first of those left.
  pub next_met : (from : ℕ) (h : Held) → first (held_keys s from) ≡ some h → Met s from h
  next_met from h e = first_met (length s.keys) from (omega arith) h e

  -- No next key: none is left.
  pub next_none : (from : ℕ) → first (held_keys s from) ≡ none → held_keys s from ≡ []
  unfolding first
  next_none from e = go (held_keys s from) e
    where
      go : (l : List Held) → first l ≡ none → l ≡ []
      go [] q = refl
      go (x ∷ l) q = absurd (cc)
