-- Records by key: what the scans over them find.
use mathlib.Core.Path.{◌≡◌, refl, sym, ap, ◌∙◌}
use mathlib.Core.Bool.{Bool, true, false, ◌&&◌, cond}
use Rattle.std.proofs.Math.Bool.{and-false}
use mathlib.Core.List.{List, [], ◌∷◌}
use mathlib.Core.Option.{Option, none, some}
use Prim.Native.Nat.{ℕ, zero, suc, ◌/◌, ◌<◌, ◌≤◌}
use native.Mathlib.Omega.{arith}
use borrow.Author.Tests.{le-leb, lt-leb}
use lib.IntN.{ℤ}
use lib.Dec.{leb}
use lib.Ieee.{Float, nan}
use lib.Ieee.Fits.{and_r}
use Rattle.arithmetic.specs.Note.{is_note}
use lib.ListN.{length, get_or}
use Rattle.plans.specs.declared.aot.GroupBy.{GroupBy}
use Rattle.plans.specs.PlanLine.{group, same}
use Rattle.plans.specs.Plan.{KeyRecord, no_key, is_in, key_record, key_records, key_in, counts, access_answer}
use Rattle.channels.specs.Places.{Place, note_of, channel_of, place_of, place, place_in}
use Rattle.channels.proofs.Records.{place_found, place_parts}
use Rattle.channels.specs.declared.keys.Place as C
use Rattle.std.specs.Prelude.{Some, None, IsSome}
use Rattle.std.specs.Option.{option_eq}
use Rattle.std.specs.Ordering.{int_eq}
use Rattle.std.proofs.lemmas.Bool.Decides.{Decides-int_eq}
use Rattle.std.specs.Prelude.{Option as Optional}
use Rattle.plans.specs.PlanInternal.{group_up_to}
use Rattle.channels.proofs.Lists.Laws.{tested, passed, failed, true→T}
use Rattle.plans.proofs.Walk.Sweep.{same_eq, same_refl}
use lib.Ieee.Bits.{is_true}

-- ---- records of records and detunings

pub key_records_at : (records : List ℕ) (ds : List Float) (k : ℕ) → length records ≡ length ds
    → get_or (key_records records ds) k no_key ≡ key_record (get_or records k 0) (get_or ds k nan)
unfolding key_records
key_records_at [] [] k e = refl
key_records_at [] (d ∷ ds) k e = absurd (let z : ⊥ = omega arith in z)
key_records_at (c ∷ records) [] k e = absurd (let z : ⊥ = omega arith in z)
key_records_at (c ∷ records) (d ∷ ds) zero e = refl
key_records_at (c ∷ records) (d ∷ ds) (suc k) e = key_records_at records ds k (omega arith)

pub length_key_records : (records : List ℕ) (ds : List Float) → length records ≡ length ds → length (key_records records ds) ≡ length records
unfolding key_records
length_key_records [] ds e = refl
length_key_records (c ∷ records) [] e = absurd (let z : ⊥ = omega arith in z)
length_key_records (c ∷ records) (d ∷ ds) e = ap suc (length_key_records records ds (omega arith))

-- ---- a lookup

abbrev pair_of : Option Place → Option (ℕ × ℤ)
pair_of (some p) = some (p.channel, p.note)
pair_of none = none

pair_of_place : (raw : ℕ) (d : Float) → pair_of (place_of raw) ≡ cond (is_in (key_record raw d)) (some (channel_of (raw / 1024), note_of raw)) none
unfolding place_of is_in
pair_of_place raw d = go (is_note (note_of raw))
  where
    go : (b : Bool) → pair_of (cond b (some (record { channel = channel_of (raw / 1024); note = note_of raw })) none) ≡ cond b
        (some (channel_of (raw / 1024), note_of raw)) none
    go true = refl
    go false = refl

pub key_looked_up : (rs : List KeyRecord) (k raw : ℕ) (d : Float) → get_or rs k no_key ≡ key_record raw d → (r : Optional C.Place) → place r ≡ place_of raw
    → access_answer r ≡ key_in rs k
unfolding key_in place
key_looked_up rs k raw d l r e = answer r ∙ ap pair_of e ∙ pair_of_place raw d ∙ rw l
  where
    answer : (r : Optional C.Place) → access_answer r ≡ pair_of (place r)
    answer (Some p) = refl
    answer None = refl

-- a key with a note is found there
module _ (raw : ℕ) (r : Optional C.Place) (e : place r ≡ place_of raw) where
  pub noted_found : is_note (note_of raw) ≡ true → IsSome r
  unfolding place
  noted_found h = go r (e ∙ sym (place_found raw h))
    where
      go : (r : Optional C.Place) {p : Place} → place r ≡ some p → IsSome r
      go (Some q) u = refl
      go None u = absurd (let z : ◌≡◌ {A = ℕ} 0 1 = cc in omega arith)

  pub noted_at : (p : C.Place) → r ≡ Some p → p.note.number ≡ note_of raw
  unfolding place
  noted_at p h = sym (place_parts raw (place_in p) (sym e ∙ ap place h)).1

-- a record that is up to a channel counts for its group, and for no other
module _ (by : GroupBy) (c : ℕ) (g : ℤ) (r : KeyRecord) where
  pub counts_not : (leb r.channel c && is_in r) ≡ false → counts by c g r ≡ false
  unfolding counts
  counts_not e = rw e

  pub counts_own : (leb r.channel c && is_in r) ≡ true → group by r.note ≡ g → counts by c g r ≡ true
  unfolding counts
  counts_own e f = rw (e, f) (is_true (same g g) (same_refl g))

  pub counts_other : (group by r.note ≡ g → ⊥) → counts by c g r ≡ false
  unfolding counts
  counts_other f = elim (tested (same (group by r.note) g)) [
    | passed e ↦ absurd (f (same_eq (group by r.note) g (true→T e)))
    | failed e ↦ rw e (and-false (leb r.channel c && is_in r))
  ]

-- a record in the plan has a note
pub in_note : (t : Bool) (r : KeyRecord) → (t && is_in r) ≡ true → is_note r.note ≡ true
unfolding is_in
in_note t r e = is_true (is_note r.note) (and_r t (is_note r.note) (true→T e))

-- the group of a key up to a channel, by its place
module _ (by : GroupBy) (c raw : ℕ) where
  pub up_to_none : place None ≡ place_of raw → None ≡ group_up_to by c raw
  unfolding place place_of group_up_to
  up_to_none e = go (is_note (note_of raw)) e
    where
      go : (b : Bool) → ◌≡◌ {A = Option Place} none (cond b (some (record { channel = channel_of (raw / 1024); note = note_of raw })) none)
          → None ≡ cond (leb (channel_of (raw / 1024)) c && b) (Some (group by (note_of raw))) None
      go true e = absurd (let z : ◌≡◌ {A = ℕ} 0 1 = cc in omega arith)
      go false e = rw (and-false (leb (channel_of (raw / 1024)) c))

  module _ (p : C.Place) (e : place (Some p) ≡ place_of raw) where
    parts : (channel_of (raw / 1024) ≡ p.channel) × (note_of raw ≡ p.note.number) × (is_note p.note.number ≡ true)
    unfolding place
    parts = place_parts raw (place_in p) (sym e)

    pub up_to_over : c < p.channel → None ≡ group_up_to by c raw
    unfolding group_up_to
    up_to_over h = rw (parts.0, lt-leb p.channel c h)

    pub up_to_own : p.channel ≤ c → Some (group by p.note.number) ≡ group_up_to by c raw
    unfolding group_up_to
    up_to_own h = rw (parts.0, le-leb p.channel c h, parts.1, parts.2)

  -- what it says of the key's record
  module _ (d : Float) where
    abbrev r : KeyRecord
    r = key_record raw d

    up_to : {g : ℤ} → group_up_to by c raw ≡ Some g → ((leb r.channel c && is_in r) ≡ true) × (group by r.note ≡ g)
    unfolding group_up_to is_in
    up_to {g} e = go (leb (channel_of (raw / 1024)) c && is_note (note_of raw)) e
      where
        go : (b : Bool) → cond b (Some (group by (note_of raw))) None ≡ Some g → (b ≡ true) × (group by (note_of raw) ≡ g)
        go true e = (refl, cc)
        go false e = absurd (let z : ◌≡◌ {A = ℕ} 0 1 = cc in omega arith)

    pub counts_up : (g : ℤ) → group_up_to by c raw ≡ Some g → counts by c g r ≡ true
    counts_up g e = let u = up_to e in counts_own by c g r u.0 u.1

    pub counts_up_other : (g h : ℤ) → group_up_to by c raw ≡ Some h → (h ≡ g → ⊥) → counts by c g r ≡ false
    counts_up_other g h e ne = let u = up_to e in counts_other by c g r (λ f. ne (sym u.1 ∙ f))

    pub counts_up_none : (g : ℤ) → group_up_to by c raw ≡ None → counts by c g r ≡ false
    unfolding group_up_to is_in
    counts_up_none g e = counts_not by c g r (go (leb (channel_of (raw / 1024)) c && is_note (note_of raw)) e)
      where
        go : (b : Bool) → cond b (Some (group by (note_of raw))) None ≡ None → b ≡ false
        go true e = absurd (let z : ◌≡◌ {A = ℕ} 0 1 = cc in omega arith)
        go false e = refl

-- ---- what `==` says of two groups
module _ (g : ℤ) where
  pub same_group : (o : Optional ℤ) → true ≡ option_eq int_eq o (Some g) → o ≡ Some g
  same_group None e = absurd (true→T (sym e))
  same_group (Some h) e = ap Some ((Decides-int_eq h g).0 (sym e))

  -- a record of another group, or of none, does not count
  pub other_group : (by : GroupBy) (c raw : ℕ) (d : Float) → false ≡ option_eq int_eq (group_up_to by c raw) (Some g)
      → counts by c g (key_record raw d) ≡ false
  other_group by c raw d e = go (group_up_to by c raw) refl e
    where
      go : (o : Optional ℤ) → group_up_to by c raw ≡ o → false ≡ option_eq int_eq o (Some g) → counts by c g (key_record raw d) ≡ false
      go None u e = counts_up_none by c raw d g u
      go (Some h) u e = counts_up_other by c raw d g h u (λ q. absurd (true→T (e ∙ (Decides-int_eq h g).1 q)))
