-- The next entry: the least group from a number on that has a detuning on a channel is the first that the list of all groups shows.
use mathlib.Core.Path.{◌≡◌, refl, sym, ap, ◌∙◌, subst}
use mathlib.Core.Logic.{inl, inr}
use mathlib.Core.Bool.{Bool, true, false, ◌&&◌, cond}
use mathlib.Core.List.{List, [], ◌∷◌}
use mathlib.Core.Option.{Option, none, some}
use Prim.Native.Nat.{ℕ, zero, suc, ◌≤◌}
use native.Mathlib.Omega.{arith}
use lib.Dec.{leb}
use lib.IntN.{ℤ, pos, ◌+ℤ◌}
use lib.ListN.{length}
use lib.Signed.{le_z, lt_z, ◌≤ℤ◌, ◌<ℤ◌, le_z_yes}
use lib.Ieee.{Float, le}
use lib.Ieee.Fits.{and_l, and_r}
use Rattle.std.specs.Prelude.{Some, None, int_lt, filter, All, Contains}
use Rattle.std.specs.Prelude.{Option as Optional}
use Rattle.std.specs.List.{filter_map, cons_option, reduce, fold}
use Rattle.std.specs.Int.{int_min}
use Rattle.std.specs.Ordering.{int_cmp, min_by_ordering}
use Rattle.std.proofs.Common.{Less, Equal, Greater}
use Rattle.std.proofs.lemmas.Int.{ints, fold-int_min_bounds, fold-int_min_reached}
use Rattle.std.proofs.lemmas.List.Elements.{All-nil, All-cons, All-head, All-tail, All-weaker, All-contains, filter_passes}
use Rattle.arithmetic.specs.Note.{is_note, lowest_note, letter_of}
use Rattle.arithmetic.proofs.Notes.Bounds.{letter_below}
use Rattle.plans.specs.declared.aot.GroupBy.{GroupBy}
use Rattle.plans.specs.declared.aot.GroupBy.TheVariants.{Note, NoteLetter, Channel}
use Rattle.channels.specs.Lists.{Each}
use Rattle.plans.specs.PlanLine.{group, same}
use Rattle.plans.specs.Plan.{KeyRecord, is_in, counts, highest, larger, key_record, key_records, numbers_from, groups, first_entry}
use Rattle.plans.specs.PlanInternal.{IsLeast, group_up_to, groups_from}
use Rattle.channels.proofs.Lists.Laws.{tested, passed, failed, true→T}
use Rattle.plans.proofs.Walk.Sweep.{same_eq}
use Rattle.plans.proofs.Model.Records.{counts_up, counts_up_none, counts_up_other, in_note}
use lib.Ieee.Bits.{is_true}

-- ---- the least of a list
pub least_reduced : (gs : List ℤ) (r : Optional ℤ) → r ≡ reduce (λ x y. min_by_ordering (int_cmp x y) x y) gs
    → IsLeast gs r
least_reduced gs r e = go gs (e ∙ ap (λ f. reduce f gs) (λ i x y. same x y i))
  where
    same : (x y : ℤ) → min_by_ordering (int_cmp x y) x y ≡ int_min x y
    same x y = go (int_lt x y) refl (int_lt y x) refl
      where
        go : (b : Bool) → int_lt x y ≡ b → (d : Bool) → int_lt y x ≡ d → min_by_ordering (cond b Less (cond d Greater Equal)) x y ≡ cond d y x
        go true e true f = absurd (let z : ⊥ = grind (arith, ints) in z)
        go true e false f = refl
        go false e true f = refl
        go false e false f = refl

    go : (gs : List ℤ) {r : Optional ℤ} → r ≡ reduce int_min gs → IsLeast gs r
    go [] e = rw e refl
    go (x ∷ gs) e =
        let g = fold int_min x gs in
        let low = fold-int_min_bounds x gs g refl in
        let one : Contains (x ∷ gs) g = elim (fold-int_min_reached x gs g refl) [
          | inl q ↦ (0, omega arith, sym q)
          | inr m ↦ (suc m.0, omega (arith, m.1), m.2)
        ] in
        rw e (one, All-cons (λ h. g ≤ℤ h) x gs low.0 low.1)

-- ---- the listed groups: each counts, and no other one from `from` on does
module _ (by : GroupBy) (c : ℕ) (from : ℤ) where
  none_counts : (P : ℤ → Type 0) (h : ℤ) → from ≤ℤ h → (P h → ⊥) → (records : List ℕ) (ds : List Float) → All P (groups_from by c from records)
      → Each (λ (r : KeyRecord). counts by c h r ≡ false) (key_records records ds)
  unfolding key_records
  none_counts P h f differs [] ds a = tt
  none_counts P h f differs (raw ∷ records) [] a = tt
  none_counts P h f differs (raw ∷ records) (d ∷ ds) a = go (none_counts P h f differs records ds) (group_up_to by c raw) refl a
    where
      go : (All P (groups_from by c from records) → Each (λ (r : KeyRecord). counts by c h r ≡ false) (key_records records ds))
          → (o : Optional ℤ) → group_up_to by c raw ≡ o → All P (filter (le_z from) (cons_option o (filter_map (group_up_to by c) records)))
          → (counts by c h (key_record raw d) ≡ false) × Each (λ (r : KeyRecord). counts by c h r ≡ false) (key_records records ds)
      go rest None e a = (counts_up_none by c raw d h e, rest a)
      go rest (Some g) e a = elim (tested (le_z from g)) [
        | passed u ↦
            let b = rw u at a in
            (counts_up_other by c raw d h g e (λ q. differs (subst P q (All-head P g _ b))), rest (All-tail P g _ b))
        | failed u ↦ (counts_up_other by c raw d h g e (λ q. grind (arith, ints)), rest (rw u at a))
      ]

  pub none_highest : (g : ℤ) (rs : List KeyRecord) → Each (λ (r : KeyRecord). counts by c g r ≡ false) rs → highest by c g rs ≡ none
  unfolding highest
  none_highest g [] h = refl
  none_highest g (r ∷ rs) h = rw h.0 (none_highest g rs h.1)

  larger_some : (d : Float) (o : Option Float) → larger d o ≡ none → ⊥
  larger_some d none e = let z : ◌≡◌ {A = ℕ} 0 1 = cc in omega arith
  larger_some d (some f) e = elim (tested (le d f)) [
    | passed u ↦ let k : some f ≡ none = rw u at e in let z : ◌≡◌ {A = ℕ} 0 1 = cc in omega arith
    | failed u ↦ let k : some d ≡ none = rw u at e in let z : ◌≡◌ {A = ℕ} 0 1 = cc in omega arith
  ]

  more_some : (g : ℤ) (r : KeyRecord) (rs : List KeyRecord) → (highest by c g rs ≡ none → ⊥) → highest by c g (r ∷ rs) ≡ none → ⊥
  unfolding highest
  more_some g r rs h e = elim (tested (counts by c g r)) [
    | passed u ↦ larger_some r.detuning (highest by c g rs) (rw u at e)
    | failed u ↦ h (rw u at e)
  ]

  own_some : (raw : ℕ) (d : Float) (g : ℤ) (rs : List KeyRecord) → group_up_to by c raw ≡ Some g → highest by c g (key_record raw d ∷ rs) ≡ none → ⊥
  unfolding highest
  own_some raw d g rs u e = larger_some d (highest by c g rs) (rw (counts_up by c raw d g u) at e)

  listed_seen : (records : List ℕ) (ds : List Float) → length records ≤ length ds
      → All (λ g. highest by c g (key_records records ds) ≡ none → ⊥) (groups_from by c from records)
  unfolding key_records
  listed_seen [] ds l = All-nil _
  listed_seen (raw ∷ records) [] l = absurd (let z : ⊥ = omega arith in z)
  listed_seen (raw ∷ records) (d ∷ ds) l =
      go (All-weaker (λ g. highest by c g (key_records records ds) ≡ none → ⊥) Seen (λ g. more_some g (key_record raw d) (key_records records ds))
      (groups_from by c from records) (listed_seen records ds (omega arith))) (group_up_to by c raw) refl
    where
      Seen : ℤ → Type 0
      Seen g = highest by c g (key_record raw d ∷ key_records records ds) ≡ none → ⊥

      go : All Seen (groups_from by c from records) → (o : Optional ℤ) → group_up_to by c raw ≡ o
          → All Seen (filter (le_z from) (cons_option o (filter_map (group_up_to by c) records)))
      go rest None e = rest
      go rest (Some g) e = elim (tested (le_z from g)) [
        | passed u ↦ rw u (All-cons Seen g _ (own_some raw d g (key_records records ds) e) rest)
        | failed u ↦ rw u rest
      ]

-- ---- the list of all groups
module _ (from : ℤ) (f : ℤ → Option Float) where
  first_found : (g : ℤ) (d : Float) → f g ≡ some d → from ≤ℤ g → ((h : ℤ) → from ≤ℤ h → h <ℤ g → f h ≡ none)
      → (n : ℕ) (z : ℤ) → z ≤ℤ g → g <ℤ (z +ℤ pos n) → some (g, d) ≡ first_entry from f (numbers_from n z)
  unfolding first_entry numbers_from
  first_found g d e l none_before zero z a b = absurd (let k : ⊥ = grind (arith, ints) in k)
  first_found g d e l none_before (suc n) z a b = elim (tested (lt_z z g)) [
    | passed u ↦
        let i = first_found g d e l none_before n (z +ℤ pos 1) (grind (arith, ints)) (grind (arith, ints)) in
        elim (tested (le_z from z)) [
          | passed v ↦ rw (v, none_before z (grind (arith, ints)) (grind (arith, ints))) i
          | failed v ↦ rw v i
        ]
    | failed u ↦
        let q : z ≡ g = grind (arith, ints) in
        let k : le_z from g ≡ true = grind (arith, ints) in
        rw (q, k, e)
  ]

  first_none : (n : ℕ) (z : ℤ) → ((h : ℤ) → from ≤ℤ h → f h ≡ none) → none ≡ first_entry from f (numbers_from n z)
  unfolding first_entry numbers_from
  first_none zero z h = refl
  first_none (suc n) z h =
      let i = first_none n (z +ℤ pos 1) h in
      elim (tested (le_z from z)) [
        | passed v ↦ rw (v, h z (grind (arith, ints))) i
        | failed v ↦ rw v i
      ]

-- every group of a note is one of the list
module _ (from : ℤ) (f : ℤ → Option Float) where
  next_found : (by : GroupBy) (n : ℤ) → is_note n ≡ true → (d : Float) → f (group by n) ≡ some d → from ≤ℤ group by n
      → ((h : ℤ) → from ≤ℤ h → h <ℤ group by n → f h ≡ none) → some (group by n, d) ≡ first_entry from f (groups by)
  unfolding groups group
  next_found Note n i d e l k = first_found from f n d e l k 801 lowest_note (grind (arith, ints)) (grind (arith, ints))
  next_found NoteLetter n i d e l k = first_found from f (pos (letter_of n)) d e l k 12 (pos 0) (omega (arith, ints)) (omega (arith, ints, letter_below n))
  next_found Channel n i d e l k = first_found from f (pos 0) d e l k 1 (pos 0) (omega (arith, ints)) (omega (arith, ints))

  next_none : (by : GroupBy) → ((h : ℤ) → from ≤ℤ h → f h ≡ none) → none ≡ first_entry from f (groups by)
  unfolding groups
  next_none Note k = first_none from f 801 lowest_note k
  next_none NoteLetter k = first_none from f 12 (pos 0) k
  next_none Channel k = first_none from f 1 (pos 0) k

-- ---- what the code answers

-- a group that has a detuning is that of a note
noted : (by : GroupBy) (c : ℕ) (g : ℤ) (d : Float) (rs : List KeyRecord) → highest by c g rs ≡ some d → (n : ℤ) × (is_note n ≡ true) × (group by n ≡ g)
unfolding highest
noted by c g d [] e = absurd (let z : ◌≡◌ {A = ℕ} 0 1 = cc in omega arith)
noted by c g d (r ∷ rs) e = elim (tested (counts by c g r)) [
  | passed u ↦ (r.note, (own u).0, (own u).1)
  | failed u ↦ noted by c g d rs (rw u at e)
]
  where
    own : counts by c g r ≡ true → (is_note r.note ≡ true) × (group by r.note ≡ g)
    own u = (unfold counts in (
      in_note (leb r.channel c) r (is_true (leb r.channel c && is_in r) (and_l (leb r.channel c && is_in r) (same (group by r.note) g) (true→T u))),
      same_eq (group by r.note) g (and_r (leb r.channel c && is_in r) (same (group by r.note) g) (true→T u)),
    ))

module _ (by : GroupBy) (c : ℕ) (from : ℤ) (records : List ℕ) (ds : List Float) (long : length records ≡ length ds) (b : Bool) where
  abbrev entries : ℤ → Option Float
  entries h = cond b (highest by c h (key_records records ds)) none

  abbrev listed : List ℤ
  listed = groups_from by c from records

  no_entry : (P : ℤ → Type 0) → All P listed → (h : ℤ) → from ≤ℤ h → (P h → ⊥) → entries h ≡ none
  no_entry P a h f differs = go b (none_highest by c from h (key_records records ds) (none_counts by c from P h f differs records ds a))
    where
      go : (t : Bool) {o : Option Float} → o ≡ none → cond t o none ≡ none
      go true e = e
      go false e = refl

  -- no key has such a group
  pub no_group : listed ≡ [] → none ≡ first_entry from entries (groups by)
  no_group e = next_none from entries by (λ h f. no_entry (λ _. ⊥) (rw e (All-nil _)) h f (λ z. z))

  module _ (g : ℤ) (one : Contains listed g) (least : All (λ h. g ≤ℤ h) listed) where
    above : from ≤ℤ g
    above = le_z_yes (true→T (All-contains (λ x. le_z from x ≡ true) listed g (filter_passes (le_z from) _) one))

    -- the least group has its detuning
    pub entry_found : (d : Float) → entries g ≡ some d → some (g, d) ≡ first_entry from entries (groups by)
    entry_found d u =
        let n = noted by c g d (key_records records ds) (shown b u) in
        subst (λ (z : ℤ). some (z, d) ≡ first_entry from entries (groups by)) n.2
        (next_found from entries by n.0 n.1 d (subst (λ (z : ℤ). entries z ≡ some d) (sym n.2) u) (rw n.2 above)
        (λ h f k. no_entry (λ x. g ≤ℤ x) least h f (λ a. let l = rw n.2 at k in grind (arith, ints))))
      where
        shown : (t : Bool) {o : Option Float} → cond t o none ≡ some d → o ≡ some d
        shown true u = u
        shown false u = absurd (let z : ◌≡◌ {A = ℕ} 0 1 = cc in omega arith)

    -- or the channel has none
    pub entry_lost : entries g ≡ none → none ≡ first_entry from entries (groups by)
    entry_lost u = next_none from entries by (λ h f. lost b u h)
      where
        lost : (t : Bool) → cond t (highest by c g (key_records records ds)) none ≡ none → (h : ℤ)
            → cond t (highest by c h (key_records records ds)) none ≡ none
        lost true u h =
            absurd
            (All-contains (λ x. highest by c x (key_records records ds) ≡ none → ⊥) listed g (listed_seen by c from records ds (omega (arith, long))) one u)
        lost false u h = refl
