-- Demand 3: nobody who places the keys by hand does better than the walk. One statement, with the kind of group as a parameter.
use Rattle.std.specs.Prelude.{filter}
use mathlib.Core.Path.{◌≡◌, refl, sym, ◌∙◌, subst}
use mathlib.Core.Logic.{◌↔◌}
use mathlib.Core.Bool.{Bool, false, ◌&&◌}
use mathlib.Core.List.{List, [], ◌∷◌, map, nil≢cons}
use mathlib.Core.Option.{none}
use Prim.Native.Nat.{ℕ, zero, suc, ◌≤◌, ◌<◌, zero-le, suc-le-suc}
use native.Mathlib.Nat.{le_refl, le_trans, lt_of_not-le, not-le_of_lt}
use native.Mathlib.Omega.{arith}
use lib.IntN.{ℤ}
use lib.Dec.{T, eqb, eqb_refl}
use lib.ListN.{length, get_or}
use Rattle.channels.specs.Lists.{Each, member, once, Pairwise}
use Rattle.plans.specs.declared.aot.GroupBy.{GroupBy}
use Rattle.plans.specs.PlanLine.{PlanLine, of_group, joins, rising}
use Rattle.plans.specs.Walk.{walk, count, channels, channel}
use Rattle.plans.specs.PlanInternal.{Accepted}
use Rattle.plans.specs.Placing.{Placing, together, Joined, InOrder, uses, Best, NoneFits}
use Rattle.channels.proofs.Lists.Laws.{tested, passed, failed, true→T, not_false, Each-map, Each-filter, Each-image, own_image, Within_from_Each, once_within, once_new, once_cons, once_exact, Pairwise-filter, filter_yes, filter_no, filter_filter, filter_swap}
use Rattle.plans.proofs.Walk.Joins.{joins_mono}
use Rattle.plans.proofs.Lines.Rising.{Each-rising, rising_Each, length_rising, rising_keep, rising_sorted, rising_apart, distinct_apart}
use Rattle.plans.specs.PlanOrder.{UpTo, Sorted, Other}
use Rattle.plans.proofs.Walk.Sweep.{runs, channels_least, channels_steps, channels_full, channels_are, channels_below}
use lib.Ieee.Bits.{is_true}

-- ---- A placing in order needs a channel for each run of a group.
module _ (p : Placing) where
  abbrev pub number : PlanLine → ℕ
  number l = p l.key

  abbrev on : ℕ → PlanLine → Bool
  on c l = eqb (p l.key) c

  steps_tail : (x : PlanLine) (l : List PlanLine) → Joined (x ∷ l) → Joined l
  steps_tail x [] h = tt
  steps_tail x (y ∷ l) h = h.1

  -- a channel that a key of the list is on has a first one
  first_on : (P : PlanLine → Type 0) (c : ℕ) (l : List PlanLine) → Each P l → T (member c (map number l))
      → (y : PlanLine) × P y × (k : List PlanLine) × (filter (on c) l ≡ y ∷ k)
  first_on P c [] h t = absurd t
  first_on P c (x ∷ l) h t = elim (tested (on c x)) [
    | passed e ↦ (x, h.0, filter (on c) l, rw e)
    | failed e ↦ let r = first_on P c l h.1 (rw e at t) in (r.0, r.1, r.2, rw e r.3)
  ]

  -- where x and y are on either side of a gap, no key from y on is on x's channel
  apart : (x y : PlanLine) (l : List PlanLine) → UpTo x y → Each (UpTo y) l → joins x.detuning y.detuning ≡ false
      → Joined (filter (on (number x)) (x ∷ y ∷ l)) → member (number x) (map number (y ∷ l)) ≡ false
  apart x y l h s j k = elim (tested (member (number x) (map number (y ∷ l)))) [
    | passed e ↦
        let r = first_on (λ (z : PlanLine). T (joins x.detuning z.detuning) → T (joins x.detuning y.detuning)) (number x) (y ∷ l)
        (λ t. t, Each-map (λ z u t. joins_mono x.detuning y.detuning z.detuning h.first h.second u.second h.ordered u.ordered t) l s)
        (true→T e) in
        let q : Joined (x ∷ r.0 ∷ r.2) = rw (filter_yes (on (number x)) x (y ∷ l) (is_true (on (number x) x) (eqb_refl (number x))), r.3) at k in
        absurd (not_false j (r.1 q.0))
    | failed e ↦ e
  ]

  -- the list's keys of one group, in rising order
  pub runs_least : (l : List PlanLine) → Sorted l → ((c : ℕ) → Joined (filter (on c) l)) → runs none l ≤ length (once (map number l))
  runs_least [] s h = zero-le
  runs_least (x ∷ []) s h = le_refl 1
  runs_least (x ∷ y ∷ l) s h =
      let r = runs_least (y ∷ l) s.1 (λ c. tail c) in
      elim (tested (joins x.detuning y.detuning)) [
        | passed j ↦ rw j (le_trans r (once_cons (number x) (map number (y ∷ l))))
        | failed j ↦ rw (j, once_new (number x) (map number (y ∷ l)) (apart x y l s.0.0 s.1.0 j (h (number x)))) (suc-le-suc r)
      ]
    where
      tail : (c : ℕ) → Joined (filter (on c) (y ∷ l))
      tail c = elim (tested (on c x)) [
        | passed e ↦ steps_tail x (filter (on c) (y ∷ l)) (rw (filter_yes (on c) x (y ∷ l) e) at (h c))
        | failed e ↦ rw (filter_no (on c) x (y ∷ l) e) at (h c)
      ]

-- a channel with a key is one of the used numbers
filter_member : (p : Placing) (c : ℕ) (l : List PlanLine) (x : PlanLine) (k : List PlanLine) → filter (on p c) l ≡ x ∷ k → T (member c (map (number p) l))
filter_member p c [] x k e = absurd (nil≢cons e)
filter_member p c (y ∷ l) x k e = elim (tested (on p c y)) [
  | passed u ↦ rw u tt
  | failed u ↦ rw u (filter_member p c l x k (rw u at e))
]

-- the used numbers, over the lines in any order
used_rising : (p : Placing) (lines : List PlanLine) → Each (λ (l : PlanLine). T (member (p l.key) (map (λ (k : PlanLine). p k.key) lines))) (rising lines)
used_rising p lines = Each-rising (λ (l : PlanLine). T (member (p l.key) (map (λ (k : PlanLine). p k.key) lines))) lines
    (own_image (λ (l : PlanLine). p l.key) lines)

member_rising : (p : Placing) (lines : List PlanLine) (c : ℕ) → T (member c (map (number p) (rising lines))) → T (member c (map (number p) lines))
member_rising p lines c t = Within_from_Each (map (number p) lines) (map (number p) (rising lines))
    (Each-image (λ (n : ℕ). T (member n (map (number p) lines))) (number p) (rising lines) (used_rising p lines)) c t

module _ (by : GroupBy) (lines : List PlanLine) (ok : Accepted lines) where
  pub lines_sorted : Sorted (rising lines)
  lines_sorted = rising_sorted lines ok.detunings

  pub lines_different : Pairwise Other (rising lines)
  lines_different = rising_apart lines (distinct_apart lines ok.distinct)

  pub rising_enough : length (rising lines) ≤ length lines
  rising_enough = omega (arith, length_rising lines)

  -- to order the lines first and take those of a channel and a group then comes to the same
  pub together_is : (p : Placing) (c : ℕ) (g : ℤ) → together by lines p c g ≡ filter (of_group by g) (filter (on p c) (rising lines))
  unfolding together
  together_is p c g =
      sym (rising_keep (λ (l : PlanLine). on p c l && of_group by g l) lines ok.detunings)
      ∙ sym (filter_filter (on p c) (of_group by g) (rising lines))

  -- ---- no placing in order uses fewer channels than the walk
  group_steps : (p : Placing) → InOrder by lines p → (g : ℤ) (c : ℕ) → Joined (filter (on p c) (filter (of_group by g) (rising lines)))
  group_steps p h g c = rw (filter_swap (of_group by g) (on p c) (rising lines), ← together_is p c g) (h c g)

  group_least : (p : Placing) → InOrder by lines p → (g : ℤ) → runs none (filter (of_group by g) (rising lines)) ≤ uses lines p
  unfolding uses
  group_least p h g =
      let s = filter (of_group by g) (rising lines) in
      le_trans (runs_least p s (Pairwise-filter UpTo (of_group by g) (rising lines) lines_sorted) (group_steps p h g))
      (once_within (map (number p) s) (map (number p) lines)
      (Within_from_Each (map (number p) lines) (map (number p) s)
      (Each-image (λ (n : ℕ). T (member n (map (number p) lines))) (number p) s
      (Each-filter (λ (l : PlanLine). T (member (number p l) (map (number p) lines))) (of_group by g) (rising lines) (used_rising p lines)))))

  least : (p : Placing) → InOrder by lines p → count by lines ≤ uses lines p
  unfolding count walk
  least p h = go (length (walk by lines)) refl
    where
      go : (m : ℕ) → length (channels by (length lines) (rising lines)) ≡ m → length (channels by (length lines) (rising lines)) ≤ uses lines p
      go zero e = omega arith
      go (suc m) e =
          let f = channels_least by (length lines) (rising lines) lines_sorted (omega arith) in
          le_trans f.1 (group_least p h f.0)

  -- ---- the walk's placing
  pub number_is : (c : ℕ) → filter (on (channel by lines) c) (rising lines) ≡ get_or (walk by lines) c []
  unfolding channel walk
  number_is c = channels_are by (length lines) (rising lines) c rising_enough lines_different

  in_order : InOrder by lines (channel by lines)
  unfolding walk
  in_order c g = rw (together_is (channel by lines) c g, number_is c) (channels_steps by (length lines) (rising lines) c g)

  pub below_count : Each (λ (l : PlanLine). channel by lines l.key < count by lines) (rising lines)
  unfolding channel count walk
  below_count = channels_below by (length lines) (rising lines) rising_enough

  pub channel_used : (c : ℕ) → c < count by lines → T (member c (map (number (channel by lines)) (rising lines)))
  unfolding count walk
  channel_used c h =
      let f = channels_full by (length lines) (rising lines) c h in
      filter_member (channel by lines) c (rising lines) f.0 f.1 (number_is c ∙ f.2)

  exact : uses lines (channel by lines) ≡ count by lines
  unfolding uses
  exact = once_exact (map (number (channel by lines)) lines) (count by lines)
      (Each-image (λ (n : ℕ). n < count by lines) (number (channel by lines)) lines
      (rising_Each (λ (l : PlanLine). channel by lines l.key < count by lines) lines below_count))
      (λ c h. member_rising (channel by lines) lines c (channel_used c h))

  -- The walk's placing is in order and uses exactly the count, and no placing in order uses fewer.
  pub walk_best : Best by lines (count by lines) (channel by lines)
  walk_best = record { in_order = in_order; exact = exact; least = least }

-- ---- Demand 3

-- Where a best placing uses n channels, n is more than are present exactly when no placing in order fits.
pub more_than_present : (by : GroupBy) (lines : List PlanLine) (n : ℕ) (p : Placing) → Best by lines n p → (present : ℕ)
    → (present < n) ↔ NoneFits by lines present
more_than_present by lines n p b present = (
  λ h q o f. not-le_of_lt h (le_trans (b.least q o) f),
  λ no. lt_of_not-le λ h. no p b.in_order (subst (λ (m : ℕ). m ≤ present) (sym b.exact) h),
)
