-- The entry of a group on a channel: the last detuning, in rising order, of the group's keys up to that channel. Within a group a channel takes the keys that
-- come first, so what the channels up to it took is what rising order has first.
use Rattle.std.specs.Prelude.{filter}
use mathlib.Core.Path.{◌≡◌, refl, sym, ap, ◌∙◌}
use mathlib.Core.Bool.{Bool, true, false, not, cond}
use mathlib.Core.List.{List, [], ◌∷◌, ◌++◌}
use mathlib.Core.Option.{Option, none, some}
use Prim.Native.Nat.{ℕ, zero, suc, ◌<◌, ◌≤◌}
use native.Mathlib.Omega.{arith}
use lib.Dec.{T, leb, leb-suc-suc, leb-suc-zero, leb-zero}
use lib.IntN.{ℤ}
use lib.Ieee.{Float, le}
use lib.Ieee.Positive.{positive, le_trans_positive}
use lib.ListN.{length}
use Rattle.plans.specs.declared.aot.GroupBy.{GroupBy}
use Rattle.channels.specs.Lists.{Each, member, Pairwise}
use Rattle.plans.specs.PlanLine.{PlanLine, of_group, joins, rising, keys}
use Rattle.plans.specs.Walk.{latest, accepts, takes, next, taken_keys, deferred_keys, channels, walk, count, replaced, entry_from, entry, number_of, channel}
use Rattle.plans.specs.PlanInternal.{Accepted}
use Rattle.channels.proofs.Lists.Laws.{tested, passed, failed, true→T, T→false, Each-all, Each-map, Each-filter, filter_no, filter_same, filter_swap, filter_all, own_image}
use Rattle.plans.specs.PlanOrder.{UpTo, Sorted, Other}
use Rattle.plans.proofs.Walk.Sweep.{joins_not_beyond, takes_is, latest_other, latest_taken, latest_left, taken_yes, taken_no, taken_is, all_deferred, deferred_other, deferred_fewer, Pairwise-deferred}
use Rattle.plans.proofs.Planning.Plan.{lines_sorted, lines_different, rising_enough}
use Rattle.plans.proofs.Walk.Assignments.{deferred_absent}
use Rattle.plans.specs.Carried.{last_of, group_keys}
use lib.Ieee.Bits.{is_true}
use Rattle.std.proofs.lemmas.List.Elements.{filter-append}
use Rattle.arithmetic.proofs.Numbers.Floats.{le_refl_positive}

last_append : (e : Option Float) (a b : List PlanLine) → last_of e (a ++ b) ≡ last_of (last_of e a) b
last_append e [] b = refl
last_append e (x ∷ a) b = last_append (some x.detuning) a b

pub replaced_is : (by : GroupBy) (g : ℤ) (e : Option Float) (t : List PlanLine) → replaced by g e t ≡ last_of e (filter (of_group by g) t)
unfolding replaced
replaced_is by g e [] = refl
replaced_is by g e (x ∷ t) = elim (tested (of_group by g x)) [
  | passed u ↦ rw u (replaced_is by g (some x.detuning) t)
  | failed u ↦ rw u (replaced_is by g e t)
]

-- ---- a channel takes the keys of a group that come first
module _ (by : GroupBy) (g : ℤ) where
  taken_other : (taken : List PlanLine) (x : PlanLine) (w : List PlanLine) → of_group by g x ≡ false
      → filter (of_group by g) (taken_keys by taken (x ∷ w)) ≡ filter (of_group by g) (taken_keys by (next by taken x) w)
  taken_other taken x w e = elim (tested (takes by taken x)) [
    | passed u ↦ rw (taken_yes by taken x w u, e)
    | failed u ↦ rw (taken_no by taken x w u)
  ]

  none_taken : (a : Float) (taken w : List PlanLine) → latest by g taken ≡ some a → Each (λ (y : PlanLine). joins a y.detuning ≡ false) w
      → filter (of_group by g) (taken_keys by taken w) ≡ []
  unfolding taken_keys accepts
  none_taken a taken [] l h = refl
  none_taken a taken (x ∷ w) l h = elim (tested (of_group by g x)) [
    | passed e ↦
        let u : takes by taken x ≡ false = takes_is by g taken x e ∙ ap (λ (o : Option Float). accepts o x.detuning) l ∙ h.0 in
        rw u (none_taken a (next by taken x) w (latest_left by g taken x u ∙ l) h.1)
    | failed e ↦ taken_other taken x w e ∙ none_taken a (next by taken x) w (latest_other by g taken x e ∙ l) h.1
  ]

  split_after : (z : PlanLine) (taken w : List PlanLine) → latest by g taken ≡ some z.detuning → Each (UpTo z) w → Sorted w
      → filter (of_group by g) (taken_keys by taken w) ++ filter (of_group by g) (deferred_keys by taken w) ≡ filter (of_group by g) w
  unfolding taken_keys deferred_keys accepts
  split_after z taken [] l h s = refl
  split_after z taken (x ∷ w) l h s = elim (tested (of_group by g x)) [
    | passed e ↦
        let t : takes by taken x ≡ joins z.detuning x.detuning = takes_is by g taken x e ∙ ap (λ (o : Option Float). accepts o x.detuning) l in
        elim (tested (joins z.detuning x.detuning)) [
          | passed j ↦
              let u : takes by taken x ≡ true = t ∙ j in
              rw (u, e) (ap (λ (k : List PlanLine). x ∷ k) (split_after x (next by taken x) w (latest_taken by g taken x e u) s.0 s.1))
          | failed j ↦
              let u : takes by taken x ≡ false = t ∙ j in
              let b = Each-map (joins_not_beyond z x h.0 j) w s.0 in
              let p = latest_left by g taken x u ∙ l in
              rw (u, e, none_taken z.detuning (next by taken x) w p b, all_deferred by g z.detuning (next by taken x) w p b)
        ]
    | failed e ↦ rw (taken_other taken x w e, deferred_other by g taken x w e, filter_no (of_group by g) x w e)
        (split_after z (next by taken x) w (latest_other by g taken x e ∙ l) h.1 s.1)
  ]

  split : (taken w : List PlanLine) → latest by g taken ≡ none → Sorted w
      → filter (of_group by g) (taken_keys by taken w) ++ filter (of_group by g) (deferred_keys by taken w) ≡ filter (of_group by g) w
  unfolding taken_keys deferred_keys accepts
  split taken [] l s = refl
  split taken (x ∷ w) l s = elim (tested (of_group by g x)) [
    | passed e ↦
        let u : takes by taken x ≡ true = takes_is by g taken x e ∙ ap (λ (o : Option Float). accepts o x.detuning) l in
        rw (u, e) (ap (λ (k : List PlanLine). x ∷ k) (split_after x (next by taken x) w (latest_taken by g taken x e u) s.0 s.1))
    | failed e ↦ rw (taken_other taken x w e, deferred_other by g taken x w e, filter_no (of_group by g) x w e)
        (split (next by taken x) w (latest_other by g taken x e ∙ l) s.1)
  ]

  -- ---- the entry
  abbrev up_to : List (List PlanLine) → ℕ → PlanLine → Bool
  up_to ts c l = leb (number_of l.key ts) c

  on_first : (t : List PlanLine) (ts : List (List PlanLine)) (c : ℕ) (l : List PlanLine) → Each (λ (x : PlanLine). T (member x.key (keys t))) l
      → Each (λ (x : PlanLine). up_to (t ∷ ts) c x ≡ true) l
  unfolding number_of
  on_first t ts c l h = Each-map {Q = λ x. up_to (t ∷ ts) c x ≡ true} (λ x m. rw (is_true (member x.key (keys t)) m) (leb-zero c)) l h

  on_others : (t : List PlanLine) (ts : List (List PlanLine)) (c : ℕ) (l : List PlanLine) → Each (λ (x : PlanLine). not (member x.key (keys t)) ≡ true) l
      → Each (λ (x : PlanLine). up_to (t ∷ ts) (suc c) x ≡ up_to ts c x) l
  unfolding number_of
  on_others t ts c l h =
      Each-map {Q = λ x. up_to (t ∷ ts) (suc c) x ≡ up_to ts c x}
      (λ x m. rw (T→false (member x.key (keys t)) (true→T m)) (leb-suc-suc (number_of x.key ts) c)) l h

  zero_is : (t : List PlanLine) (ts : List (List PlanLine)) (w : List PlanLine)
      → filter (up_to (t ∷ ts) 0) w ≡ filter (λ (l : PlanLine). member l.key (keys t)) w
  unfolding number_of
  zero_is t ts w =
      filter_same (up_to (t ∷ ts) 0) (λ (l : PlanLine). member l.key (keys t)) w
      (Each-all (λ (x : PlanLine). up_to (t ∷ ts) 0 x ≡ member x.key (keys t)) (λ x. first (member x.key (keys t)) (number_of x.key ts)) w)
    where
      first : (m : Bool) (k : ℕ) → leb (cond m 0 (suc k)) 0 ≡ m
      first true k = leb-zero 0
      first false k = leb-suc-zero k

  entry_from_is : (n : ℕ) (w : List PlanLine) (c : ℕ) (e : Option Float) → length w ≤ n → Sorted w → Pairwise Other w → c < length (channels by n w)
      → entry_from by g e (channels by n w) c ≡ last_of e (filter (up_to (channels by n w) c) (filter (of_group by g) w))
  unfolding channels entry_from
  entry_from_is zero w c e h s a k = absurd (let z : ⊥ = omega arith in z)
  entry_from_is (suc n) [] c e h s a k = absurd (let z : ⊥ = omega arith in z)
  entry_from_is (suc n) (x ∷ w) zero e h s a k =
      let t = taken_keys by [] (x ∷ w) in
      let ts = channels by n (deferred_keys by [] (x ∷ w)) in
      replaced_is by g e t
      ∙ ap (last_of e) (sym (filter_swap (of_group by g) (up_to (t ∷ ts) 0) (x ∷ w)
      ∙ ap (filter (of_group by g)) (zero_is t ts (x ∷ w) ∙ taken_is by [] (x ∷ w) a)))
  entry_from_is (suc n) (x ∷ w) (suc c) e h s a k =
      let t = taken_keys by [] (x ∷ w) in
      let u = deferred_keys by [] (x ∷ w) in
      let ts = channels by n u in
      let f = up_to (t ∷ ts) (suc c) in
      let first : filter f (filter (of_group by g) t) ≡ filter (of_group by g) t = filter_all f (filter (of_group by g) t)
      (Each-filter (λ (y : PlanLine). f y ≡ true) (of_group by g) t (on_first t ts (suc c) t (own_image (λ (l : PlanLine). l.key) t))) in
      let rest : filter f (filter (of_group by g) u) ≡ filter (up_to ts c) (filter (of_group by g) u) = filter_same f (up_to ts c) (filter (of_group by g) u)
      (Each-filter (λ (y : PlanLine). f y ≡ up_to ts c y) (of_group by g) u (on_others t ts c u (deferred_absent by [] (x ∷ w) a))) in
      entry_from_is n u c (replaced by g e t) (deferred_fewer by n x w h) (Pairwise-deferred by UpTo [] (x ∷ w) s)
      (Pairwise-deferred by Other [] (x ∷ w) a) (omega arith)
      ∙ ap (λ (o : Option Float). last_of o (filter (up_to ts c) (filter (of_group by g) u))) (replaced_is by g e t)
      ∙ sym
      (ap (λ (l : List PlanLine). last_of e (filter f l)) (sym (split [] (x ∷ w) (unfold latest in refl) s))
      ∙ ap (last_of e) (filter-append f (filter (of_group by g) t) (filter (of_group by g) u)
      ∙ ap (λ (l : List PlanLine). l ++ filter f (filter (of_group by g) u)) first
      ∙ ap (λ (l : List PlanLine). filter (of_group by g) t ++ l) rest)
      ∙ last_append e (filter (of_group by g) t) (filter (up_to ts c) (filter (of_group by g) u)))

  entry_beyond : (ts : List (List PlanLine)) (c : ℕ) (e : Option Float) → length ts ≤ c → entry_from by g e ts c ≡ none
  unfolding entry_from
  entry_beyond [] c e h = refl
  entry_beyond (t ∷ ts) zero e h = absurd (let z : ⊥ = omega arith in z)
  entry_beyond (t ∷ ts) (suc c) e h = entry_beyond ts c (replaced by g e t) (omega arith)

module _ (by : GroupBy) (lines : List PlanLine) (ok : Accepted lines) (c : ℕ) (g : ℤ) where
  pub entry_is : c < count by lines → entry by lines c g ≡ last_of none (group_keys by lines c g)
  unfolding entry walk count channel
  entry_is h = entry_from_is by g (length lines) (rising lines) c none (rising_enough by lines ok) (lines_sorted by lines ok) (lines_different by lines ok) h

  pub no_entry : count by lines ≤ c → entry by lines c g ≡ none
  unfolding entry walk count
  no_entry h = entry_beyond by g (channels by (length lines) (rising lines)) c none h

-- ---- the last of a sorted list is its largest
pub last_is_largest : (P : PlanLine → Type 0) (x : PlanLine) (l : List PlanLine) → Each P (x ∷ l) → Each (λ (y : PlanLine). T (positive y.detuning)) (x ∷ l)
    → Sorted (x ∷ l)
    → (z : PlanLine) × P z × T (positive z.detuning) × (last_of none (x ∷ l) ≡ some z.detuning)
    × Each (λ (y : PlanLine). T (le y.detuning z.detuning)) (x ∷ l)
last_is_largest P x [] h p s = (x, h.0, p.0, refl, (le_refl_positive x.detuning p.0, tt))
last_is_largest P x (y ∷ l) h p s =
    let r = last_is_largest P y l h.1 p.1 s.1 in
    (r.0, r.1, r.2, r.3, (le_trans_positive x.detuning y.detuning r.0.detuning p.0 p.1.0 r.2 s.0.0.ordered r.4.0, r.4))
