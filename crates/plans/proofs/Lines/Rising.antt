-- `rising` has the list's lines, in the order of their detunings.
use Rattle.std.specs.Prelude.{filter}
use mathlib.Core.Path.{◌≡◌, refl, ap, ◌∙◌}
use mathlib.Core.Bool.{Bool, false, cond}
use mathlib.Core.List.{List, [], ◌∷◌, ◌++◌}
use Prim.Native.Nat.{ℕ, suc}
use lib.Dec.{eqb}
use lib.ListN.{length}
use lib.Ieee.{le}
use lib.Ieee.Positive.{le_trans_positive}
use Rattle.channels.specs.Lists.{Each, member, Distinct, Pairwise}
use Rattle.plans.specs.PlanLine.{PlanLine, insert, rising, keys}
use Rattle.channels.proofs.Lists.Laws.{tested, passed, failed, true→T, Each-filter, T→false, not_false, or_left, Each-map, eqb_other}
use Rattle.plans.proofs.Walk.Joins.{le_total}
use Rattle.plans.specs.PlanOrder.{UpTo, Sorted, Positive, Other}
use lib.Ieee.Bits.{is_true}

-- ---- the same lines
module _ (P : PlanLine → Type 0) where
  pub Each-insert : (x : PlanLine) (l : List PlanLine) → P x → Each P l → Each P (insert x l)
  unfolding insert
  Each-insert x [] p h = (p, tt)
  Each-insert x (y ∷ l) p h = elim (tested (le x.detuning y.detuning)) [
    | passed e ↦ rw e (p, h)
    | failed e ↦ rw e (h.0, Each-insert x l p h.1)
  ]

  pub Each-rising : (l : List PlanLine) → Each P l → Each P (rising l)
  unfolding rising
  Each-rising [] h = tt
  Each-rising (x ∷ l) h = Each-insert x (rising l) h.0 (Each-rising l h.1)

  -- and back
  insert_Each : (x : PlanLine) (l : List PlanLine) → Each P (insert x l) → P x × Each P l
  unfolding insert
  insert_Each x [] h = (h.0, tt)
  insert_Each x (y ∷ l) h = elim (tested (le x.detuning y.detuning)) [
    | passed e ↦ rw e at h
    | failed e ↦ let k : P y × Each P (insert x l) = rw e at h in let r = insert_Each x l k.1 in (r.0, (k.0, r.1))
  ]

  pub rising_Each : (l : List PlanLine) → Each P (rising l) → Each P l
  unfolding rising
  rising_Each [] h = tt
  rising_Each (x ∷ l) h = let r = insert_Each x (rising l) h in (r.0, rising_Each l r.1)

pub length_insert : (x : PlanLine) (l : List PlanLine) → length (insert x l) ≡ suc (length l)
unfolding insert
length_insert x [] = refl
length_insert x (y ∷ l) = elim (tested (le x.detuning y.detuning)) [
  | passed e ↦ rw e
  | failed e ↦ rw e (ap suc (length_insert x l))
]

pub length_rising : (l : List PlanLine) → length (rising l) ≡ length l
unfolding rising
length_rising [] = refl
length_rising (x ∷ l) = length_insert x (rising l) ∙ ap suc (length_rising l)

-- ---- their order

UpTo-trans : {x y z : PlanLine} → UpTo x y → UpTo y z → UpTo x z
UpTo-trans {x} {y} {z} h k = record {
  first = h.first;
  second = k.second;
  ordered = le_trans_positive x.detuning y.detuning z.detuning h.first h.second k.second h.ordered k.ordered;
}

insert_sorted : (x : PlanLine) (l : List PlanLine) → Positive x → Each Positive l → Sorted l → Sorted (insert x l)
unfolding insert
insert_sorted x [] p q s = (tt, tt)
insert_sorted x (y ∷ l) p q s = elim (tested (le x.detuning y.detuning)) [
  | passed e ↦
      let h : UpTo x y = record { first = p; second = q.0; ordered = true→T e } in
      rw e ((h, Each-map (λ z k. UpTo-trans h k) l s.0), s)
  | failed e ↦
      let h : UpTo y x = record { first = q.0; second = p; ordered = le_total x.detuning y.detuning p q.0 e } in
      rw e (Each-insert (UpTo y) x l h s.0, insert_sorted x l p q.1 s.1)
]

pub rising_sorted : (l : List PlanLine) → Each Positive l → Sorted (rising l)
unfolding rising
rising_sorted [] h = tt
rising_sorted (x ∷ l) h = insert_sorted x (rising l) h.0 (Each-rising Positive l h.1) (rising_sorted l h.1)

-- ---- their keys

pub other_sym : (x y : PlanLine) → Other x y → Other y x
other_sym x y e = eqb_other x.key y.key e

-- a key that is none of the list's
pub not_member_of_others : (x : PlanLine) (l : List PlanLine) → Each (Other x) l → member x.key (keys l) ≡ false
not_member_of_others x [] h = refl
not_member_of_others x (y ∷ l) h = rw (other_sym x y h.0) (not_member_of_others x l h.1)

pub others_of_key : (k : ℕ) (lines : List PlanLine) → member k (keys lines) ≡ false → Each (λ (l : PlanLine). eqb l.key k ≡ false) lines
others_of_key k [] h = tt
others_of_key k (x ∷ lines) h = elim (tested (eqb x.key k)) [
  | passed e ↦ absurd (not_false h (or_left (eqb x.key k) (member k (keys lines)) (true→T e)))
  | failed e ↦ (e, others_of_key k lines (rw e at h))
]

pub others_of_line : (x : PlanLine) (l : List PlanLine) → member x.key (keys l) ≡ false → Each (Other x) l
others_of_line x l h = Each-map (λ y e. eqb_other y.key x.key e) l (others_of_key x.key l h)

pub distinct_apart : (l : List PlanLine) → Distinct (keys l) → Pairwise Other l
distinct_apart [] h = tt
distinct_apart (x ∷ l) h = (others_of_line x l (T→false (member x.key (keys l)) h.0), distinct_apart l h.1)

insert_apart : (x : PlanLine) (l : List PlanLine) → Each (Other x) l → Pairwise Other l → Pairwise Other (insert x l)
unfolding insert
insert_apart x [] h k = (tt, tt)
insert_apart x (y ∷ l) h k = elim (tested (le x.detuning y.detuning)) [
  | passed e ↦ rw e (h, k)
  | failed e ↦ rw e (Each-insert (Other y) x l (other_sym x y h.0) k.0, insert_apart x l h.1 k.1)
]

pub rising_apart : (l : List PlanLine) → Pairwise Other l → Pairwise Other (rising l)
unfolding rising
rising_apart [] h = tt
rising_apart (x ∷ l) h = insert_apart x (rising l) (Each-rising (Other x) l h.0) (rising_apart l h.1)

-- ---- to take some of the lines and order them is to order the lines and take some
insert_first : (x : PlanLine) (l : List PlanLine) → Each (UpTo x) l → insert x l ≡ x ∷ l
unfolding insert
insert_first x [] h = refl
insert_first x (y ∷ l) h = rw (is_true (le x.detuning y.detuning) h.0.ordered)

keep_insert : (f : PlanLine → Bool) (x : PlanLine) (l : List PlanLine) → Positive x → Each Positive l → Sorted l
    → filter f (insert x l) ≡ cond (f x) (insert x (filter f l)) (filter f l)
unfolding insert
keep_insert f x [] p q s = refl
keep_insert f x (y ∷ l) p q s = elim (tested (le x.detuning y.detuning)) [
  | passed e ↦
      let h : UpTo x y = record { first = p; second = q.0; ordered = true→T e } in
      let u : Each (UpTo x) (y ∷ l) = (h, Each-map (λ z k. UpTo-trans h k) l s.0) in
      rw (insert_first x (filter f (y ∷ l)) (Each-filter (UpTo x) f (y ∷ l) u), e)
  | failed e ↦ elim (tested (f y)) [
    | passed u ↦ rw (e, u, keep_insert f x l p q.1 s.1) (elim (tested (f x)) [ passed v ↦ rw (v, e) | failed v ↦ rw v ])
    | failed u ↦ rw (e, u) (keep_insert f x l p q.1 s.1)
  ]
]

pub rising_keep : (f : PlanLine → Bool) (l : List PlanLine) → Each Positive l → filter f (rising l) ≡ rising (filter f l)
unfolding rising
rising_keep f [] h = refl
rising_keep f (x ∷ l) h =
    keep_insert f x (rising l) h.0 (Each-rising Positive l h.1) (rising_sorted l h.1)
    ∙ elim (tested (f x)) [ passed e ↦ rw (e, rising_keep f l h.1) | failed e ↦ rw (e, rising_keep f l h.1) ]

pub rising_of_sorted : (l : List PlanLine) → Sorted l → rising l ≡ l
unfolding rising
rising_of_sorted [] s = refl
rising_of_sorted (x ∷ l) s = rw (rising_of_sorted l s.1) (insert_first x l s.0)

-- ---- the order built from the front: a new last line goes before the first whose detuning is above its own

unfoldable pub append : PlanLine → List PlanLine → List PlanLine
append x [] = x ∷ []
append x (y ∷ l) = let r = append x l in cond (le y.detuning x.detuning) (y ∷ r) (x ∷ y ∷ l)

insert_append : (y x : PlanLine) (l : List PlanLine) → Positive y → Positive x → Each Positive l → insert y (append x l) ≡ append x (insert y l)
unfolding insert append
insert_append y x [] p q r = elim (tested (le y.detuning x.detuning)) [ passed e ↦ rw e | failed e ↦ rw e ]
insert_append y x (z ∷ l) p q r = elim (tested (le z.detuning x.detuning)) [
  | passed e ↦ elim (tested (le y.detuning z.detuning)) [
    | passed u ↦ simp (e, u, is_true (le y.detuning x.detuning) (le_trans_positive y.detuning z.detuning x.detuning p r.0 q (true→T u) (true→T e)))
    | failed u ↦ simp (e, u, insert_append y x l p q r.1)
  ]
  | failed e ↦ elim (tested (le y.detuning x.detuning)) [
    | passed u ↦ simp (
      e,
      u,
      is_true (le y.detuning z.detuning) (le_trans_positive y.detuning x.detuning z.detuning p q r.0 (true→T u) (le_total z.detuning x.detuning r.0 q e)),
    )
    | failed u ↦ elim (tested (le y.detuning z.detuning)) [ passed v ↦ simp (e, u, v) | failed v ↦ simp (e, u, v) ]
  ]
]

pub rising_snoc : (l : List PlanLine) (x : PlanLine) → Each Positive l → Positive x → rising (l ++ (x ∷ [])) ≡ append x (rising l)
unfolding rising
rising_snoc [] x h p = unfold insert append in refl
rising_snoc (y ∷ l) x h p = rw (rising_snoc l x h.1 p) (insert_append y x (rising l) h.0 p (Each-rising Positive l h.1))
