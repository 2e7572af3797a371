-- Laws of the lists of `specs/Lists.antt`: tests, `filter`, membership, and the pigeonhole: distinct numbers that all occur in a list are no more than it has.
use Rattle.std.specs.Prelude.{filter}
use mathlib.Core.Path.{◌≡◌, refl, sym, ap, ◌∙◌, subst}
use mathlib.Core.Logic.{◌⊎◌, inl, inr}
use mathlib.Core.Bool.{Bool, true, false, not, ◌&&◌, ◌||◌, cond, or-false}
use mathlib.Core.List.{List, [], ◌∷◌, ◌++◌, map}
use mathlib.Core.Option.{some, none}
use Prim.Native.Nat.{ℕ, zero, suc, ◌≤◌, ◌<◌, zero-le}
use native.Mathlib.Omega.{arith}
use lib.Dec.{T, eqb, eqb→eq, eqb_refl}
use lib.Ieee.Bits.{is_true}
use lib.ListN.{length, get_or, take, drop}
use Rattle.channels.specs.Lists.{Each, member, Distinct, once, without, first, Pairwise}

-- ---- tests

-- a test and how it came out
pub data Tested (b : Bool) : Type 0 where
  passed : b ≡ true → Tested b
  failed : b ≡ false → Tested b

pub tested : (b : Bool) → Tested b
tested true = passed refl
tested false = failed refl

pub true→T : {b : Bool} → b ≡ true → T b
true→T e = rw e tt

pub T→false : (b : Bool) → T (not b) → b ≡ false
T→false true t = absurd t
T→false false t = refl

pub false→T : {b : Bool} → b ≡ false → T (not b)
false→T e = rw e tt

pub not_false : {b : Bool} → b ≡ false → T b → ⊥
not_false {b} e t = rw e at t

pub or_cases : (a b : Bool) → T (a || b) → T a ⊎ T b
or_cases true b t = inl tt
or_cases false b t = inr t

pub or_left : (a b : Bool) → T a → T (a || b)
or_left true b t = tt
or_left false b t = absurd t

pub or_right : (a b : Bool) → T b → T (a || b)
or_right true b t = tt
or_right false b t = t

-- ---- each element
pub Each-map : {A : Type 0} {P Q : A → Type 0} → ((x : A) → P x → Q x) → (l : List A) → Each P l → Each Q l
Each-map f [] h = tt
Each-map f (x ∷ l) h = (f x h.0, Each-map f l h.1)

pub Each-zip : {A : Type 0} {P Q R : A → Type 0} → ((x : A) → P x → Q x → R x) → (l : List A) → Each P l → Each Q l → Each R l
Each-zip f [] h k = tt
Each-zip f (x ∷ l) h k = (f x h.0 k.0, Each-zip f l h.1 k.1)

pub Each-all : {A : Type 0} (P : A → Type 0) → ((x : A) → P x) → (l : List A) → Each P l
Each-all P f [] = tt
Each-all P f (x ∷ l) = (f x, Each-all P f l)

-- ---- `filter`
module _ {A : Type 0} where
  pub filter_yes : (f : A → Bool) (x : A) (l : List A) → f x ≡ true → filter f (x ∷ l) ≡ x ∷ filter f l
  filter_yes f x l e = rw e

  pub filter_no : (f : A → Bool) (x : A) (l : List A) → f x ≡ false → filter f (x ∷ l) ≡ filter f l
  filter_no f x l e = rw e

  -- tests that agree on the list filter the same
  pub filter_same : (f g : A → Bool) (l : List A) → Each (λ (x : A). f x ≡ g x) l → filter f l ≡ filter g l
  filter_same f g [] h = refl
  filter_same f g (x ∷ l) h = rw (h.0, filter_same f g l h.1)

  pub filter_filter : (f g : A → Bool) (l : List A) → filter g (filter f l) ≡ filter (λ (x : A). f x && g x) l
  filter_filter f g [] = refl
  filter_filter f g (x ∷ l) = elim (tested (f x)) [
    | passed e ↦ rw e (go (g x) (filter_filter f g l))
    | failed e ↦ rw e (filter_filter f g l)
  ]
    where
      go : (b : Bool) → filter g (filter f l) ≡ filter (λ (y : A). f y && g y) l
          → cond b (x ∷ filter g (filter f l)) (filter g (filter f l)) ≡ cond b (x ∷ filter (λ (y : A). f y && g y) l) (filter (λ (y : A). f y && g y) l)
      go b e = rw e

  pub Each-filter : (P : A → Type 0) (f : A → Bool) (l : List A) → Each P l → Each P (filter f l)
  Each-filter P f [] h = tt
  Each-filter P f (x ∷ l) h = elim (tested (f x)) [
    | passed e ↦ rw e (h.0, Each-filter P f l h.1)
    | failed e ↦ rw e (Each-filter P f l h.1)
  ]

  pub filter_swap : (f g : A → Bool) (l : List A) → filter g (filter f l) ≡ filter f (filter g l)
  filter_swap f g [] = refl
  filter_swap f g (x ∷ l) = elim (tested (f x)) [
    | passed e ↦ elim (tested (g x)) [ passed u ↦ simp (e, u, filter_swap f g l) | failed u ↦ simp (e, u, filter_swap f g l) ]
    | failed e ↦ elim (tested (g x)) [ passed u ↦ simp (e, u, filter_swap f g l) | failed u ↦ simp (e, u, filter_swap f g l) ]
  ]

  pub Pairwise-filter : (R : A → A → Type 0) (f : A → Bool) (l : List A) → Pairwise R l → Pairwise R (filter f l)
  Pairwise-filter R f [] h = tt
  Pairwise-filter R f (x ∷ l) h = elim (tested (f x)) [
    | passed e ↦ rw e (Each-filter (R x) f l h.0, Pairwise-filter R f l h.1)
    | failed e ↦ rw e (Pairwise-filter R f l h.1)
  ]

-- the elements that are left pass the test
pub Each-filter_passes : {A : Type 0} (f : A → Bool) (l : List A) → Each (λ (x : A). f x ≡ true) (filter f l)
Each-filter_passes f [] = tt
Each-filter_passes f (x ∷ l) = elim (tested (f x)) [
  | passed e ↦ rw e (e, Each-filter_passes f l)
  | failed e ↦ rw e (Each-filter_passes f l)
]

-- what holds of the elements that are left holds of each that passes
pub filter_Each : {A : Type 0} (P : A → Type 0) (f : A → Bool) (l : List A) → Each P (filter f l) → Each (λ (x : A). f x ≡ true → P x) l
filter_Each P f [] h = tt
filter_Each P f (x ∷ l) h = elim (tested (f x)) [
  | passed e ↦ let k : Each P (x ∷ filter f l) = rw e at h in (λ u. k.0, filter_Each P f l k.1)
  | failed e ↦ let k : Each P (filter f l) = rw e at h in (λ u. absurd (not_false e (true→T u)), filter_Each P f l k)
]

-- where all pass, all are left
pub filter_all : {A : Type 0} (f : A → Bool) (l : List A) → Each (λ (x : A). f x ≡ true) l → filter f l ≡ l
filter_all f [] h = refl
filter_all f (x ∷ l) h = rw (h.0, filter_all f l h.1)

pub Each-take : {A : Type 0} (P : A → Type 0) (l : List A) (n : ℕ) → Each P l → Each P (take n l)
Each-take P l zero h = tt
Each-take P [] (suc n) h = tt
Each-take P (x ∷ l) (suc n) h = (h.0, Each-take P l n h.1)

pub Each_from_at : {A : Type 0} (P : A → Type 0) (l : List A) (d : A) → ((i : ℕ) → i < length l → P (get_or l i d)) → Each P l
Each_from_at P [] d h = tt
Each_from_at P (x ∷ l) d h = (h 0 (omega arith), Each_from_at P l d (λ i p. h (suc i) (omega arith)))

pub at_from_Each : {A : Type 0} (P : A → Type 0) (l : List A) (d : A) → Each P l → (i : ℕ) → i < length l → P (get_or l i d)
at_from_Each P [] d h i p = absurd (let z : ⊥ = omega arith in z)
at_from_Each P (x ∷ l) d h zero p = h.0
at_from_Each P (x ∷ l) d h (suc i) p = at_from_Each P l d h.1 i (omega arith)

pub Each-snoc : {A : Type 0} (P : A → Type 0) (l : List A) (x : A) → Each P l → P x → Each P (l ++ (x ∷ []))
Each-snoc P [] x h p = (p, tt)
Each-snoc P (y ∷ l) x h p = (h.0, Each-snoc P l x h.1 p)

-- ---- members
pub member_head : (n : ℕ) (l : List ℕ) → T (member n (n ∷ l))
member_head n l = or_left (eqb n n) (member n l) (eqb_refl n)

pub member_tail : (n m : ℕ) (l : List ℕ) → T (member n l) → T (member n (m ∷ l))
member_tail n m l t = or_right (eqb m n) (member n l) t

pub eqb_other : (a b : ℕ) → eqb a b ≡ false → eqb b a ≡ false
eqb_other a b e = elim (tested (eqb b a)) [
  | passed u ↦ absurd (not_false e (subst (λ (k : ℕ). T (eqb a k)) (sym (eqb→eq b a (true→T u))) (eqb_refl a)))
  | failed u ↦ u
]

pub member_snoc : (k m : ℕ) (l : List ℕ) → member k (l ++ (m ∷ [])) ≡ member k l || eqb m k
member_snoc k m [] = or-false (eqb m k)
member_snoc k m (n ∷ l) = elim (tested (eqb n k)) [ passed e ↦ rw e | failed e ↦ rw e (member_snoc k m l) ]

pub distinct_snoc : (l : List ℕ) (m : ℕ) → Distinct l → member m l ≡ false → Distinct (l ++ (m ∷ []))
distinct_snoc [] m d h = (tt, tt)
distinct_snoc (n ∷ l) m d h = elim (tested (eqb n m)) [
  | passed e ↦ absurd (not_false h (or_left (eqb n m) (member m l) (true→T e)))
  | failed e ↦ (
    false→T (member_snoc n m l ∙ rw (T→false (member n l) d.0) (eqb_other n m e)),
    distinct_snoc l m d.1 (rw e at h),
  )
]

-- the numbers of l are all in k
abbrev pub Within : List ℕ → List ℕ → Type 0
Within l k = (n : ℕ) → T (member n l) → T (member n k)

-- what holds of each number of a list holds of each member
pub at_member : (P : ℕ → Type 0) (l : List ℕ) → Each P l → (n : ℕ) → T (member n l) → P n
at_member P [] h n t = absurd t
at_member P (m ∷ l) h n t = elim (or_cases (eqb m n) (member n l) t) [
  | inl e ↦ subst P (eqb→eq m n e) h.0
  | inr u ↦ at_member P l h.1 n u
]

pub Within_from_Each : (k l : List ℕ) → Each (λ (n : ℕ). T (member n k)) l → Within l k
Within_from_Each k l h n t = at_member (λ (m : ℕ). T (member m k)) l h n t

-- every element's image is one of the images
pub own_image : {A : Type 0} (f : A → ℕ) (l : List A) → Each (λ (x : A). T (member (f x) (map f l))) l
own_image f [] = tt
own_image f (x ∷ l) = (
  member_head (f x) (map f l),
  Each-map (λ y t. member_tail (f y) (f x) (map f l) t) l (own_image f l),
)

pub Each-image : {A : Type 0} (P : ℕ → Type 0) (f : A → ℕ) (l : List A) → Each (λ (x : A). P (f x)) l → Each P (map f l)
Each-image P f [] h = tt
Each-image P f (x ∷ l) h = (h.0, Each-image P f l h.1)

pub map_same : {A : Type 0} (f g : A → ℕ) (l : List A) → Each (λ (x : A). f x ≡ g x) l → map f l ≡ map g l
map_same f g [] h = refl
map_same f g (x ∷ l) h = rw (h.0, map_same f g l h.1)

-- ---- each number once
pub member_once : (n : ℕ) (l : List ℕ) → T (member n l) → T (member n (once l))
member_once n [] t = t
member_once n (m ∷ l) t = elim (tested (member m l)) [
  | passed e ↦ rw e (elim (or_cases (eqb m n) (member n l) t) [
    | inl u ↦ member_once n l (subst (λ (j : ℕ). T (member j l)) (eqb→eq m n u) (true→T e))
    | inr u ↦ member_once n l u
  ])
  | failed e ↦ rw e (elim (or_cases (eqb m n) (member n l) t) [
    | inl u ↦ or_left (eqb m n) (member n (once l)) u
    | inr u ↦ or_right (eqb m n) (member n (once l)) (member_once n l u)
  ])
]

pub once_member : (n : ℕ) (l : List ℕ) → T (member n (once l)) → T (member n l)
once_member n [] t = t
once_member n (m ∷ l) t = elim (tested (member m l)) [
  | passed e ↦ member_tail n m l (once_member n l (rw e at t))
  | failed e ↦ elim (or_cases (eqb m n) (member n (once l)) (rw e at t)) [
    | inl u ↦ or_left (eqb m n) (member n l) u
    | inr u ↦ or_right (eqb m n) (member n l) (once_member n l u)
  ]
]

pub absent_once : (n : ℕ) (l : List ℕ) → member n l ≡ false → T (not (member n (once l)))
absent_once n l e = elim (tested (member n (once l))) [
  | passed u ↦ absurd (not_false e (once_member n l (true→T u)))
  | failed u ↦ false→T u
]

pub once_distinct : (l : List ℕ) → Distinct (once l)
once_distinct [] = tt
once_distinct (m ∷ l) = elim (tested (member m l)) [
  | passed e ↦ rw e (once_distinct l)
  | failed e ↦ rw e (absent_once m l e, once_distinct l)
]

-- ---- the pigeonhole

length_without_le : (n : ℕ) (l : List ℕ) → length (without n l) ≤ length l
unfolding without
length_without_le n [] = zero-le
length_without_le n (m ∷ l) = elim (tested (eqb m n)) [
  | passed e ↦ rw e (omega (arith, length_without_le n l))
  | failed e ↦ rw e (omega (arith, length_without_le n l))
]

pub length_without_lt : (n : ℕ) (l : List ℕ) → member n l ≡ true → length (without n l) < length l
unfolding without
length_without_lt n [] h = absurd (cc)
length_without_lt n (m ∷ l) h = elim (tested (eqb m n)) [
  | passed e ↦ rw e (omega (arith, length_without_le n l))
  | failed e ↦ rw e (omega (arith, length_without_lt n l (rw e at h)))
]

member_without_other : (n k : ℕ) (l : List ℕ) → (k ≡ n → ⊥) → T (member k l) → T (member k (without n l))
unfolding without
member_without_other n k [] d t = t
member_without_other n k (m ∷ l) d t = elim (tested (eqb m n)) [
  | passed e ↦ rw e (elim (or_cases (eqb m k) (member k l) t) [
    | inl u ↦ absurd (d (sym (eqb→eq m k u) ∙ eqb→eq m n (true→T e)))
    | inr u ↦ member_without_other n k l d u
  ])
  | failed e ↦ rw e (elim (or_cases (eqb m k) (member k l) t) [
    | inl u ↦ or_left (eqb m k) (member k (without n l)) u
    | inr u ↦ or_right (eqb m k) (member k (without n l)) (member_without_other n k l d u)
  ])
]

-- Distinct numbers that all occur in k are no more than k has.
pub distinct_length_le : (l k : List ℕ) → Distinct l → Within l k → length l ≤ length k
distinct_length_le [] k d h = zero-le
distinct_length_le (n ∷ l) k d h =
    let fewer = length_without_lt n k (is_true (member n k) (h n (member_head n l))) in
    let rest = distinct_length_le l (without n k) d.1 λ j t. member_without_other n j k (λ e. member_not_head e t) (h j (member_tail j n l t)) in
    omega (arith, fewer, rest)
  where
    member_not_head : {j : ℕ} → j ≡ n → T (member j l) → ⊥
    member_not_head {j} e t = not_false (T→false (member n l) d.0) (subst (λ (i : ℕ). T (member i l)) e t)

-- the numbers below m
pub below : ℕ → List ℕ
below zero = []
below (suc m) = m ∷ below m

pub below_length : (m : ℕ) → length (below m) ≡ m
unfolding below
below_length zero = refl
below_length (suc m) = ap suc (below_length m)

pub below_member : (m n : ℕ) → n < m → T (member n (below m))
unfolding below
below_member zero n h = absurd (omega arith)
below_member (suc m) n h = elim (tested (eqb m n)) [
  | passed e ↦ rw e tt
  | failed e ↦ rw e (below_member m n (omega (arith, differ e)))
]
  where
    differ : eqb m n ≡ false → m ≡ n → ⊥
    differ e u = not_false e (subst (λ (j : ℕ). T (eqb m j)) u (eqb_refl m))

pub member_below : (m n : ℕ) → T (member n (below m)) → n < m
unfolding below
member_below zero n t = absurd t
member_below (suc m) n t = elim (or_cases (eqb m n) (member n (below m)) t) [
  | inl u ↦ let e : m ≡ n = eqb→eq m n u in omega arith
  | inr u ↦ let h : n < m = member_below m n u in omega arith
]

pub below_distinct : (m : ℕ) → Distinct (below m)
unfolding below
below_distinct zero = tt
below_distinct (suc m) = (absent, below_distinct m)
  where
    absent : T (not (member m (below m)))
    absent = elim (tested (member m (below m))) [
      | passed e ↦ let h : m < m = member_below m m (true→T e) in absurd (omega arith)
      | failed e ↦ false→T e
    ]

-- ---- how many numbers a list has, each counted once

pub once_within : (l k : List ℕ) → Within l k → length (once l) ≤ length (once k)
once_within l k h = distinct_length_le (once l) (once k) (once_distinct l) λ n t. member_once n k (h n (once_member n l t))

pub once_new : (n : ℕ) (l : List ℕ) → member n l ≡ false → length (once (n ∷ l)) ≡ suc (length (once l))
once_new n l e = rw e

pub once_cons : (n : ℕ) (l : List ℕ) → length (once l) ≤ length (once (n ∷ l))
once_cons n l = once_within l (n ∷ l) λ m t. member_tail m n l t

-- all below m, and every number below m: m of them
pub once_exact : (l : List ℕ) (m : ℕ) → Each (λ (n : ℕ). n < m) l → ((n : ℕ) → n < m → T (member n l)) → length (once l) ≡ m
once_exact l m small all =
    let a : length (once l) ≤ length (below m) =
    distinct_length_le (once l) (below m) (once_distinct l) λ n t. Within_from_Each (below m) l (Each-map (λ j h. below_member m j h) l small) n
    (once_member n l t) in
    let b : length (below m) ≤ length (once l) = distinct_length_le (below m) (once l) (below_distinct m) λ n t. member_once n l (all n (member_below m n t)) in
    let e : length (below m) ≡ m = below_length m in
    omega arith

-- ---- the first of a list

pub first_rest : (l : List ℕ) (x : ℕ) → first l ≡ some x → l ≡ x ∷ drop 1 l
unfolding first
first_rest [] x e = absurd (cc)
first_rest (y ∷ l) x e = let z : y ≡ x = cc in ap (λ (k : ℕ). k ∷ l) z

pub first_none : (l : List ℕ) → first l ≡ none → l ≡ []
unfolding first
first_none [] e = refl
first_none (y ∷ l) e = absurd (cc)
