-- One channel's walk, and the walk over the channels. Within a group, in rising order, a channel takes the keys up to the first gap, that is, up to the first
-- detuning that does not join the one before it, and leaves the rest. So it takes off one run, and the count is the number of runs of the group that has most.
use Rattle.std.specs.Prelude.{filter}
use mathlib.Core.Path.{◌≡◌, refl, sym, ap, ◌∙◌, subst}
use mathlib.Core.Bool.{Bool, true, false, not, ◌&&◌, cond}
use mathlib.Core.List.{List, [], ◌∷◌}
use mathlib.Core.Option.{Option, none, some}
use Prim.Native.Nat.{ℕ, zero, suc, pred, ◌≤◌, ◌<◌, zero-le, suc-le-suc}
use native.Mathlib.Nat.{le_refl}
use native.Mathlib.Omega.{arith}
use lib.IntN.{ℤ, pos, negsuc}
use lib.Dec.{T, eqb, eqb→eq, eqb_refl, eqb-suc-zero, eqb-zero-suc, eqb-suc-suc}
use lib.ListN.{length, get_or}
use lib.Ieee.{Float}
use Rattle.channels.specs.Lists.{Each, member, Pairwise}
use Rattle.plans.specs.declared.aot.GroupBy.{GroupBy}
use Rattle.plans.specs.PlanLine.{PlanLine, group, same, of_group, joins, keys}
use Rattle.plans.specs.Walk.{latest, accepts, takes, next, taken_keys, deferred_keys, channels, number_of}
use Rattle.plans.specs.Placing.{Joined}
use Rattle.channels.proofs.Lists.Laws.{tested, passed, failed, true→T, not_false, Each-map, Each-all, own_image, filter_no, filter_same, filter_filter}
use Rattle.plans.proofs.Walk.Joins.{joins_mono}
use Rattle.plans.proofs.Lines.Rising.{not_member_of_others}
use Rattle.plans.specs.PlanOrder.{UpTo, Sorted, Other}
use lib.Ieee.Bits.{is_true}

-- ---- groups
pub same_eq : (a b : ℤ) → T (same a b) → a ≡ b
same_eq (pos a) (pos b) t = ap pos (eqb→eq a b t)
same_eq (pos a) (negsuc b) t = absurd t
same_eq (negsuc a) (pos b) t = absurd t
same_eq (negsuc a) (negsuc b) t = ap negsuc (eqb→eq a b t)

pub same_refl : (a : ℤ) → T (same a a)
same_refl (pos a) = eqb_refl a
same_refl (negsuc a) = eqb_refl a

pub own_group : (by : GroupBy) (x : PlanLine) → of_group by (group by x.note) x ≡ true
unfolding of_group
own_group by x = is_true (same (group by x.note) (group by x.note)) (same_refl (group by x.note))

-- a line is of one group
pub of_group_is : (by : GroupBy) (g : ℤ) (x : PlanLine) → of_group by g x ≡ true → group by x.note ≡ g
unfolding of_group
of_group_is by g x e = same_eq (group by x.note) g (true→T e)

-- ---- runs

abbrev pub gap : Option Float → Float → Bool
gap none d = true
gap (some before) d = not (joins before d)

-- how many runs begin in the list, where the detuning before it is o
abbrev pub runs : Option Float → List PlanLine → ℕ
runs o [] = 0
runs o (x ∷ l) = let r = runs (some x.detuning) l in cond (gap o x.detuning) (suc r) r

-- what is beyond a gap does not join what is before it
pub joins_not_beyond : (z x : PlanLine) → UpTo z x → joins z.detuning x.detuning ≡ false → (y : PlanLine) → UpTo x y → joins z.detuning y.detuning ≡ false
joins_not_beyond z x h j y k = elim (tested (joins z.detuning y.detuning)) [
  | passed i ↦ absurd (not_false j (joins_mono z.detuning x.detuning y.detuning h.first h.second k.second h.ordered k.ordered (true→T i)))
  | failed i ↦ i
]

-- each detuning is accepted after the one before it, the first after o
abbrev pub StepsFrom : Option Float → List PlanLine → Type 0
StepsFrom o [] = Unit {0}
StepsFrom o (x ∷ l) = T (accepts o x.detuning) × StepsFrom (some x.detuning) l

pub steps_joined : (o : Option Float) (l : List PlanLine) → StepsFrom o l → Joined l
unfolding accepts
steps_joined o [] h = tt
steps_joined o (x ∷ []) h = tt
steps_joined o (x ∷ y ∷ l) h = (h.1.0, steps_joined (some x.detuning) (y ∷ l) h.1)

-- ---- a key's number among the channels t ∷ ts: 0 if t has the key, otherwise one more than among ts
suc_is_zero : (m : Bool) (k : ℕ) → eqb (cond m 0 (suc k)) 0 ≡ m
suc_is_zero true k = refl
suc_is_zero false k = eqb-suc-zero k

suc_is_suc : (m : Bool) (k c : ℕ) → eqb (cond m 0 (suc k)) (suc c) ≡ (not m && eqb k c)
suc_is_suc true k c = eqb-zero-suc c
suc_is_suc false k c = eqb-suc-suc k c

module _ (t : List PlanLine) (ts : List (List PlanLine)) (w : List PlanLine) where
  number_zero : filter (λ (l : PlanLine). eqb (number_of l.key (t ∷ ts)) 0) w ≡ filter (λ (l : PlanLine). member l.key (keys t)) w
  unfolding number_of
  number_zero =
      filter_same (λ (l : PlanLine). eqb (number_of l.key (t ∷ ts)) 0) (λ (l : PlanLine). member l.key (keys t)) w
      (Each-all (λ (l : PlanLine). eqb (number_of l.key (t ∷ ts)) 0 ≡ member l.key (keys t)) (λ l. suc_is_zero (member l.key (keys t)) (number_of l.key ts)) w)

  number_suc : (c : ℕ) → filter (λ (l : PlanLine). eqb (number_of l.key (t ∷ ts)) (suc c)) w
      ≡ filter (λ (l : PlanLine). eqb (number_of l.key ts) c) (filter (λ (l : PlanLine). not (member l.key (keys t))) w)
  unfolding number_of
  number_suc c =
      filter_same (λ (l : PlanLine). eqb (number_of l.key (t ∷ ts)) (suc c)) (λ (l : PlanLine). not (member l.key (keys t)) && eqb (number_of l.key ts) c) w
      (Each-all (λ (l : PlanLine). eqb (number_of l.key (t ∷ ts)) (suc c) ≡ (not (member l.key (keys t)) && eqb (number_of l.key ts) c))
      (λ l. suc_is_suc (member l.key (keys t)) (number_of l.key ts) c) w)
      ∙ sym (filter_filter (λ (l : PlanLine). not (member l.key (keys t))) (λ (l : PlanLine). eqb (number_of l.key ts) c) w)

number_has : (t : List PlanLine) (ts : List (List PlanLine)) (k : ℕ) → T (member k (keys t)) → number_of k (t ∷ ts) < suc (length ts)
unfolding number_of
number_has t ts k h = rw (is_true (member k (keys t)) h) (suc-le-suc zero-le)

number_grows : (t : List PlanLine) (ts : List (List PlanLine)) (k : ℕ) → number_of k ts < length ts → number_of k (t ∷ ts) < suc (length ts)
unfolding number_of
number_grows t ts k h = elim (tested (member k (keys t))) [ passed e ↦ rw e (omega arith) | failed e ↦ rw e (omega arith) ]

module _ (by : GroupBy) where
  -- ---- one key
  module _ (g : ℤ) (taken : List PlanLine) (x : PlanLine) where
    pub takes_is : of_group by g x ≡ true → takes by taken x ≡ accepts (latest by g taken) x.detuning
    unfolding takes of_group
    takes_is e = ap (λ (h : ℤ). accepts (latest by h taken) x.detuning) (same_eq (group by x.note) g (true→T e))

    pub latest_other : of_group by g x ≡ false → latest by g (next by taken x) ≡ latest by g taken
    unfolding next latest
    latest_other e = elim (tested (takes by taken x)) [ passed u ↦ rw (u, e) | failed u ↦ rw u ]

    pub latest_taken : of_group by g x ≡ true → takes by taken x ≡ true → latest by g (next by taken x) ≡ some x.detuning
    unfolding next latest
    latest_taken e u = rw (u, e)

    pub latest_left : takes by taken x ≡ false → latest by g (next by taken x) ≡ latest by g taken
    unfolding next
    latest_left u = rw u

  pub taken_yes : (taken : List PlanLine) (x : PlanLine) (w : List PlanLine) → takes by taken x ≡ true
      → taken_keys by taken (x ∷ w) ≡ x ∷ taken_keys by (next by taken x) w
  unfolding taken_keys
  taken_yes taken x w e = rw e

  pub taken_no : (taken : List PlanLine) (x : PlanLine) (w : List PlanLine) → takes by taken x ≡ false
      → taken_keys by taken (x ∷ w) ≡ taken_keys by (next by taken x) w
  unfolding taken_keys
  taken_no taken x w e = rw e

  pub deferred_yes : (taken : List PlanLine) (x : PlanLine) (w : List PlanLine) → takes by taken x ≡ true
      → deferred_keys by taken (x ∷ w) ≡ deferred_keys by (next by taken x) w
  unfolding deferred_keys
  deferred_yes taken x w e = rw e

  pub deferred_no : (taken : List PlanLine) (x : PlanLine) (w : List PlanLine) → takes by taken x ≡ false
      → deferred_keys by taken (x ∷ w) ≡ x ∷ deferred_keys by (next by taken x) w
  unfolding deferred_keys
  deferred_no taken x w e = rw e

  pub first_taken : (x : PlanLine) → takes by [] x ≡ true
  unfolding takes latest accepts
  first_taken x = refl

  -- ---- what is left of a group
  module _ (g : ℤ) where
    pub deferred_other : (taken : List PlanLine) (x : PlanLine) (w : List PlanLine) → of_group by g x ≡ false
        → filter (of_group by g) (deferred_keys by taken (x ∷ w)) ≡ filter (of_group by g) (deferred_keys by (next by taken x) w)
    deferred_other taken x w e = elim (tested (takes by taken x)) [
      | passed u ↦ rw (deferred_yes taken x w u)
      | failed u ↦ rw (deferred_no taken x w u, e)
    ]

    -- none of the group joins: all are left
    pub all_deferred : (a : Float) (taken w : List PlanLine) → latest by g taken ≡ some a → Each (λ (y : PlanLine). joins a y.detuning ≡ false) w
        → filter (of_group by g) (deferred_keys by taken w) ≡ filter (of_group by g) w
    unfolding deferred_keys accepts
    all_deferred a taken [] l h = refl
    all_deferred a taken (x ∷ w) l h = elim (tested (of_group by g x)) [
      | passed e ↦
          let u : takes by taken x ≡ false = takes_is g taken x e ∙ ap (λ (o : Option Float). accepts o x.detuning) l ∙ h.0 in
          let r = all_deferred a (next by taken x) w (latest_left g taken x u ∙ l) h.1 in
          rw (u, e, r)
      | failed e ↦ deferred_other taken x w e ∙ all_deferred a (next by taken x) w (latest_other g taken x e ∙ l) h.1 ∙ sym (filter_no (of_group by g) x w e)
    ]

    -- after z of the group: what is left are the runs that begin later
    runs_after : (z : PlanLine) (taken w : List PlanLine) → latest by g taken ≡ some z.detuning → Each (UpTo z) w → Sorted w
        → runs (some z.detuning) (filter (of_group by g) w) ≡ runs none (filter (of_group by g) (deferred_keys by taken w))
    unfolding deferred_keys accepts
    runs_after z taken [] l h s = refl
    runs_after z taken (x ∷ w) l h s = elim (tested (of_group by g x)) [
      | passed e ↦
          let t : takes by taken x ≡ joins z.detuning x.detuning = takes_is g taken x e ∙ ap (λ (o : Option Float). accepts o x.detuning) l in
          elim (tested (joins z.detuning x.detuning)) [
            | passed j ↦
                let u : takes by taken x ≡ true = t ∙ j in
                rw (u, e, j) (runs_after x (next by taken x) w (latest_taken g taken x e u) s.0 s.1)
            | failed j ↦
                let u : takes by taken x ≡ false = t ∙ j in
                let r = all_deferred z.detuning (next by taken x) w (latest_left g taken x u ∙ l) (Each-map (joins_not_beyond z x h.0 j) w s.0) in
                rw (u, e, j, r)
          ]
      | failed e ↦ rw (filter_no (of_group by g) x w e, deferred_other taken x w e) (runs_after z (next by taken x) w (latest_other g taken x e ∙ l) h.1 s.1)
    ]

    -- before any of the group: one run is taken off
    runs_off : (taken w : List PlanLine) → latest by g taken ≡ none → Sorted w
        → runs none (filter (of_group by g) (deferred_keys by taken w)) ≡ pred (runs none (filter (of_group by g) w))
    unfolding deferred_keys accepts
    runs_off taken [] l s = omega arith
    runs_off taken (x ∷ w) l s = elim (tested (of_group by g x)) [
      | passed e ↦
          let u : takes by taken x ≡ true = takes_is g taken x e ∙ ap (λ (o : Option Float). accepts o x.detuning) l in
          let r = runs_after x (next by taken x) w (latest_taken g taken x e u) s.0 s.1 in
          rw (u, e) (omega (arith, r))
      | failed e ↦ rw (filter_no (of_group by g) x w e, deferred_other taken x w e) (runs_off (next by taken x) w (latest_other g taken x e ∙ l) s.1)
    ]

    -- the group's keys that a channel takes follow each other
    steps_here : (o : Option Float) (taken w : List PlanLine) → latest by g taken ≡ o → StepsFrom o (filter (of_group by g) (taken_keys by taken w))
    unfolding taken_keys
    steps_here o taken [] l = tt
    steps_here o taken (x ∷ w) l = elim (tested (of_group by g x)) [
      | passed e ↦ elim (tested (takes by taken x)) [
        | passed u ↦ rw (u, e) (
          subst (λ (p : Option Float). T (accepts p x.detuning)) l (subst (λ (b : Bool). T b) (takes_is g taken x e) (true→T u)),
          steps_here (some x.detuning) (next by taken x) w (latest_taken g taken x e u),
        )
        | failed u ↦ rw u (steps_here o (next by taken x) w (latest_left g taken x u ∙ l))
      ]
      | failed e ↦ elim (tested (takes by taken x)) [
        | passed u ↦ rw (u, e) (steps_here o (next by taken x) w (latest_other g taken x e ∙ l))
        | failed u ↦ rw u (steps_here o (next by taken x) w (latest_other g taken x e ∙ l))
      ]
    ]

  -- ---- the keys that one walk parts
  pub Each-taken : (P : PlanLine → Type 0) (taken w : List PlanLine) → Each P w → Each P (taken_keys by taken w)
  unfolding taken_keys
  Each-taken P taken [] h = tt
  Each-taken P taken (x ∷ w) h = elim (tested (takes by taken x)) [
    | passed u ↦ rw u (h.0, Each-taken P (next by taken x) w h.1)
    | failed u ↦ rw u (Each-taken P (next by taken x) w h.1)
  ]

  pub Each-deferred : (P : PlanLine → Type 0) (taken w : List PlanLine) → Each P w → Each P (deferred_keys by taken w)
  unfolding deferred_keys
  Each-deferred P taken [] h = tt
  Each-deferred P taken (x ∷ w) h = elim (tested (takes by taken x)) [
    | passed u ↦ rw u (Each-deferred P (next by taken x) w h.1)
    | failed u ↦ rw u (h.0, Each-deferred P (next by taken x) w h.1)
  ]

  pub both_Each : (P : PlanLine → Type 0) (taken w : List PlanLine) → Each P (taken_keys by taken w) → Each P (deferred_keys by taken w) → Each P w
  unfolding taken_keys deferred_keys
  both_Each P taken [] h k = tt
  both_Each P taken (x ∷ w) h k = elim (tested (takes by taken x)) [
    | passed u ↦
        let i : P x × Each P (taken_keys by (next by taken x) w) = rw u at h in
        (i.0, both_Each P (next by taken x) w i.1 (rw u at k))
    | failed u ↦
        let i : P x × Each P (deferred_keys by (next by taken x) w) = rw u at k in
        (i.0, both_Each P (next by taken x) w (rw u at h) i.1)
  ]

  pub Pairwise-deferred : (R : PlanLine → PlanLine → Type 0) (taken w : List PlanLine) → Pairwise R w → Pairwise R (deferred_keys by taken w)
  unfolding deferred_keys
  Pairwise-deferred R taken [] h = tt
  Pairwise-deferred R taken (x ∷ w) h = elim (tested (takes by taken x)) [
    | passed u ↦ rw u (Pairwise-deferred R (next by taken x) w h.1)
    | failed u ↦ rw u (Each-deferred (R x) (next by taken x) w h.0, Pairwise-deferred R (next by taken x) w h.1)
  ]

  pub length_deferred : (taken w : List PlanLine) → length (deferred_keys by taken w) ≤ length w
  unfolding deferred_keys
  length_deferred taken [] = le_refl 0
  length_deferred taken (x ∷ w) =
      let r = length_deferred (next by taken x) w in
      elim (tested (takes by taken x)) [ passed u ↦ rw u (omega arith) | failed u ↦ rw u (omega arith) ]

  -- those whose key the channel has, and the others
  pub taken_is : (taken w : List PlanLine) → Pairwise Other w → filter (λ (l : PlanLine). member l.key (keys (taken_keys by taken w))) w ≡ taken_keys by taken w
  taken_is taken [] a = unfold taken_keys in refl
  taken_is taken (x ∷ w) a =
      let t = taken_keys by (next by taken x) w in
      let r = taken_is (next by taken x) w a.1 in
      let P : List PlanLine → Type 0 = λ m. filter (λ (l : PlanLine). member l.key (keys m)) (x ∷ w) ≡ m in
      elim (tested (takes by taken x)) [
        | passed u ↦
            subst P (sym (taken_yes taken x w u))
            (rw (
              is_true (eqb x.key x.key) (eqb_refl x.key),
              filter_same (λ (l : PlanLine). member l.key (keys (x ∷ t))) (λ (l : PlanLine). member l.key (keys t)) w (Each-map (λ y d. rw d) w a.0),
              r,
            ))
        | failed u ↦ subst P (sym (taken_no taken x w u)) (rw (not_member_of_others x t (Each-taken (Other x) (next by taken x) w a.0), r))
      ]

  pub deferred_is : (taken w : List PlanLine) → Pairwise Other w
      → filter (λ (l : PlanLine). not (member l.key (keys (taken_keys by taken w)))) w ≡ deferred_keys by taken w
  deferred_is taken [] a = unfold taken_keys deferred_keys in refl
  deferred_is taken (x ∷ w) a =
      let t = taken_keys by (next by taken x) w in
      let r = deferred_is (next by taken x) w a.1 in
      let P : List PlanLine → Type 0 = λ m. filter (λ (l : PlanLine). not (member l.key (keys m))) (x ∷ w) ≡ deferred_keys by taken (x ∷ w) in
      elim (tested (takes by taken x)) [
        | passed u ↦
            subst P (sym (taken_yes taken x w u))
            (rw (
              deferred_yes taken x w u,
              is_true (eqb x.key x.key) (eqb_refl x.key),
              filter_same (λ (l : PlanLine). not (member l.key (keys (x ∷ t)))) (λ (l : PlanLine). not (member l.key (keys t))) w
                  (Each-map (λ y d. rw d) w a.0),
              r,
            ))
        | failed u ↦
            subst P (sym (taken_no taken x w u)) (rw (deferred_no taken x w u, not_member_of_others x t (Each-taken (Other x) (next by taken x) w a.0), r))
      ]

  -- a channel takes the first key that waits, so fewer are left
  pub deferred_fewer : (n : ℕ) (x : PlanLine) (w : List PlanLine) → suc (length w) ≤ suc n → length (deferred_keys by [] (x ∷ w)) ≤ n
  deferred_fewer n x w h = rw (deferred_yes [] x w (first_taken x)) (omega (arith, length_deferred (next by [] x) w))

  -- ---- the walk over the channels

  -- some group has as many runs as the walk has channels
  pub channels_least : (n : ℕ) (w : List PlanLine) → Sorted w → 0 < length (channels by n w)
      → (g : ℤ) × (length (channels by n w) ≤ runs none (filter (of_group by g) w))
  unfolding channels
  channels_least zero w s h = absurd (let z : ⊥ = omega arith in z)
  channels_least (suc n) [] s h = absurd (let z : ⊥ = omega arith in z)
  channels_least (suc n) (x ∷ w) s h =
      let rest = channels by n (deferred_keys by [] (x ∷ w)) in
      go (length rest) refl (channels_least n (deferred_keys by [] (x ∷ w)) (Pairwise-deferred UpTo [] (x ∷ w) s))
    where
      go : (m : ℕ) → length (channels by n (deferred_keys by [] (x ∷ w))) ≡ m
          → (0 < length (channels by n (deferred_keys by [] (x ∷ w)))
          → (g : ℤ) × (length (channels by n (deferred_keys by [] (x ∷ w))) ≤ runs none (filter (of_group by g) (deferred_keys by [] (x ∷ w)))))
          → (g : ℤ) × (suc (length (channels by n (deferred_keys by [] (x ∷ w)))) ≤ runs none (filter (of_group by g) (x ∷ w)))
      go zero e f = (group by x.note, rw (e, own_group by x) (suc-le-suc zero-le))
      go (suc m) e f =
          let i = f (omega arith) in
          (i.0, omega (arith, i.1, runs_off i.0 [] (x ∷ w) (unfold latest in refl) s))

  -- within a group, each channel's keys follow each other
  pub channels_steps : (n : ℕ) (w : List PlanLine) (c : ℕ) (g : ℤ) → Joined (filter (of_group by g) (get_or (channels by n w) c []))
  unfolding channels
  channels_steps zero w c g = tt
  channels_steps (suc n) [] c g = tt
  channels_steps (suc n) (x ∷ w) zero g =
      steps_joined none (filter (of_group by g) (taken_keys by [] (x ∷ w))) (steps_here g none [] (x ∷ w) (unfold latest in refl))
  channels_steps (suc n) (x ∷ w) (suc c) g = channels_steps n (deferred_keys by [] (x ∷ w)) c g

  -- each channel has a key
  pub channels_full : (n : ℕ) (w : List PlanLine) (c : ℕ) → c < length (channels by n w)
      → (x : PlanLine) × (l : List PlanLine) × (get_or (channels by n w) c [] ≡ x ∷ l)
  unfolding channels
  channels_full zero w c h = absurd (let z : ⊥ = omega arith in z)
  channels_full (suc n) [] c h = absurd (let z : ⊥ = omega arith in z)
  channels_full (suc n) (x ∷ w) zero h = (x, taken_keys by (next by [] x) w, taken_yes [] x w (first_taken x))
  channels_full (suc n) (x ∷ w) (suc c) h = channels_full n (deferred_keys by [] (x ∷ w)) c (omega arith)

  -- the keys whose number is c are those of channel c
  pub channels_are : (n : ℕ) (w : List PlanLine) (c : ℕ) → length w ≤ n → Pairwise Other w
      → filter (λ (l : PlanLine). eqb (number_of l.key (channels by n w)) c) w ≡ get_or (channels by n w) c []
  unfolding channels
  channels_are zero [] c h a = refl
  channels_are zero (x ∷ w) c h a = absurd (let z : ⊥ = omega arith in z)
  channels_are (suc n) [] c h a = refl
  channels_are (suc n) (x ∷ w) zero h a = number_zero (taken_keys by [] (x ∷ w)) (channels by n (deferred_keys by [] (x ∷ w))) (x ∷ w) ∙ taken_is [] (x ∷ w) a
  channels_are (suc n) (x ∷ w) (suc c) h a =
      number_suc (taken_keys by [] (x ∷ w)) (channels by n (deferred_keys by [] (x ∷ w))) (x ∷ w) c
      ∙ ap (filter (λ (l : PlanLine). eqb (number_of l.key (channels by n (deferred_keys by [] (x ∷ w)))) c)) (deferred_is [] (x ∷ w) a)
      ∙ channels_are n (deferred_keys by [] (x ∷ w)) c (deferred_fewer n x w h) (Pairwise-deferred Other [] (x ∷ w) a)

  -- each key's number is below the count
  pub channels_below : (n : ℕ) (w : List PlanLine) → length w ≤ n → Each (λ (l : PlanLine). number_of l.key (channels by n w) < length (channels by n w)) w
  unfolding channels
  channels_below zero [] h = tt
  channels_below zero (x ∷ w) h = absurd (let z : ⊥ = omega arith in z)
  channels_below (suc n) [] h = tt
  channels_below (suc n) (x ∷ w) h =
      let t = taken_keys by [] (x ∷ w) in
      let ts = channels by n (deferred_keys by [] (x ∷ w)) in
      both_Each (λ (l : PlanLine). number_of l.key (t ∷ ts) < suc (length ts)) [] (x ∷ w)
      (Each-map (λ l k. number_has t ts l.key k) t (own_image (λ (l : PlanLine). l.key) t))
      (Each-map (λ l k. number_grows t ts l.key k) (deferred_keys by [] (x ∷ w)) (channels_below n (deferred_keys by [] (x ∷ w)) (deferred_fewer n x w h)))
