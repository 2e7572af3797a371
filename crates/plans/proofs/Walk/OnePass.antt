-- The walk's channels by one pass over the lines in rising order: for each group it keeps the last detuning and the channel of the key that had it.
-- A key joins that channel, or the next one. This is how code can plan.
use mathlib.Core.Path.{◌≡◌, refl, sym, ap, ◌∙◌, subst}
use mathlib.Core.Logic.{◌⊎◌, inl, inr}
use mathlib.Core.Bool.{true, false, cond}
use mathlib.Core.List.{List, [], ◌∷◌, map}
use mathlib.Core.Option.{Option, none, some}
use Prim.Native.Nat.{ℕ, zero, suc, ◌≤◌, ◌<◌, zero-le}
use native.Mathlib.Omega.{arith}
use lib.IntN.{ℤ}
use lib.Dec.{T, eqb, eqb→eq, eqb_refl}
use lib.ListN.{length}
use lib.Ieee.{Float}
use Rattle.channels.specs.Lists.{Each, member, Pairwise}
use Rattle.plans.specs.declared.aot.GroupBy.{GroupBy}
use Rattle.plans.specs.PlanLine.{PlanLine, group, of_group, joins, rising, keys}
use Rattle.plans.specs.Walk.{latest, accepts, takes, next, taken_keys, deferred_keys, channels, walk, count, number_of, channel}
use Rattle.channels.proofs.Lists.Laws.{tested, passed, failed, true→T, not_false, at_member, own_image, Each-image, map_same, Each-map}
use Rattle.plans.proofs.Lines.Rising.{not_member_of_others}
use Rattle.plans.specs.PlanOrder.{UpTo, Sorted, Other}
use Rattle.plans.proofs.Walk.Sweep.{joins_not_beyond, takes_is, latest_other, latest_taken, latest_left, taken_yes, taken_no, deferred_yes, deferred_no, Each-taken, both_Each, Pairwise-deferred, deferred_fewer}
use Rattle.plans.specs.PlanInternal.{Accepted}
use Rattle.plans.proofs.Planning.Plan.{lines_sorted, lines_different, rising_enough, below_count, channel_used}
use Rattle.plans.specs.OnePass.{Mark, number_after, mark, number_of_next, numbers, top, find}
use lib.Ieee.Bits.{is_true}

-- ---- the pass

-- ---- what a channel leaves, passed over by itself, has the numbers that are one lower

-- the lines of the waiting list w that the group g has on its way do not join a
abbrev Blocked : Float → List PlanLine → Type 0
Blocked a w = Each (λ (y : PlanLine). joins a y.detuning ≡ false) w

-- A group's mark s after all lines, the detuning o of it on the channel, and its mark r after those that the channel left, while w waits.
data Agree (w : List PlanLine) : Option Mark → Option Float → Option Mark → Type 0 where
  unseen : Agree w none none none
  first : (z : PlanLine) → Each (UpTo z) w → Agree w (some (record { last = z.detuning; number = 0 })) (some z.detuning) none
  past : (d a : Float) (c : ℕ) → Blocked a w → Agree w (some (record { last = d; number = suc c })) (some a) (some (record { last = d; number = c }))

number_step : (x : PlanLine) {w : List PlanLine} {s : Option Mark} {o : Option Float} {r : Option Mark} → Agree (x ∷ w) s o r
    → number_after s x.detuning ≡ cond (accepts o x.detuning) 0 (suc (number_after r x.detuning))
unfolding accepts
number_step x unseen = refl
number_step x (first z h) = refl
number_step x (past d a c b) = rw b.0 (elim (tested (joins d x.detuning)) [ passed j ↦ rw j | failed j ↦ rw j ])

agree_other : (x : PlanLine) {w : List PlanLine} {s : Option Mark} {o : Option Float} {r : Option Mark} → Agree (x ∷ w) s o r → Agree w s o r
agree_other x unseen = unseen
agree_other x (first z h) = first z h.1
agree_other x (past d a c b) = past d a c b.1

abbrev taking : Option Mark → Float → Option Mark
taking s d = some (record { last = d; number = number_after s d })

agree_taken : (x : PlanLine) {w : List PlanLine} {s : Option Mark} {o : Option Float} {r : Option Mark} → Agree (x ∷ w) s o r → Each (UpTo x) w
    → accepts o x.detuning ≡ true → Agree w (taking s x.detuning) (some x.detuning) r
unfolding accepts
agree_taken x unseen u e = first x u
agree_taken x (first z h) u e = rw e (first x u)
agree_taken x (past d a c b) u e = absurd (not_false b.0 (true→T e))

agree_left : (x : PlanLine) {w : List PlanLine} {s : Option Mark} {o : Option Float} {r : Option Mark} → Agree (x ∷ w) s o r → Each (UpTo x) w
    → accepts o x.detuning ≡ false → Agree w (taking s x.detuning) o (taking r x.detuning)
unfolding accepts
agree_left x unseen u e = absurd (not_false e tt)
agree_left x {w} (first z h) u e = rw e (past x.detuning z.detuning 0 (Each-map (joins_not_beyond z x h.0 e) w u))
agree_left x {w} (past d a c b) u e = elim (tested (joins d x.detuning)) [
  | passed j ↦ rw j (past x.detuning a c b.1)
  | failed j ↦ rw j (past x.detuning a (suc c) b.1)
]

module _ (by : GroupBy) where
  -- what the channel has left after x
  abbrev leaves : List PlanLine → List PlanLine → PlanLine → List PlanLine
  leaves taken left x = cond (takes by taken x) left (x ∷ left)

  abbrev Agrees : List PlanLine → List PlanLine → List PlanLine → List PlanLine → Type 0
  Agrees w before taken left = (g : ℤ) → Agree w (mark by g before) (latest by g taken) (mark by g left)

  agrees_next : (x : PlanLine) (w before taken left : List PlanLine) → Each (UpTo x) w → Agrees (x ∷ w) before taken left
      → Agrees w (x ∷ before) (next by taken x) (leaves taken left x)
  agrees_next x w before taken left u h g = elim (tested (of_group by g x)) [
    | passed e ↦ elim (tested (takes by taken x)) [
      | passed t ↦ rw (e, t, latest_taken by g taken x e t) (agree_taken x (h g) u (sym (takes_is by g taken x e) ∙ t))
      | failed t ↦ rw (latest_left by g taken x t, t, e) (agree_left x (h g) u (sym (takes_is by g taken x e) ∙ t))
    ]
    | failed e ↦ elim (tested (takes by taken x)) [
      | passed t ↦ rw (latest_other by g taken x e, e, t) (agree_other x (h g))
      | failed t ↦ rw (latest_other by g taken x e, t, e) (agree_other x (h g))
    ]
  ]

  number_is : (x : PlanLine) (w before taken left : List PlanLine) → Agrees (x ∷ w) before taken left
      → number_of_next by before x ≡ cond (takes by taken x) 0 (suc (number_of_next by left x))
  unfolding takes
  number_is x w before taken left h = number_step x (h (group by x.note))

  find_step : (k : ℕ) (w before taken left : List PlanLine) → Sorted w → Pairwise Other w → Agrees w before taken left → T (member k (keys w))
      → find by k before w ≡ cond (member k (keys (taken_keys by taken w))) 0 (suc (find by k left (deferred_keys by taken w)))
  unfolding find
  find_step k [] before taken left s a h m = absurd m
  find_step k (x ∷ w) before taken left s a h m =
      let r = number_is x w before taken left h in
      let n = agrees_next x w before taken left s.0 h in
      elim (tested (eqb x.key k)) [
        | passed e ↦ elim (tested (takes by taken x)) [
          | passed t ↦ rw (taken_yes by taken x w t, e) (r ∙ rw t)
          | failed t ↦
              let z : member k (keys (taken_keys by (next by taken x) w)) ≡ false = subst
              (λ (j : ℕ). member j (keys (taken_keys by (next by taken x) w)) ≡ false)
              (eqb→eq x.key k (true→T e)) (not_member_of_others x (taken_keys by (next by taken x) w) (Each-taken by (Other x) (next by taken x) w a.0)) in
              rw (taken_no by taken x w t, deferred_no by taken x w t, e, z) (r ∙ rw t)
        ]
        | failed e ↦
            let i = find_step k w (x ∷ before) (next by taken x) (leaves taken left x) s.1 a.1 n (rw e at m) in
            elim (tested (takes by taken x)) [
              | passed t ↦ rw (taken_yes by taken x w t, deferred_yes by taken x w t, e) (rw t at i)
              | failed t ↦ rw (taken_no by taken x w t, deferred_no by taken x w t, e) (rw t at i)
            ]
      ]

  -- a key that waits is taken or left
  parted : (k : ℕ) (taken w : List PlanLine) → T (member k (keys w))
      → T (member k (keys (taken_keys by taken w))) ⊎ T (member k (keys (deferred_keys by taken w)))
  parted k taken w m =
      let t = taken_keys by taken w in
      let r = deferred_keys by taken w in
      at_member (λ (j : ℕ). T (member j (keys t)) ⊎ T (member j (keys r))) (keys w)
      (Each-image (λ (j : ℕ). T (member j (keys t)) ⊎ T (member j (keys r))) (λ (l : PlanLine). l.key) w
      (both_Each by (λ (l : PlanLine). T (member l.key (keys t)) ⊎ T (member l.key (keys r))) taken w
      (Each-map (λ l h. inl h) t (own_image (λ (l : PlanLine). l.key) t))
      (Each-map (λ l h. inr h) r (own_image (λ (l : PlanLine). l.key) r))))
      k m

  find_is : (k n : ℕ) (w : List PlanLine) → length w ≤ n → Sorted w → Pairwise Other w → T (member k (keys w)) → find by k [] w ≡ number_of k (channels by n w)
  unfolding channels number_of latest
  find_is k zero [] l s a m = absurd m
  find_is k zero (x ∷ w) l s a m = absurd (let z : ⊥ = omega arith in z)
  find_is k (suc n) [] l s a m = absurd m
  find_is k (suc n) (x ∷ w) l s a m =
      let r = deferred_keys by [] (x ∷ w) in
      let i = find_is k n r (deferred_fewer by n x w l) (Pairwise-deferred by UpTo [] (x ∷ w) s) (Pairwise-deferred by Other [] (x ∷ w) a) in
      find_step k (x ∷ w) [] [] [] s a (λ g. unseen) m
      ∙ elim (parted k [] (x ∷ w) m) [
        | inl h ↦ rw (is_true (member k (keys (taken_keys by [] (x ∷ w)))) h)
        | inr h ↦ rw (i h)
      ]

  numbers_are : (before w : List PlanLine) → Pairwise Other w → numbers by before w ≡ map (λ (l : PlanLine). find by l.key before w) w
  unfolding find
  numbers_are before [] a = refl
  numbers_are before (x ∷ w) a =
      rw (numbers_are (x ∷ before) w a.1, is_true (eqb x.key x.key) (eqb_refl x.key))
      (ap (λ (l : List ℕ). number_of_next by before x ∷ l)
      (map_same (λ (l : PlanLine). find by l.key (x ∷ before) w) (λ (l : PlanLine). find by l.key before (x ∷ w)) w (Each-map (λ y d. rw d) w a.0)))

-- ---- the largest number
top_le : (m : ℕ) (l : List ℕ) → Each (λ (n : ℕ). n < m) l → top l ≤ m
top_le m [] h = zero-le
top_le m (n ∷ l) h = let r = top_le m l h.1 in omega arith

top_ge : (l : List ℕ) → Each (λ (n : ℕ). n < top l) l
top_ge [] = tt
top_ge (n ∷ l) = (omega arith, Each-map (λ j h. let k : j < top l = h in omega arith) l (top_ge l))

module _ (by : GroupBy) (lines : List PlanLine) (ok : Accepted lines) where
  pub find_channel : (k : ℕ) → T (member k (keys (rising lines))) → find by k [] (rising lines) ≡ channel by lines k
  unfolding channel walk
  find_channel k h = find_is by k (length lines) (rising lines) (rising_enough by lines ok) (lines_sorted by lines ok) (lines_different by lines ok) h

  -- The pass gives each key its channel,
  pub one_pass : numbers by [] (rising lines) ≡ map (λ (l : PlanLine). channel by lines l.key) (rising lines)
  unfolding channel walk
  one_pass =
      numbers_are by [] (rising lines) (lines_different by lines ok)
      ∙ map_same (λ (l : PlanLine). find by l.key [] (rising lines)) (λ (l : PlanLine). channel by lines l.key) (rising lines)
      (Each-map (λ l h. find_channel l.key h) (rising lines) (own_image (λ (l : PlanLine). l.key) (rising lines)))

  -- and the count.
  pub one_pass_count : top (numbers by [] (rising lines)) ≡ count by lines
  one_pass_count =
      let c = map (λ (l : PlanLine). channel by lines l.key) (rising lines) in
      rw one_pass (eq (top c) (count by lines)
      (top_le (count by lines) c (Each-image (λ (n : ℕ). n < count by lines) (λ (l : PlanLine). channel by lines l.key) (rising lines)
      (below_count by lines ok)))
      (λ m h. at_member (λ (n : ℕ). n < top c) c (top_ge c) m (channel_used by lines ok m h)))
    where
      eq : (t n : ℕ) → t ≤ n → ((m : ℕ) → m < n → m < t) → t ≡ n
      eq t zero h f = omega arith
      eq t (suc n) h f = omega (arith, f n (omega arith))
