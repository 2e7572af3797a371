-- Where the walk assigns a key: a key of the list to its channel, with its note, and no other key anywhere.
use mathlib.Core.Path.{◌≡◌, refl, ap, ◌∙◌}
use mathlib.Core.Bool.{true, false, not}
use mathlib.Core.List.{List, [], ◌∷◌}
use mathlib.Core.Option.{none, some}
use Prim.Native.Nat.{ℕ, zero, suc, ◌+◌, ◌≤◌}
use native.Mathlib.Nat.{add-zero, zero-add}
use native.Mathlib.Omega.{arith}
use lib.Dec.{T, eqb, eqb_refl}
use lib.ListN.{length}
use Rattle.plans.specs.declared.aot.GroupBy.{GroupBy}
use Rattle.channels.specs.Lists.{Each, member, Pairwise}
use Rattle.plans.specs.PlanLine.{PlanLine, rising, keys}
use Rattle.plans.specs.Walk.{taken_keys, deferred_keys, channels, walk, note_of, assignment_from, assignment, number_of, channel}
use Rattle.plans.specs.Placing.{Found}
use Rattle.channels.proofs.Lists.Laws.{T→false, true→T, Each-map, Each-zip, Pairwise-filter, own_image, Each-filter_passes}
use Rattle.plans.proofs.Lines.Rising.{Each-rising, others_of_key, rising_Each}
use Rattle.plans.specs.PlanOrder.{Other}
use Rattle.plans.proofs.Walk.Sweep.{taken_is, deferred_is, deferred_fewer, both_Each, Each-taken, Each-deferred, Pairwise-deferred}
use Rattle.plans.specs.PlanInternal.{Accepted}
use Rattle.plans.proofs.Planning.Plan.{lines_different, rising_enough}
use lib.Ieee.Bits.{is_true}

-- ---- in one list

own_note : (t : List PlanLine) → Pairwise Other t → Each (λ (l : PlanLine). note_of l.key t ≡ some l.note) t
unfolding note_of
own_note [] a = tt
own_note (x ∷ t) a = (
  rw (is_true (eqb x.key x.key) (eqb_refl x.key)),
  Each-zip (λ l o h. rw o h) t a.0 (own_note t a.1),
)

no_note : (k : ℕ) (t : List PlanLine) → Each (λ (l : PlanLine). eqb l.key k ≡ false) t → note_of k t ≡ none
unfolding note_of
no_note k [] h = refl
no_note k (x ∷ t) h = rw h.0 (no_note k t h.1)

-- ---- on the channels
module _ (by : GroupBy) where
  pub Pairwise-taken : (taken w : List PlanLine) → Pairwise Other w → Pairwise Other (taken_keys by taken w)
  Pairwise-taken taken w a =
      rw (taken_is by taken w a) at (Pairwise-filter Other (λ (l : PlanLine). member l.key (keys (taken_keys by taken w))) w a)

  pub deferred_absent : (taken w : List PlanLine) → Pairwise Other w
      → Each (λ (l : PlanLine). not (member l.key (keys (taken_keys by taken w))) ≡ true) (deferred_keys by taken w)
  deferred_absent taken w a =
      rw (deferred_is by taken w a) at (Each-filter_passes (λ (l : PlanLine). not (member l.key (keys (taken_keys by taken w)))) w)

  -- each key of the waiting list has its channel and its note
  pub assignments_from : (n c : ℕ) (w : List PlanLine) → length w ≤ n → Pairwise Other w
      → Each (λ (l : PlanLine). assignment_from l.key c (channels by n w) ≡ some (c + number_of l.key (channels by n w), l.note)) w
  unfolding channels assignment_from number_of
  assignments_from zero c [] h a = tt
  assignments_from zero c (x ∷ w) h a = absurd (let z : ⊥ = omega arith in z)
  assignments_from (suc n) c [] h a = tt
  assignments_from (suc n) c (x ∷ w) h a =
      let t = taken_keys by [] (x ∷ w) in
      let u = deferred_keys by [] (x ∷ w) in
      let ts = channels by n u in
      both_Each by (λ (l : PlanLine). assignment_from l.key c (t ∷ ts) ≡ some (c + number_of l.key (t ∷ ts), l.note)) [] (x ∷ w)
      (Each-zip taken t (own_image (λ (l : PlanLine). l.key) t) (own_note t (Pairwise-taken [] (x ∷ w) a)))
      (Each-zip left u (deferred_absent [] (x ∷ w) a) (assignments_from n (suc c) u (deferred_fewer by n x w h) (Pairwise-deferred by Other [] (x ∷ w) a)))
    where
      taken : (l : PlanLine) → T (member l.key (keys (taken_keys by [] (x ∷ w)))) → note_of l.key (taken_keys by [] (x ∷ w)) ≡ some l.note
          → assignment_from l.key c (taken_keys by [] (x ∷ w) ∷ channels by n (deferred_keys by [] (x ∷ w)))
          ≡ some (c + number_of l.key (taken_keys by [] (x ∷ w) ∷ channels by n (deferred_keys by [] (x ∷ w))), l.note)
      taken l m e = rw (e, is_true (member l.key (keys (taken_keys by [] (x ∷ w)))) m, add-zero c)

      left : (l : PlanLine) → not (member l.key (keys (taken_keys by [] (x ∷ w)))) ≡ true
          → assignment_from l.key (suc c) (channels by n (deferred_keys by [] (x ∷ w)))
          ≡ some (suc c + number_of l.key (channels by n (deferred_keys by [] (x ∷ w))), l.note)
          → assignment_from l.key c (taken_keys by [] (x ∷ w) ∷ channels by n (deferred_keys by [] (x ∷ w)))
          ≡ some (c + number_of l.key (taken_keys by [] (x ∷ w) ∷ channels by n (deferred_keys by [] (x ∷ w))), l.note)
      left l m e =
          let t = taken_keys by [] (x ∷ w) in
          let ts = channels by n (deferred_keys by [] (x ∷ w)) in
          let f = T→false (member l.key (keys t)) (true→T m) in
          let s : suc c + number_of l.key ts ≡ c + suc (number_of l.key ts) = omega arith in
          rw (no_note l.key t (others_of_key l.key t f), f) (e ∙ ap (λ (n : ℕ). some (n, l.note)) s)

  -- and a key that does not wait has none
  pub no_assignment_from : (k n c : ℕ) (w : List PlanLine) → Each (λ (l : PlanLine). eqb l.key k ≡ false) w → assignment_from k c (channels by n w) ≡ none
  unfolding channels assignment_from
  no_assignment_from k zero c w h = refl
  no_assignment_from k (suc n) c [] h = refl
  no_assignment_from k (suc n) c (x ∷ w) h =
      rw (no_note k (taken_keys by [] (x ∷ w)) (Each-taken by (λ (l : PlanLine). eqb l.key k ≡ false) [] (x ∷ w) h))
      (no_assignment_from k n (suc c) (deferred_keys by [] (x ∷ w)) (Each-deferred by (λ (l : PlanLine). eqb l.key k ≡ false) [] (x ∷ w) h))

-- ---- in a plan
module _ (by : GroupBy) (lines : List PlanLine) (ok : Accepted lines) where
  -- each key of the list is found on the walk's channel, with its note
  pub lines_assigned : Found (assignment by lines) lines (channel by lines)
  unfolding assignment walk channel
  lines_assigned =
      rising_Each (λ (l : PlanLine). assignment_from l.key 0 (channels by (length lines) (rising lines)) ≡ some
      (number_of l.key (channels by (length lines) (rising lines)), l.note)) lines
      (Each-map (λ l e. e ∙ ap (λ (n : ℕ). some (n, l.note)) (zero-add (number_of l.key (channels by (length lines) (rising lines))))) (rising lines)
      (assignments_from by (length lines) 0 (rising lines) (rising_enough by lines ok) (lines_different by lines ok)))

  pub no_line_unassigned : (k : ℕ) → Each (λ (l : PlanLine). eqb l.key k ≡ false) lines → assignment by lines k ≡ none
  unfolding assignment walk
  no_line_unassigned k h = no_assignment_from by k (length lines) 0 (rising lines) (Each-rising (λ (l : PlanLine). eqb l.key k ≡ false) lines h)
