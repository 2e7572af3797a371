-- A key put in at its place: where the place is among keys in order.
use Rattle.std.proofs.Common.{◌≡◌, ℕ, zero, suc, ◌<◌, ◌≤◌, Bool, true, false, List, [], ◌∷◌, length, get_or, ap, arith}
use Rattle.std.proofs.lemmas.List.{get_or_default}
use Rattle.std.specs.List.Sorted.{IsPartitionedBy, IsPartitionPoint}
use lib.Dec.{T}
use lib.Ieee.{Float, nan, le}
use lib.Ieee.Positive.{positive, le_trans_positive}
use Rattle.channels.specs.Lists.{Each}
use Rattle.plans.specs.PlanInternal.{Rises, before}
use Rattle.channels.proofs.Lists.Laws.{tested, passed, failed, true→T, at_from_Each}
use lib.Ieee.Bits.{is_true}
use Rattle.arithmetic.proofs.Numbers.Floats.{le_refl_positive}

-- ---- the place

pub before_fits : (ds : List Float) (d : Float) (l : List ℕ) → before ds d l ≤ length l
unfolding before
before_fits ds d [] = omega arith
before_fits ds d (k ∷ l) = elim (tested (le (get_or ds k nan) d)) [
  | passed e ↦ rw e (omega (arith, before_fits ds d l))
  | failed e ↦ rw e (omega arith)
]

module _ (ds : List Float) (d : Float) where
  -- whether a key comes before the detuning
  abbrev pub comes_before : ℕ → Bool
  comes_before k = le (get_or ds k nan) d

  -- where the keys that come before it end
  before_here : (l : List ℕ) (i : ℕ) → i ≤ length l → ((k : ℕ) → k < i → comes_before (get_or l k 0) ≡ true)
      → (i < length l → comes_before (get_or l i 0) ≡ false) → i ≡ before ds d l
  unfolding before
  before_here [] i h lower at = omega arith
  before_here (x ∷ l) zero h lower at = let e : le (get_or ds x nan) d ≡ false = at (omega arith) in rw e
  before_here (x ∷ l) (suc i) h lower at =
      let e : le (get_or ds x nan) d ≡ true = lower 0 (omega arith) in
      rw e (ap suc (before_here l i (omega arith) (λ k p. lower (suc k) (omega arith)) (λ p. at (omega arith))))

  -- what `partition_point` answers
  pub place_is : (l : List ℕ) (i : ℕ) → i ≤ length l → IsPartitionPoint (λ (k : ℕ). comes_before k ≡ true) (λ (k : ℕ). comes_before k ≡ false) l i
      → i ≡ before ds d l
  place_is l i h p = before_here l i h (λ k u. p.0 k 0 (omega arith) u) (λ u. p.1 i 0 (omega arith) u)

  rises_positive : (l : List ℕ) → Rises ds l → Each (λ (k : ℕ). T (positive (get_or ds k nan))) l
  rises_positive [] r = tt
  rises_positive (k ∷ l) r = (r.0, rises_positive l r.2)

  rises_up : (l : List ℕ) → Rises ds l → (i j : ℕ) → i ≤ j → j < length l → T (le (get_or ds (get_or l i 0) nan) (get_or ds (get_or l j 0) nan))
  rises_up [] r i j h k = absurd (let z : ⊥ = omega arith in z)
  rises_up (x ∷ l) r zero zero h k = le_refl_positive (get_or ds x nan) r.0
  rises_up (x ∷ l) r zero (suc j) h k = at_from_Each (λ (y : ℕ). T (le (get_or ds x nan) (get_or ds y nan))) l 0 r.1 j (omega arith)
  rises_up (x ∷ l) r (suc i) zero h k = absurd (let z : ⊥ = omega arith in z)
  rises_up (x ∷ l) r (suc i) (suc j) h k = rises_up l r.2 i j (omega arith) (omega arith)

  -- A detuning separates keys in order.
  pub before_partitions : (l : List ℕ) → Rises ds l → T (positive d) → IsPartitionedBy comes_before l
  before_partitions l r p i j x h k e =
      let y = get_or ds (get_or l i 0) nan in
      let z = get_or ds (get_or l j 0) nan in
      let each = rises_positive l r in
      let py : T (positive y) = at_from_Each (λ (i : ℕ). T (positive (get_or ds i nan))) l 0 each i (omega arith) in
      let pz : T (positive z) = at_from_Each (λ (i : ℕ). T (positive (get_or ds i nan))) l 0 each j k in
      rw (get_or_default l i x 0 (omega arith))
      (is_true (le y d) (le_trans_positive y z d py pz p (rises_up l r i j h k) (true→T (rw (get_or_default l j x 0 k) at e))))
