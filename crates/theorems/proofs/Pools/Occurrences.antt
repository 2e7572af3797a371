-- How often a number stands in a list. A count, a length and a count of the keys on a channel are each a sum over the list, so their laws are stated
-- once, for any sum.
use Prim.Native.Nat.{ℕ, zero, suc, ◌+◌, ◌<◌, ◌≤◌}
use mathlib.Core.Path.{◌≡◌, refl, sym, ap, ◌∙◌}
use mathlib.Core.Bool.{Bool, true, false, cond, ◌||◌, false≢true}
use mathlib.Core.List.{List, [], ◌∷◌, ◌++◌}
use mathlib.Core.Logic.{◌≢◌}
use native.Mathlib.Omega.{arith}
use lib.ListN.{length}
use lib.Dec.{eqb}
use borrow.Author.Tests.{eqb-true, eqb-false, eq-eqb, ne_eqb}
use Rattle.channels.specs.Lists.{member, upward, without}
use Rattle.theorems.specs.PoolCalls.{times}

-- ---- one number

pub times_none : (n : ℕ) → times n [] ≡ 0
unfolding times
times_none n = refl

pub times_cons : (n x : ℕ) (l : List ℕ) → times n (x ∷ l) ≡ times n (x ∷ []) + times n l
unfolding times
times_cons n x l = go (eqb x n)
  where
    go : (b : Bool) → cond b (suc (times n l)) (times n l) ≡ cond b 1 0 + times n l
    go true = omega arith
    go false = omega arith

pub times_same : (x : ℕ) → times x (x ∷ []) ≡ 1
unfolding times
times_same x = rw (eq-eqb x x refl)

pub times_eq : (n x : ℕ) → x ≡ n → times n (x ∷ []) ≡ 1
times_eq n x e = ap (λ (k : ℕ). times k (x ∷ [])) (sym e) ∙ times_same x

pub times_other : (n x : ℕ) → x ≢ n → times n (x ∷ []) ≡ 0
unfolding times
times_other n x h = rw (ne_eqb x n h)

-- Two numbers are equal or not.
pub either : (n x : ℕ) {P : Type 0} → (x ≡ n → P) → (x ≢ n → P) → P
either n x {P} f g = go (eqb x n) refl
  where
    go : (b : Bool) → eqb x n ≡ b → P
    go true e = f (eqb-true x n e)
    go false e = g (eqb-false x n e)

pub times_one : (n x : ℕ) → times n (x ∷ []) ≤ 1
times_one n x = either n x (λ e. omega (arith, times_eq n x e)) (λ h. omega (arith, times_other n x h))

-- ---- a number that is in a list, or is not

pub member_times : (l : List ℕ) (x : ℕ) → member x l ≡ true → 0 < times x l
unfolding times
member_times [] x h = absurd (false≢true h)
member_times (y ∷ l) x h = go (eqb y x) h (member_times l x)
  where
    go : (b : Bool) → (b || member x l) ≡ true → (member x l ≡ true → 0 < times x l) → 0 < cond b (suc (times x l)) (times x l)
    go true e ih = omega arith
    go false e ih = ih e

pub member_not : (l : List ℕ) (x : ℕ) → member x l ≡ false → times x l ≡ 0
unfolding times
member_not [] x h = refl
member_not (y ∷ l) x h = go (eqb y x) h (member_not l x)
  where
    go : (b : Bool) → (b || member x l) ≡ false → (member x l ≡ false → times x l ≡ 0) → cond b (suc (times x l)) (times x l) ≡ 0
    go true e ih = absurd (false≢true (sym e))
    go false e ih = ih e

pub without_none : (l : List ℕ) (x : ℕ) → times x l ≡ 0 → without x l ≡ l
unfolding without times
without_none [] x h = refl
without_none (y ∷ l) x h = go (eqb y x) h (without_none l x)
  where
    go : (b : Bool) → cond b (suc (times x l)) (times x l) ≡ 0 → (times x l ≡ 0 → without x l ≡ l) → cond b (without x l) (y ∷ without x l) ≡ y ∷ l
    go true e ih = absurd (omega arith)
    go false e ih = ap (λ (t : List ℕ). y ∷ t) (ih e)

-- ---- a sum over a list

module _ (W : List ℕ → ℕ) (none : W [] ≡ 0) (cons : (x : ℕ) (l : List ℕ) → W (x ∷ l) ≡ W (x ∷ []) + W l) where
  pub sum_append : (l m : List ℕ) → W (l ++ m) ≡ W l + W m
  sum_append [] m = omega (arith, none)
  sum_append (x ∷ l) m = omega (arith, cons x (l ++ m), cons x l, sum_append l m)

  pub sum_without : (l : List ℕ) (x : ℕ) → times x l ≡ 1 → W (x ∷ []) + W (without x l) ≡ W l
  unfolding without times
  sum_without [] x h = absurd (omega arith)
  sum_without (y ∷ l) x h = go (eqb y x) refl h (sum_without l x)
    where
      go : (b : Bool) → eqb y x ≡ b → cond b (suc (times x l)) (times x l) ≡ 1
          → (times x l ≡ 1 → W (x ∷ []) + W (without x l) ≡ W l)
          → W (x ∷ []) + W (cond b (without x l) (y ∷ without x l)) ≡ W (y ∷ l)
      go true e k ih =
          rw (without_none l x (omega arith)) (ap (λ (z : ℕ). W (z ∷ []) + W l) (sym (eqb-true y x e)) ∙ sym (cons y l))
      go false e k ih = omega (arith, cons y (without x l), cons y l, ih k)

pub times_append : (n : ℕ) (l m : List ℕ) → times n (l ++ m) ≡ times n l + times n m
times_append n = sum_append (times n) (times_none n) (times_cons n)

pub times_without : (n : ℕ) (l : List ℕ) (x : ℕ) → times x l ≡ 1 → times n (x ∷ []) + times n (without x l) ≡ times n l
times_without n = sum_without (times n) (times_none n) (times_cons n)

pub length_without : (l : List ℕ) (x : ℕ) → times x l ≡ 1 → 1 + length (without x l) ≡ length l
length_without = sum_without length refl (λ x l. omega arith)

-- ---- the numbers from 0 upward

times_below : (c a n : ℕ) → c < a → times c (upward a n) ≡ 0
unfolding upward
times_below c a zero h = times_none c
times_below c a (suc n) h = omega (arith, times_cons c a (upward (suc a) n), times_other c a (omega arith), times_below c (suc a) n (omega arith))

pub times_range : (c a n : ℕ) → a ≤ c → c < a + n → times c (upward a n) ≡ 1
unfolding upward
times_range c a zero h k = absurd (omega arith)
times_range c a (suc n) h k =
    either c a
    (λ e. omega (arith, times_cons c a (upward (suc a) n), times_eq c a e, times_below c (suc a) n (omega arith)))
    (λ ne. omega (arith, times_cons c a (upward (suc a) n), times_other c a ne, times_range c (suc a) n (omega arith) (omega arith)))

pub times_past : (c a n : ℕ) → a + n ≤ c → times c (upward a n) ≡ 0
unfolding upward
times_past c a zero h = times_none c
times_past c a (suc n) h =
    omega (arith, times_cons c a (upward (suc a) n), times_other c a (λ e. omega arith), times_past c (suc a) n (omega arith))

pub length_range : (a n : ℕ) → length (upward a n) ≡ n
unfolding upward
length_range a zero = refl
length_range a (suc n) = ap suc (length_range (suc a) n)
