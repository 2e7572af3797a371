-- A table whose entries are a function of their place: what stands at a place is what the function gives there. The table is compared with the function by
-- computing, once, where this law is cited, so no file writes the table again.
use mathlib.Core.Path.{◌≡◌, sym, ap, ◌∙◌, subst}
use mathlib.Core.Logic.{inl, inr}
use mathlib.Core.Bool.{Bool, true, ◌&&◌}
use lib.Dec.{T}
use lib.Ieee.Fits.{and_l, and_r}
use mathlib.Core.List.{List, [], ◌∷◌}
use Prim.Native.Nat.{ℕ, zero, suc, ◌+◌, ◌≤◌, ◌<◌, zero-le}
use native.Mathlib.Omega.{arith}
use native.Mathlib.Nat.{add-zero, zero-add, add-suc, suc-add, le_of_suc-le-suc, not-suc-le-zero, eq-or-lt_of_le}
use lib.ListN.{get_or}

-- f i, f (i + 1), .. : n entries
abbrev pub tabulate : {A : Type 0} → (ℕ → A) → ℕ → ℕ → List A
tabulate f i zero = []
tabulate f i (suc n) = f i ∷ tabulate f (suc i) n

tabulate_from : {A : Type 0} (f : ℕ → A) (d : A) (i n k : ℕ) → k < n → get_or (tabulate f i n) k d ≡ f (i + k)
tabulate_from f d i zero k h = absurd (not-suc-le-zero h)
tabulate_from f d i (suc n) zero h = ap f (sym (add-zero i))
tabulate_from f d i (suc n) (suc k) h = tabulate_from f d (suc i) n k (le_of_suc-le-suc h) ∙ ap f (suc-add i k ∙ sym (add-suc i k))

pub tabulate_at : {A : Type 0} (f : ℕ → A) (d : A) (n k : ℕ) → k < n → get_or (tabulate f 0 n) k d ≡ f k
tabulate_at f d n k h = tabulate_from f d 0 n k h ∙ ap f (zero-add k)

-- a test that passes at every number below n, which antt computes
abbrev pub all_below : (ℕ → Bool) → ℕ → Bool
all_below f zero = true
all_below f (suc n) = f n && all_below f n

pub at_from_all_below : (f : ℕ → Bool) (n k : ℕ) → T (all_below f n) → k < n → T (f k)
at_from_all_below f zero k t h = absurd (not-suc-le-zero h)
at_from_all_below f (suc n) k t h =
    elim (eq-or-lt_of_le (le_of_suc-le-suc h)) [
      | inl e ↦ subst (λ (m : ℕ). T (f m)) (sym e) (and_l (f n) (all_below f n) t)
      | inr l ↦ at_from_all_below f n k (and_r (f n) (all_below f n) t) l
    ]

-- k is none of the numbers below n, as the last arm of a `match` has it that has an arm for each of them
abbrev pub NoneBelow : ℕ → ℕ → Type 0
NoneBelow zero k = Unit
NoneBelow (suc n) k = NoneBelow n k × (k ≡ n → ⊥)

pub le_from_none_below : (n k : ℕ) → NoneBelow n k → n ≤ k
le_from_none_below zero k r = zero-le
le_from_none_below (suc n) k r = let l = le_from_none_below n k r.0 in let d = r.1 in omega arith
