-- The pigeonhole for lists that are gone through from the front: where no number is among those before it, and each is below a bound, the list is no longer
-- than the bound.
use mathlib.Core.Path.{◌≡◌, refl, ◌∙◌}
use mathlib.Core.Bool.{true, false, or-true}
use mathlib.Core.List.{List, [], ◌∷◌, ◌++◌}
use Prim.Native.Nat.{ℕ, ◌<◌, ◌≤◌}
use native.Mathlib.Omega.{arith}
use borrow.Author.Tests.{eq-eqb, ne_eqb}
use lib.Dec.{T}
use lib.ListN.{length, get_or}
use Rattle.channels.specs.Lists.{member, Distinct, Fresh}
use Rattle.channels.proofs.Lists.Laws.{false→T, not_false, Within_from_Each, below, below_length, below_member, Each_from_at, distinct_length_le, member_snoc}

pub member_self : (k : ℕ) (ys : List ℕ) → member k (ys ++ (k ∷ [])) ≡ true
member_self k ys = member_snoc k k ys ∙ rw (eq-eqb k k refl, or-true)

-- a number that is among `seen` comes no more
fresh_not_member : (k : ℕ) (seen xs : List ℕ) → Fresh seen xs → member k seen ≡ true → member k xs ≡ false
fresh_not_member k seen [] f t = refl
fresh_not_member k seen (x ∷ xs) f t = rw (ne_eqb x k other) (fresh_not_member k (seen ++ (x ∷ [])) xs f.1 (member_snoc k x seen ∙ rw t))
  where
    other : x ≡ k → ⊥
    other e = not_false f.0 (rw (e, t) tt)

pub fresh_distinct : (seen xs : List ℕ) → Fresh seen xs → Distinct xs
fresh_distinct seen [] f = tt
fresh_distinct seen (x ∷ xs) f = (false→T (fresh_not_member x (seen ++ (x ∷ [])) xs f.1 (member_self x seen)), fresh_distinct (seen ++ (x ∷ [])) xs f.1)

pub pigeonhole : (b : ℕ) (xs : List ℕ) → Fresh [] xs → ((i : ℕ) → i < length xs → get_or xs i 0 < b) → length xs ≤ b
pigeonhole b xs f h =
    let each = Each_from_at (λ (n : ℕ). T (member n (below b))) xs 0 λ i p. below_member b (get_or xs i 0) (h i p) in
    omega (arith, distinct_length_le xs (below b) (fresh_distinct [] xs f) (Within_from_Each (below b) xs each), below_length b)
