-- Lists of bytes taken apart at a separator: a line into its fields, the input into its lines, SPEC 10.2.
use Rattle.std.specs.Prelude.{ℕ, cond, List, [], ◌∷◌, ◌++◌, eqb}

abbrev pub comma : ℕ
comma = 44

abbrev pub feed : ℕ
feed = 10

-- The list p put in front of the first part.
unfoldable pub into : List ℕ → List (List ℕ) → List (List ℕ)
into p [] = p ∷ []
into p (f ∷ fs) = (p ++ f) ∷ fs

-- The parts of s between the separators, one more than there are separators.
unfoldable pub split : ℕ → List ℕ → List (List ℕ)
split sep [] = [] ∷ []
split sep (b ∷ s) = cond (eqb b sep) ([] ∷ split sep s) (into (b ∷ []) (split sep s))
