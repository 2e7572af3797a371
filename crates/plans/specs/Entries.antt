-- An entry of one of several lists that go together, SPEC 6.1a.
use Rattle.std.specs.Prelude.{List, [], ◌∷◌, ℕ, zero, suc}
use Rattle.arithmetic.specs.Refusal.{lists_unequal}
use Rattle.arithmetic.specs.Outcome.{Outcome, value, refused}

-- SPEC 6.1a: entry i; a list that has none is shorter than another, which is refused (12).
abbrev pub entry_of : {A : Type 0} → List A → ℕ → Outcome A
entry_of [] i = refused lists_unequal
entry_of (x ∷ l) zero = value x
entry_of (x ∷ l) (suc i) = entry_of l i
