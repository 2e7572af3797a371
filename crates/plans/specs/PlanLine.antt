-- The lines of a plan, SPEC 6.1 to 6.3: their groups, their order, and the test by which a detuning joins another.
use Rattle.std.specs.Prelude.{Bool, false, cond, List, [], ◌∷◌, map, ℕ, ℤ, pos, negsuc, eqb, Float}
use Rattle.std.specs.Float.{binary64}
use Rattle.std.specs.Float.Ieee.{div, le}
use Rattle.arithmetic.specs.Note.{letter_of}
use Rattle.arithmetic.specs.Pitch.{negligible}
use Rattle.plans.specs.declared.aot.GroupBy.{GroupBy}
use Rattle.plans.specs.declared.aot.GroupBy.TheVariants.{Note, NoteLetter, Channel}

-- SPEC 6.1a: a key, its note, and its detuning, the pitch that it wants divided by the note's.
pub record PlanLine : Type 0 where
  pub key : ℕ
  pub note : ℤ
  pub detuning : Float

abbrev pub keys : List PlanLine → List ℕ
keys l = map (λ (x : PlanLine). x.key) l

-- SPEC 1.7a: a key's group is its note, or its note's letter; in channel groups all keys share group 0.
unfoldable pub group : GroupBy → ℤ → ℤ
group Note n = n
group NoteLetter n = pos (letter_of n)
group Channel n = pos 0

abbrev pub same : ℤ → ℤ → Bool
same (pos a) (pos b) = eqb a b
same (pos a) (negsuc b) = false
same (negsuc a) (pos b) = false
same (negsuc a) (negsuc b) = eqb a b

-- The line is of the group g.
unfoldable pub of_group : GroupBy → ℤ → PlanLine → Bool
of_group by g l = same (group by l.note) g

-- ---- SPEC 6.3: the keys are ordered by detuning, and those of equal detuning as in the list

-- The line x is put before the first line whose detuning is not below x's.
unfoldable pub insert : PlanLine → List PlanLine → List PlanLine
insert x [] = x ∷ []
insert x (y ∷ l) = let r = insert x l in cond (le x.detuning y.detuning) (x ∷ y ∷ l) (y ∷ r)

unfoldable pub rising : List PlanLine → List PlanLine
rising [] = []
rising (x ∷ l) = insert x (rising l)

-- ---- SPEC 6.3a: a detuning joins another if the quotient of the two is at least 0.999999 and less than 1.000001

unfoldable pub joins : Float → Float → Bool
joins before d = negligible (div binary64 d before)
