-- The numbers that a plan's lists are refused by, SPEC 2.2.
use Rattle.std.specs.Prelude.{List, [], ◌∷◌, ℕ}

-- Of keys with notes and detunings, and of keys with pitches.
abbrev pub note_numbers : List ℕ
note_numbers = 12 ∷ 4 ∷ 3 ∷ 5 ∷ []

abbrev pub pitch_numbers : List ℕ
pitch_numbers = 12 ∷ 1 ∷ 5 ∷ []
