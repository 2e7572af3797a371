-- The answer lines, each with its line feed, SPEC 10.4: bytes in upper-case hexadecimal separated by a space; `-` for none; `R` and the number joined, as
-- `R13`, for a refusal.
use Rattle.std.specs.Prelude.{ℕ, ◌+◌, ◌-◌, ◌/◌, ◌%◌, cond, List, [], ◌∷◌, ◌++◌, ltb}
use Rattle.console_lines.specs.Split.{feed}

-- The hexadecimal digit of a number below 16, which is `0` to `9` or `A` to `F`.
abbrev pub hex_digit : ℕ → ℕ
hex_digit d = cond (ltb d 10) (48 + d) (65 + (d - 10))

-- What follows the two digits of a byte: the further bytes, each behind a space, and the line feed.
unfoldable pub further : List ℕ → List ℕ
further [] = feed ∷ []
further (b ∷ bs) = 32 ∷ hex_digit (b / 16) ∷ hex_digit (b % 16) ∷ further bs

-- SPEC 10.4: the line of the bytes that were sent.
unfoldable pub bytes_line : List ℕ → List ℕ
bytes_line [] = 45 ∷ feed ∷ []
bytes_line (b ∷ bs) = hex_digit (b / 16) ∷ hex_digit (b % 16) ∷ further bs

-- A number below 1000 in decimal.
unfoldable pub decimal_of : ℕ → List ℕ
decimal_of n =
    cond (ltb n 10) ((48 + n) ∷ [])
    (cond (ltb n 100) ((48 + n / 10) ∷ (48 + n % 10) ∷ [])
    ((48 + n / 100) ∷ (48 + n / 10 % 10) ∷ (48 + n % 10) ∷ []))

-- SPEC 10.4: the line of a refusal.
unfoldable pub refusal_line : ℕ → List ℕ
refusal_line n = 82 ∷ decimal_of n ++ (feed ∷ [])
