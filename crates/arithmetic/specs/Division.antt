-- Division of an integer by a whole number above 0, rounded down (SPEC 1.8a): z = d * quotient + remainder, with the remainder from 0 to d - 1.
-- (`negsuc n` is -(n + 1).)
use Rattle.std.specs.Prelude.{ℕ, ◌-◌, ◌%◌, ℤ, pos, negsuc}
use Rattle.std.specs.Int.Signed.{shr_z}

-- It is n / d for n, and -(n / d) - 1 for -(n + 1); `shr_z` is the same by cases.
abbrev pub quotient : ℤ → ℕ → ℤ
quotient z d = shr_z z d

unfoldable pub remainder : ℤ → ℕ → ℕ
remainder (pos n) d = n % d
remainder (negsuc n) d = d - 1 - n % d
