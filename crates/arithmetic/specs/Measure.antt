-- The measure of a positive finite f64, its base-2 logarithm in steps of 2 ^ -24, truncated: SPEC 4.1.
use Rattle.std.specs.Prelude.{ℕ, zero, suc, ◌+◌, ◌*◌, ◌/◌, ◌^◌, cond, leb, ℤ, pos, ◌+ℤ◌, ◌-ℤ◌, ◌*ℤ◌, Float}
use Rattle.std.specs.Float.{nan, inf, fin}
use Rattle.std.specs.Float.Ieee.{size}
use Rattle.std.specs.Float.Ieee.Positive.{positive}
use Rattle.arithmetic.specs.Refusal.{not_measurable}
use Rattle.arithmetic.specs.Outcome.{Outcome, value, refuse◌unless◌then◌}

-- SPEC 4.1: z is y² / 2 ^ 31, rounded down.
unfoldable pub square : ℕ → ℕ
square y = y * y / 2 ^ 31

-- SPEC 4.1: where z is 2 ^ 32 or more the digit is 1 and y becomes z / 2, rounded down; else the digit is 0 and y becomes z.
unfoldable pub digit : ℕ → ℕ
digit y = cond (leb (2 ^ 32) (square y)) 1 0

unfoldable pub next : ℕ → ℕ
next y = cond (leb (2 ^ 32) (square y)) (square y / 2) (square y)

-- SPEC 4.1: the number that the digits of n squarings write, the first one highest.
unfoldable pub digits : ℕ → ℕ → ℕ
digits zero y = 0
digits (suc n) y = digit y * 2 ^ n + digits n (next y)

-- SPEC 4.1: the first 32 binary digits of m as a whole number; a shorter m has zeros behind it. `size m` is how many bits m has.
unfoldable pub first32 : ℕ → ℕ
first32 m = m * 2 ^ 32 / 2 ^ size m

-- SPEC 4.1: e × 2 ^ 24 plus the digits, where v lies from 2 ^ e to 2 ^ (e + 1). A v that is m * 2 ^ f for a whole m has e = f + size m - 1, and m's bits:
-- this normalises a subnormal too. 0 stands for the measure that a NaN or an infinity does not have.
unfoldable pub measure : Float → ℤ
measure nan = pos 0
measure (inf s) = pos 0
measure (fin s m f) = (f +ℤ pos (size m) -ℤ pos 1) *ℤ pos (2 ^ 24) +ℤ pos (digits 24 (first32 m))

-- SPEC 4.1a: any other f64 is refused (2). (`positive` is true of the finite values above 0.)
unfoldable pub measure_rule : Float → Outcome ℤ
measure_rule v = refuse not_measurable unless positive v then value (measure v)
