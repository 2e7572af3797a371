-- Orders between a power of 2 and a power of a positive f64 v, over whole numbers alone: v is the fraction num v / den v, and 2 ^ k, for a k that may
-- be negative, is the fraction up k / down k. Each order is the one of its comment with both sides multiplied by (den v) ^ n and down k.
use Rattle.std.specs.Prelude.{ℕ, ◌*◌, ◌^◌, ◌≤◌, ◌<◌, ℤ, Float}
use Rattle.std.specs.Float.Ieee.{up, down}
use Rattle.std.specs.Float.Ieee.Positive.{num, den}

-- SPEC 4.1b, on the left: 2 ^ k ≤ v ^ n.
abbrev pub AtLeast : ℤ → Float → ℕ → Type 0
AtLeast k v n = up k * den v ^ n ≤ num v ^ n * down k

-- SPEC 4.1b, on the right: v ^ n < 2 ^ k.
abbrev pub Below : Float → ℕ → ℤ → Type 0
Below v n k = num v ^ n * down k < up k * den v ^ n
