-- `pitch::first_digits` meets its contract: `Scaled` has the arithmetic.
use mathlib.Core.Path.{sym, ap, ◌∙◌}
use Prim.Native.Nat.{ℕ, ◌+◌, ◌-◌, ◌*◌, ◌^◌, ◌<◌}
use native.Mathlib.Omega.{arith}
use lib.Count.{count_leading_zeros}
use lib.IntN.{pos, ◌-ℤ◌}
use Rattle.arithmetic.specs.Outcome.{value}
use Rattle.arithmetic.specs.Measure.{digits}
use Rattle.arithmetic.proofs.Measure.Scaled.{size_pos, zeros_size, first32_word, scaled}
use Rattle.arithmetic.proofs.pitch.first_digits.Goals as goal

pub returns : goal.returns
returns c =
    let m = c.args.m in
    let k = c.args.k in
    let z = count_leading_zeros 64 m in
    -- the word's leading zeros and the digits of m, at least one, fill it
    let word = zeros_size 64 m c.requires.0 (omega arith) in
    let short : z < 64 = omega (arith, size_pos m c.requires.0) in (
      omega (arith, c.requires.2),
      omega arith,
      ap value (sym (ap (λ (x : ℕ). pos ((k + 63 - z) * 2 ^ 24 + digits 24 x) -ℤ pos (1074 * 2 ^ 24)) (first32_word m z word) ∙ scaled m k z word short)),
    )
