-- Letters and octaves of notes: remainder and quotient rounded down.
use mathlib.Core.Path.{◌≡◌, ap, ◌∙◌}
use Prim.Native.Nat.{ℕ, ◌<◌}
use native.Mathlib.Omega.{arith}
use lib.IntN.{ℤ, pos, ◌+ℤ◌, ◌-ℤ◌, ◌*ℤ◌}
use Rattle.arithmetic.specs.Division.{quotient, remainder}
use Rattle.arithmetic.proofs.Numbers.Integers.{eq_by_parts, add_parts, sub_parts_ℤ, mul_parts}
use Rattle.arithmetic.proofs.Numbers.Quotients.{quotient_parts}
use Rattle.arithmetic.specs.Note.{letter_of, octave_of}

pub division_law : (z : ℤ) (d : ℕ) → 0 < d → quotient z d *ℤ pos d +ℤ pos (remainder z d) ≡ z
division_law z d D =
    eq_by_parts (quotient z d *ℤ pos d +ℤ pos (remainder z d)) z
    (omega (arith, quotient_parts z d D, mul_parts (quotient z d) d, add_parts (quotient z d *ℤ pos d) (pos (remainder z d))))

pub letter_and_octave : (z : ℤ) → (octave_of z +ℤ pos 1) *ℤ pos 12 +ℤ pos (letter_of z) ≡ z
letter_and_octave z =
    let q = quotient z 12 in
    ap (λ (x : ℤ). x *ℤ pos 12 +ℤ pos (letter_of z))
    (eq_by_parts (q -ℤ pos 1 +ℤ pos 1) q (omega (arith, sub_parts_ℤ q (pos 1), add_parts (q -ℤ pos 1) (pos 1))))
    ∙ division_law z 12 (omega arith)
