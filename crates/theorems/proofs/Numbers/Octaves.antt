-- The nearest note of every 440 * 2 ^ j in range is 69 + 12 j, with a detuning of exactly 1. The range leaves j from -28 to 31, and antt computes
-- the rule at each of these.
use mathlib.Core.Path.{◌≡◌, refl, sym, ap, ◌∙◌}
use mathlib.Core.Bool.{false}
use Prim.Native.Nat.{ℕ, suc, ◌+◌, ◌^◌, ◌≤◌, ◌<◌}
use native.Mathlib.Nat.{lt_of_not-le, not-le_of_lt}
use native.Mathlib.Omega.{arith}
use lib.Dec.{T}
use lib.Pow.{pow_mono}
use lib.IntN.{ℤ, pos, negsuc, nat_abs, ◌+ℤ◌, ◌-ℤ◌, ◌*ℤ◌}
use lib.Ieee.{Float, fin, size, mul, div, le, round}
use lib.Ieee.Fits.{and_l, and_r}
use lib.Ieee.Positive.{le→cross}
use Rattle.arithmetic.specs.Outcome.{Outcome, value}
use Rattle.arithmetic.specs.Division.{remainder}
use Rattle.arithmetic.specs.Note.{a4}
use Rattle.arithmetic.specs.Pitch.{octave_pitch, significands, factor, pitch_of, lowest_pitch, highest_pitch, is_pitch, detuning_of}
use Rattle.arithmetic.specs.Measure.{square, digit, next, digits, first32, measure}
use Rattle.arithmetic.specs.Nearest.{semitones, over_a4, nearest_note, nearest_rule}
use Rattle.arithmetic.proofs.Numbers.Integers.{plus, less, eq_by_parts, add_parts, sub_parts_ℤ}
use Rattle.arithmetic.proofs.Numbers.Tables.{tabulate_at}
use Rattle.std.specs.Float.{float_one}

-- ---- the octaves in range, counted from -28

abbrev octave_at : ℕ → ℤ
octave_at i = pos i -ℤ pos 28

nearest_at : (i : ℕ) → i < 60 → nearest_rule (octave_pitch (octave_at i)) ≡ value (a4 +ℤ octave_at i *ℤ pos 12, float_one)
unfolding nearest_rule is_pitch le nearest_note over_a4 semitones measure digits digit next square first32 size detuning_of pitch_of octave_pitch factor significands remainder mul div round
nearest_at i h =
    let d : Outcome (ℤ × Float) = value (a4, float_one) in
    sym (tabulate_at (λ (n : ℕ). nearest_rule (octave_pitch (octave_at n))) d 60 i h)
    ∙ tabulate_at (λ (n : ℕ). value (a4 +ℤ octave_at n *ℤ pos 12, float_one)) d 60 i h

-- ---- the range leaves no others

exponent_lt : (n k : ℕ) → 2 ^ n < 2 ^ k → n < k
exponent_lt n k h = lt_of_not-le (λ g. not-le_of_lt h (pow_mono g))

-- 2 ^ -20 ≤ 55 * 2 ^ e ≤ 2 ^ 40
in_range : (e : ℤ) → T (is_pitch (fin false 55 e)) → (plus e ≤ 34) × (less e ≤ 25)
unfolding is_pitch
in_range (pos n) h =
    let x = fin false 55 (pos n) in
    let c = le→cross x highest_pitch tt tt (and_r (le lowest_pitch x) (le x highest_pitch) h) in
    let l : 2 ^ n < 2 ^ 35 = omega arith in
    omega (arith, exponent_lt n 35 l)
in_range (negsuc n) h =
    let x = fin false 55 (negsuc n) in
    let c = le→cross lowest_pitch x tt tt (and_l (le lowest_pitch x) (le x highest_pitch) h) in
    let l : 2 ^ suc n < 2 ^ 26 = omega arith in
    omega (arith, exponent_lt (suc n) 26 l)

record Place (j : ℤ) (i : ℕ) : Type 0 where
  is : octave_at i ≡ j
  few : i < 60

octave_placed : (j : ℤ) → plus (j +ℤ pos 3) ≤ 34 → less (j +ℤ pos 3) ≤ 25 → Place j (nat_abs (j +ℤ pos 28))
octave_placed j h k = go (j +ℤ pos 28) refl
  where
    go : (y : ℤ) → j +ℤ pos 28 ≡ y → Place j (nat_abs y)
    go (pos n) e =
        let p : n + less j ≡ 28 + plus j = omega (arith, add_parts j (pos 28), ap plus e, ap less e) in
        record { is = eq_by_parts (octave_at n) j (omega (arith, sub_parts_ℤ (pos n) (pos 28))); few = omega (arith, add_parts j (pos 3)) }
    go (negsuc n) e = absurd (let f : ⊥ = omega (arith, h, k, add_parts j (pos 3), add_parts j (pos 28), ap plus e, ap less e) in f)

pub octave_nearest : (j : ℤ) → T (is_pitch (octave_pitch j)) → nearest_rule (octave_pitch j) ≡ value (a4 +ℤ j *ℤ pos 12, float_one)
unfolding octave_pitch
octave_nearest j h =
    let r = in_range (j +ℤ pos 3) h in
    let p = octave_placed j r.0 r.1 in
    rw (sym p.is) (nearest_at (nat_abs (j +ℤ pos 28)) p.few)
