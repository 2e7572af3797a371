-- Note pitches: where a note's octave and semitone stand in the two tables.
use mathlib.Core.Path.{◌≡◌, refl, sym, ap, ◌∙◌}
use mathlib.Core.Bool.{true, false}
use Prim.Native.Nat.{ℕ, ◌+◌, ◌*◌, ◌^◌, ◌≤◌, ◌<◌}
use native.Mathlib.Nat.{mul-one, mul_assoc, mul-pos}
use native.Mathlib.Decide.{dec_lt}
use native.Mathlib.Omega.{arith}
use lib.Dec.{lit<}
use lib.Pow.{pow-add}
use lib.IntN.{ℤ, pos, negsuc, nat_abs, ◌+ℤ◌, ◌-ℤ◌, ◌*ℤ◌}
use lib.Signed.{◌≤ℤ◌}
use lib.Ieee.{Float, nan, binary64, mul, up, down}
use lib.Ieee.Fits.{down_pos}
use lib.Ieee.Scale.{round_same}
use Rattle.arithmetic.specs.Division.{quotient, remainder}
use Rattle.arithmetic.specs.Note.{is_note, a4}
use Rattle.arithmetic.specs.Pitch.{octave_pitch, significands, factor, pitch_of}
use Rattle.arithmetic.specs.Internal.{factor_to12, note_at}
use Rattle.arithmetic.proofs.Numbers.Integers.{up_is, down_is, plus, less, eq_by_parts, add_parts, sub_parts_ℤ, mul_parts, one_sided, between_parts, at_least_parts, at_most_parts}
use Rattle.arithmetic.proofs.Numbers.Quotients.{division_unique}
use Rattle.arithmetic.proofs.Numbers.Tables.{tabulate_at}
use Rattle.arithmetic.proofs.Notes.Bounds.{note_bounds}

-- ---- the octave of a note, and where it stands in the table, which begins at -31

pub record Place (j : ℤ) (i : ℕ) : Type 0 where
  pub raised : j +ℤ pos 31 ≡ pos i
  pub small : i < 67

pub octave_place : (j : ℤ) → negsuc 30 ≤ℤ j → j ≤ℤ pos 35 → Place j (nat_abs (j +ℤ pos 31))
octave_place j l h =
    go (j +ℤ pos 31) refl (omega (arith, add_parts j (pos 31), at_most_parts 35 j h)) (omega (arith, add_parts j (pos 31), at_least_parts 30 j l))
  where
    go : (z : ℤ) → j +ℤ pos 31 ≡ z → plus z < less z + 67 → less z ≤ plus z → Place j (nat_abs z)
    go (pos n) e p l = record { raised = e; small = omega arith }
    go (negsuc n) e p l = absurd (let f : ⊥ = omega arith in f)

-- the octave pitch at a place
abbrev pub octave_at : ℕ → Float
octave_at i = octave_pitch (pos i -ℤ pos 31)

pub octave_at_place : (j : ℤ) (i : ℕ) → Place j i → octave_at i ≡ octave_pitch j
octave_at_place j i p =
    ap octave_pitch (eq_by_parts (pos i -ℤ pos 31) j (omega (arith, sub_parts_ℤ (pos i) (pos 31), add_parts j (pos 31), ap plus p.raised, ap less p.raised)))

-- ---- a note at its place

module _ (j : ℤ) (k : ℕ) (e : is_note (note_at j k) ≡ true) (h : k < 13) where
  place_range : (plus j ≤ 35) × (less j ≤ 31)
  unfolding note_at
  place_range =
      let b = note_bounds (a4 +ℤ (j *ℤ pos 12 +ℤ pos k)) e in
      let p = add_parts (pos 69) (j *ℤ pos 12 +ℤ pos k) in
      let q = add_parts (j *ℤ pos 12) (pos k) in
      let m = mul_parts j 12 in
      one_sided j 35 31 (omega arith) (omega arith)

  pub place_octaves : (negsuc 30 ≤ℤ j) × (j ≤ℤ pos 35)
  place_octaves = between_parts 35 30 j place_range.0 place_range.1

-- below 12 semitones the octave and the semitone are those of the rule
factor_is : (k : ℕ) → k < 12 → factor_to12 k ≡ factor k
unfolding factor_to12 factor significands
factor_is k h = sym (tabulate_at factor_to12 nan 12 k h) ∙ tabulate_at factor nan 12 k h

-- and 12 semitones are an octave: 440 * 2 ^ j * 2 and 440 * 2 ^ (j + 1) * 1 are one number
crossed : (a b c d : ℕ) → a * 2 * b ≡ c * d → 55 * a * 2 * (b * 1) ≡ 55 * c * 1 * (d * 1)
crossed a b c d h = simp (mul-one, mul_assoc) (ap (λ (x : ℕ). 55 * x) (simp mul_assoc at h))

octave_up : (d e : ℤ) → plus e + less d ≡ plus d + less e + 1 → 55 * up d * 2 * (down e * 1) ≡ 55 * up e * 1 * (down d * 1)
octave_up d e h =
    rw (up_is d, up_is e, down_is d, down_is e)
    (crossed (2 ^ plus d) (2 ^ less e) (2 ^ plus e) (2 ^ less d)
    (ap (λ (x : ℕ). x * 2 ^ less e) (sym (pow-add 2 (plus d) 1))
    ∙ sym (pow-add 2 (plus d + 1) (less e))
    ∙ ap (λ (x : ℕ). 2 ^ x) (let q : plus d + 1 + less e ≡ plus e + less d = omega arith in q)
    ∙ pow-add 2 (plus e) (less d)))

doubled : (j : ℤ) → mul binary64 (octave_pitch j) (factor_to12 12) ≡ mul binary64 (octave_pitch (j +ℤ pos 1)) (factor 0)
unfolding mul octave_pitch factor_to12 factor significands
doubled j =
    let d = j +ℤ pos 3 in
    let e = j +ℤ pos 1 +ℤ pos 3 in
    round_same binary64 false (55 * up d * 2) (down d * 1) (55 * up e * 1) (down e * 1) (mul-pos (down_pos d) (lit< tt)) (mul-pos (down_pos e) (lit< tt))
    (octave_up d e (omega (arith, add_parts j (pos 3), add_parts j (pos 1), add_parts (j +ℤ pos 1) (pos 3))))

-- what is divided by 12
module _ (j : ℤ) (k : ℕ) where
  pitch_at_octave : (q : ℤ) (r : ℕ) → r < 12 → plus q * 12 + r + less j * 12 ≡ plus j * 12 + k + less q * 12
      → (quotient (note_at j k -ℤ a4) 12 ≡ q) × (remainder (note_at j k -ℤ a4) 12 ≡ r)
  unfolding note_at
  pitch_at_octave q r h e =
      let x = j *ℤ pos 12 in
      division_unique (a4 +ℤ (x +ℤ pos k) -ℤ a4) q 12 r h
      (eq_by_parts (q *ℤ pos 12 +ℤ pos r) (a4 +ℤ (x +ℤ pos k) -ℤ a4)
      (omega (
        arith,
        mul_parts q 12,
        add_parts (q *ℤ pos 12) (pos r),
        mul_parts j 12,
        add_parts x (pos k),
        add_parts (pos 69) (x +ℤ pos k),
        add_parts (a4 +ℤ (x +ℤ pos k)) (negsuc 68),
      )))

pub pitch_at : (j : ℤ) (k : ℕ) → k < 13 → mul binary64 (octave_pitch j) (factor_to12 k) ≡ pitch_of (note_at j k)
unfolding pitch_of
pitch_at j k h = go (dec_lt k 12)
  where
    go : Dec (k < 12)
        → mul binary64 (octave_pitch j) (factor_to12 k)
        ≡ mul binary64 (octave_pitch (quotient (note_at j k -ℤ a4) 12)) (factor (remainder (note_at j k -ℤ a4) 12))
    go (yes l) = let p = pitch_at_octave j k j k l (omega arith) in rw (p.0, p.1, factor_is k l)
    go (no n) =
        let e : k ≡ 12 = omega arith in
        let p = pitch_at_octave j k (j +ℤ pos 1) 0 (omega arith) (omega (arith, add_parts j (pos 1))) in
        rw (p.0, p.1, e) (doubled j)
