-- Where note pitches and detunings lie. The 801 note pitches are between 2 ^ -23 and 2 ^ 45, a test that antt computes at each of them. So a pitch
-- divided by a note pitch is between 2 ^ -65 and 2 ^ 63, finite and above zero.
use mathlib.Core.Path.{◌≡◌, refl, ap, subst}
use mathlib.Core.Bool.{Bool, true, false, ◌&&◌}
use Prim.Native.Nat.{ℕ, ◌+◌, ◌≤◌, ◌<◌}
use native.Mathlib.Omega.{arith}
use lib.Dec.{T, lit≤}
use lib.IntN.{ℤ, pos, negsuc, nat_abs, ◌+ℤ◌, ◌-ℤ◌}
use lib.Ieee.{Float, fin, binary64, mul, div, le, round}
use lib.Ieee.Fits.{and_l, and_r}
use lib.Ieee.Positive.{positive, between, le_trans_positive, cross→le}
use Rattle.arithmetic.specs.Division.{remainder}
use Rattle.arithmetic.specs.Note.{is_note}
use Rattle.arithmetic.specs.Pitch.{octave_pitch, significands, factor, pitch_of, lowest_pitch, highest_pitch, is_pitch, detuning_of}
use Rattle.arithmetic.proofs.Numbers.Integers.{plus, less, eq_by_parts, add_parts, sub_parts_ℤ}
use Rattle.arithmetic.proofs.Numbers.Tables.{all_below, at_from_all_below}
use Rattle.arithmetic.proofs.Numbers.Floats.{div_mono}
use Rattle.arithmetic.proofs.Notes.Bounds.{note_bounds}
use Rattle.arithmetic.specs.Detuning.{low_detuning, high_detuning, Detuning}

-- ---- note pitches

abbrev low_note : Float
low_note = fin false 1 (negsuc 22)

abbrev high_note : Float
high_note = fin false 1 (pos 45)

-- the notes, counted from the lowest
abbrev pub nth_note : ℕ → ℤ
nth_note n = pos n -ℤ pos 300

pub record IsNthNote (z : ℤ) (n : ℕ) : Type 0 where
  pub is : nth_note n ≡ z
  pub few : n < 801

pub is_nth_note : (z : ℤ) → is_note z ≡ true → IsNthNote z (nat_abs (z +ℤ pos 300))
is_nth_note z e = go (z +ℤ pos 300) refl
  where
    b : (plus z ≤ 500) × (less z ≤ 300)
    b = note_bounds z e

    go : (y : ℤ) → z +ℤ pos 300 ≡ y → IsNthNote z (nat_abs y)
    go (pos n) h =
        let p : plus (pos n) + less z ≡ 300 + plus z = omega (arith, add_parts z (pos 300), ap plus h, ap less h) in
        record { is = eq_by_parts (nth_note n) z (omega (arith, sub_parts_ℤ (pos n) (pos 300))); few = omega (arith, b) }
    go (negsuc n) h = absurd (let f : ⊥ = omega (arith, b, add_parts z (pos 300), ap plus h, ap less h) in f)

note_pitch_in : ℕ → Bool
note_pitch_in n = le low_note (pitch_of (nth_note n)) && le (pitch_of (nth_note n)) high_note

note_pitches_in : T (all_below note_pitch_in 801)
unfolding note_pitch_in pitch_of octave_pitch remainder significands factor mul round le
note_pitches_in = tt

note_pitch_between : (z : ℤ) → is_note z ≡ true → T (le low_note (pitch_of z) && le (pitch_of z) high_note)
unfolding note_pitch_in
note_pitch_between z e =
    let c = is_nth_note z e in
    subst (λ (y : ℤ). T (le low_note (pitch_of y) && le (pitch_of y) high_note)) c.is
    (at_from_all_below note_pitch_in 801 (nat_abs (z +ℤ pos 300)) note_pitches_in c.few)

note_pitch_low : (z : ℤ) → is_note z ≡ true → T (le low_note (pitch_of z))
note_pitch_low z e = and_l (le low_note (pitch_of z)) (le (pitch_of z) high_note) (note_pitch_between z e)

note_pitch_high : (z : ℤ) → is_note z ≡ true → T (le (pitch_of z) high_note)
note_pitch_high z e = and_r (le low_note (pitch_of z)) (le (pitch_of z) high_note) (note_pitch_between z e)

-- every note pitch is finite and above zero
pub note_pitch_positive : (z : ℤ) → is_note z ≡ true → T (positive (pitch_of z))
note_pitch_positive z e = between low_note (pitch_of z) high_note tt tt (note_pitch_low z e) (note_pitch_high z e)

-- and so is a pitch
pub pitch_positive : (x : Float) → T (is_pitch x) → T (positive x)
unfolding is_pitch
pitch_positive x h =
    between lowest_pitch x highest_pitch tt tt (and_l (le lowest_pitch x) (le x highest_pitch) h) (and_r (le lowest_pitch x) (le x highest_pitch) h)

-- ---- detunings

pub detuning_is_positive : (x : Float) → Detuning x → T (positive x)
detuning_is_positive x d = between low_detuning x high_detuning tt tt d.low d.high

detuning_ends : (div binary64 lowest_pitch high_note ≡ low_detuning) × (div binary64 highest_pitch low_note ≡ high_detuning)
unfolding div
detuning_ends = (refl, refl)

pub detuning_of_pitch : (x : Float) (z : ℤ) → T (is_pitch x) → is_note z ≡ true → Detuning (detuning_of x z)
unfolding is_pitch detuning_of
detuning_of_pitch x z h e = record {
  low = subst (λ (l : Float). T (le l (div binary64 x (pitch_of z)))) detuning_ends.0
      (div_mono binary64 lowest_pitch x high_note (pitch_of z) tt (pitch_positive x h) tt (note_pitch_positive z e)
      (and_l (le lowest_pitch x) (le x highest_pitch) h) (note_pitch_high z e));
  high = subst (λ (u : Float). T (le (div binary64 x (pitch_of z)) u)) detuning_ends.1
      (div_mono binary64 x highest_pitch (pitch_of z) low_note (pitch_positive x h) tt (note_pitch_positive z e) tt
      (and_r (le lowest_pitch x) (le x highest_pitch) h) (note_pitch_low z e));
}

-- so it is finite and above zero, and measuring it meets no refusal
pub detuning_positive : (x : Float) (z : ℤ) → T (is_pitch x) → is_note z ≡ true → T (positive (detuning_of x z))
detuning_positive x z h e = detuning_is_positive (detuning_of x z) (detuning_of_pitch x z h e)

-- a detuning that is planned, 0.5 to 2
pub planned_is_detuning : (x : Float) → T (le (fin false 1 (negsuc 0)) x) → T (le x (fin false 1 (pos 1))) → Detuning x
planned_is_detuning x h k =
    let p = between (fin false 1 (negsuc 0)) x (fin false 1 (pos 1)) tt tt h k in
    record {
      low = le_trans_positive low_detuning (fin false 1 (negsuc 0)) x tt tt p below_half h;
      high = le_trans_positive x (fin false 1 (pos 1)) high_detuning p tt tt k above_two;
    }
  where
    below_half : T (le low_detuning (fin false 1 (negsuc 0)))
    below_half = cross→le low_detuning (fin false 1 (negsuc 0)) tt tt (lit≤ tt)

    above_two : T (le (fin false 1 (pos 1)) high_detuning)
    above_two = cross→le (fin false 1 (pos 1)) high_detuning tt tt (lit≤ tt)
