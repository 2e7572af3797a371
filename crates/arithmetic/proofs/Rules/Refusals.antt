-- Each rule that a contract cites refuses with these numbers and no other, exactly where one of its tests fails, in their order.
-- Every other input has a value.
use mathlib.Core.Path.{◌≡◌}
use mathlib.Core.Logic.{◌⊎◌, ◌↔◌}
use mathlib.Core.Bool.{true, false}
use Prim.Native.Nat.{ℕ}
use lib.IntN.{ℤ, ◌+ℤ◌, ◌-ℤ◌}
use lib.Ieee.{Float}
use lib.Ieee.Positive.{positive}
use Rattle.arithmetic.specs.Outcome.{refused}
use Rattle.arithmetic.specs.Refusal.{pitch_out_of_range, not_measurable, note_out_of_range}
use Rattle.arithmetic.specs.Note.{is_note, letter_of, octave_of, midi_number, letter_rule, octave_rule, midi_rule, plus_rule, before_rule}
use Rattle.arithmetic.specs.Pitch.{is_pitch, pitch_of, detuning_of, pitch_rule, detuning_rule}
use Rattle.arithmetic.specs.Measure.{measure, measure_rule}
use Rattle.arithmetic.specs.Nearest.{nearest_note, nearest_rule}
use Rattle.arithmetic.proofs.Rules.Outcomes.{refuses_once, refuses_twice}

-- ---- of one note: 4

pub letter_refuses : (z : ℤ) (n : ℕ) → (letter_rule z ≡ refused n) ↔ ((is_note z ≡ false) × (n ≡ note_out_of_range))
unfolding letter_rule
letter_refuses z n = refuses_once note_out_of_range n (is_note z) (letter_of z)

pub octave_refuses : (z : ℤ) (n : ℕ) → (octave_rule z ≡ refused n) ↔ ((is_note z ≡ false) × (n ≡ note_out_of_range))
unfolding octave_rule
octave_refuses z n = refuses_once note_out_of_range n (is_note z) (octave_of z)

pub midi_refuses : (z : ℤ) (n : ℕ) → (midi_rule z ≡ refused n) ↔ ((is_note z ≡ false) × (n ≡ note_out_of_range))
unfolding midi_rule
midi_refuses z n = refuses_once note_out_of_range n (is_note z) (midi_number z)

pub pitch_refuses : (z : ℤ) (n : ℕ) → (pitch_rule z ≡ refused n) ↔ ((is_note z ≡ false) × (n ≡ note_out_of_range))
unfolding pitch_rule
pitch_refuses z n = refuses_once note_out_of_range n (is_note z) (pitch_of z)

-- ---- of a note and a sum, or of two notes: 4

pub plus_refuses : (z k : ℤ) (n : ℕ)
    → (plus_rule z k ≡ refused n)
    ↔ (((is_note z ≡ false) × (n ≡ note_out_of_range)) ⊎ ((is_note z ≡ true) × ((is_note (z +ℤ k) ≡ false) × (n ≡ note_out_of_range))))
unfolding plus_rule
plus_refuses z k n = refuses_twice note_out_of_range note_out_of_range n (is_note z) (is_note (z +ℤ k)) (z +ℤ k)

pub before_refuses : (y z : ℤ) (n : ℕ)
    → (before_rule y z ≡ refused n) ↔ (((is_note y ≡ false) × (n ≡ note_out_of_range)) ⊎ ((is_note y ≡ true) × ((is_note z ≡ false) × (n ≡ note_out_of_range))))
unfolding before_rule
before_refuses y z n = refuses_twice note_out_of_range note_out_of_range n (is_note y) (is_note z) (z -ℤ y)

-- ---- of a ratio: 2

pub measure_refuses : (v : Float) (n : ℕ) → (measure_rule v ≡ refused n) ↔ ((positive v ≡ false) × (n ≡ not_measurable))
unfolding measure_rule
measure_refuses v n = refuses_once not_measurable n (positive v) (measure v)

-- ---- of a pitch: 1, and with a note 4 after it

pub nearest_refuses : (hz : Float) (n : ℕ) → (nearest_rule hz ≡ refused n) ↔ ((is_pitch hz ≡ false) × (n ≡ pitch_out_of_range))
unfolding nearest_rule
nearest_refuses hz n = refuses_once pitch_out_of_range n (is_pitch hz) (nearest_note hz, detuning_of hz (nearest_note hz))

pub detuning_refuses : (hz : Float) (z : ℤ) (n : ℕ)
    → (detuning_rule hz z ≡ refused n)
    ↔ (((is_pitch hz ≡ false) × (n ≡ pitch_out_of_range)) ⊎ ((is_pitch hz ≡ true) × ((is_note z ≡ false) × (n ≡ note_out_of_range))))
unfolding detuning_rule
detuning_refuses hz z n = refuses_twice pitch_out_of_range note_out_of_range n (is_pitch hz) (is_note z) (detuning_of hz z)
