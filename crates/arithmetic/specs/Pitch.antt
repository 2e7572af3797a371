-- Pitches and their ratios, SPEC 1.2 and 4.3 to 4.5: the range, note pitches, detunings and what is negligible.
use Rattle.std.specs.Prelude.{ℕ, ◌^◌, Bool, false, ◌&&◌, List, [], ◌∷◌, ℤ, pos, negsuc, ◌+ℤ◌, ◌-ℤ◌, get_or, Float}
use Rattle.std.specs.Float.{fin, binary64}
use Rattle.std.specs.Float.Ieee.{round, mul, div, le, lt}
use Rattle.arithmetic.specs.Refusal.{pitch_out_of_range, note_out_of_range}
use Rattle.arithmetic.specs.Outcome.{Outcome, value, refuse◌unless◌then◌}
use Rattle.arithmetic.specs.Division.{quotient, remainder}
use Rattle.arithmetic.specs.Note.{is_note, a4}

-- ---- SPEC 1.2: a pitch is 2 ^ -20 to 2 ^ 40 Hz, both included; no comparison with a NaN holds. (`fin false m e` is the f64 m * 2 ^ e.)

abbrev pub lowest_pitch : Float
lowest_pitch = fin false 1 (negsuc 19)

abbrev pub highest_pitch : Float
highest_pitch = fin false 1 (pos 40)

unfoldable pub is_pitch : Float → Bool
is_pitch hz = le lowest_pitch hz && le hz highest_pitch

-- ---- SPEC 4.3: with note - 69 = 12 j + k and 0 ≤ k < 12 the pitch of a note is (440 * 2 ^ j) * R[k] in f64

-- The pitch of A4, 440 Hz.
abbrev pub a4_pitch : Float
a4_pitch = fin false 55 (pos 3)

-- SPEC 4.3b: 440 * 2 ^ j, that is 55 * 2 ^ (j + 3).
unfoldable pub octave_pitch : ℤ → Float
octave_pitch j = fin false 55 (j +ℤ pos 3)

-- SPEC 4.3a: the whole numbers m behind R[k] = m / 2 ^ 52, one for each k below 12. `IsSignificand` of `theorems` is what is asked of them.
unfoldable pub significands : List ℕ
significands =
    4503599627370496 ∷
    4771397596969315 ∷
    5055119662503616 ∷
    5355712719992597 ∷
    5674179970822795 ∷
    6011584269839454 ∷
    6369051672525773 ∷
    6747775193108400 ∷
    7149018786131517 ∷
    7574121564787629 ∷
    8024502270083369 ∷
    8501664005755716 ∷
    []

-- SPEC 4.3a: R[k], exactly.
unfoldable pub factor : ℕ → Float
factor k = round binary64 false (get_or significands k 0) (2 ^ 52)

-- SPEC 4.3: the pitch of a note.
unfoldable pub pitch_of : ℤ → Float
pitch_of z = mul binary64 (octave_pitch (quotient (z -ℤ a4) 12)) (factor (remainder (z -ℤ a4) 12))

unfoldable pub pitch_rule : ℤ → Outcome Float
pitch_rule z = refuse note_out_of_range unless is_note z then value (pitch_of z)

-- ---- SPEC 4.4: the detuning is the pitch divided by the note's pitch in f64

unfoldable pub detuning_of : Float → ℤ → Float
detuning_of hz z = div binary64 hz (pitch_of z)

-- SPEC 4.4: a pitch with a note is refused by 1, then 4.
unfoldable pub detuning_rule : Float → ℤ → Outcome Float
detuning_rule hz z =
    refuse pitch_out_of_range unless is_pitch hz then
    refuse note_out_of_range unless is_note z then
    value (detuning_of hz z)

-- ---- SPEC 4.5: at least 0.999999 and less than 1.000001, each the nearest f64 (SPEC 1.8)

unfoldable pub negligible_from : Float
negligible_from = round binary64 false 999999 1000000

unfoldable pub negligible_below : Float
negligible_below = round binary64 false 1000001 1000000

unfoldable pub negligible : Float → Bool
negligible r = le negligible_from r && lt r negligible_below
