-- The note nearest to a pitch, SPEC 4.2.
use Rattle.std.specs.Prelude.{◌^◌, ℤ, pos, ◌+ℤ◌, ◌-ℤ◌, ◌*ℤ◌, Float}
use Rattle.std.specs.Float.{binary64}
use Rattle.std.specs.Float.Ieee.{div}
use Rattle.arithmetic.specs.Refusal.{pitch_out_of_range}
use Rattle.arithmetic.specs.Outcome.{Outcome, value, refuse◌unless◌then◌}
use Rattle.arithmetic.specs.Division.{quotient}
use Rattle.arithmetic.specs.Note.{a4}
use Rattle.arithmetic.specs.Pitch.{is_pitch, a4_pitch, detuning_of}
use Rattle.arithmetic.specs.Measure.{measure}
use Rattle.arithmetic.specs.declared.tuning.Approximation.{Approximation}

-- Half a semitone, in the steps of 12 L: 2 ^ 23.
abbrev pub half_semitone : ℤ
half_semitone = pos 8388608

-- SPEC 4.2: a pitch that little above the middle of two notes still goes to the lower one, as by the Rust's `round_to_lower_step`.
abbrev pub round_to_lower_step : ℤ
round_to_lower_step = pos 290

-- SPEC 4.2: how many semitones above A4, from the measure L of the pitch over A4's: (12 × L + 8,388,608 - 290) / 2 ^ 24, rounded down.
unfoldable pub semitones : ℤ → ℤ
semitones l = quotient (l *ℤ pos 12 +ℤ half_semitone -ℤ round_to_lower_step) (2 ^ 24)

-- SPEC 4.2: v is hz / 440 in f64.
unfoldable pub over_a4 : Float → Float
over_a4 hz = div binary64 hz a4_pitch

-- SPEC 4.2: the note nearest to a pitch.
unfoldable pub nearest_note : Float → ℤ
nearest_note hz = a4 +ℤ semitones (measure (over_a4 hz))

-- SPEC 4.4a: the answer has the note and the detuning, or refusal 1.
unfoldable pub nearest_rule : Float → Outcome (ℤ × Float)
nearest_rule hz = refuse pitch_out_of_range unless is_pitch hz then value (nearest_note hz, detuning_of hz (nearest_note hz))

-- The code's answer in these words.
abbrev pub nearest : Approximation → ℤ × Float
nearest a = (a.note.number, a.detuning)
