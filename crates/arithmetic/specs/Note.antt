-- Notes, SPEC 1.3 and 3: whole numbers from -300 to 500, of which 69 is A4. Every function of a note refuses (4) one outside.
use Rattle.std.specs.Prelude.{ℕ, Bool, cond, ◌&&◌, ℤ, pos, negsuc, ◌+ℤ◌, ◌-ℤ◌, leb}
use Rattle.std.proofs.Math.Option.{Option, some, none}
use Rattle.std.specs.Int.Signed.{le_z}
use Rattle.arithmetic.specs.Refusal.{note_out_of_range}
use Rattle.arithmetic.specs.Outcome.{Outcome, value, refuse◌unless◌then◌}
use Rattle.arithmetic.specs.Division.{quotient, remainder}

-- SPEC 1.3: the notes go from -300 to 500.
abbrev pub lowest_note : ℤ
lowest_note = negsuc 299

abbrev pub highest_note : ℤ
highest_note = pos 500

-- SPEC 1.3: whether a number is a note.
abbrev pub is_note : ℤ → Bool
is_note z = le_z lowest_note z && le_z z highest_note

-- SPEC 1.3: A4 is note 69.
abbrev pub a4 : ℤ
a4 = pos 69

-- SPEC 1.4: the letter is the remainder by 12, 0 (C) to 11.
abbrev pub letter_of : ℤ → ℕ
letter_of z = remainder z 12

-- SPEC 1.4a: the octave is the quotient by 12, rounded down, minus 1.
abbrev pub octave_of : ℤ → ℤ
octave_of z = quotient z 12 -ℤ pos 1

-- SPEC 1.3a: MIDI has a number for the notes 0 to 127, and none for the others.
unfoldable pub midi_number : ℤ → Option ℕ
midi_number (pos n) = cond (leb n 127) (some n) none
midi_number (negsuc n) = none

-- ---- SPEC 3.1: the rules of the calls, each of which refuses (4) a number that is no note

unfoldable pub note_rule : ℤ → Outcome ℤ
note_rule z = refuse note_out_of_range unless is_note z then value z

unfoldable pub letter_rule : ℤ → Outcome ℕ
letter_rule z = refuse note_out_of_range unless is_note z then value (letter_of z)

unfoldable pub octave_rule : ℤ → Outcome ℤ
octave_rule z = refuse note_out_of_range unless is_note z then value (octave_of z)

unfoldable pub midi_rule : ℤ → Outcome (Option ℕ)
midi_rule z = refuse note_out_of_range unless is_note z then value (midi_number z)

-- SPEC 3.2: the note is tested, and then the sum.
unfoldable pub plus_rule : ℤ → ℤ → Outcome ℤ
plus_rule z k =
    refuse note_out_of_range unless is_note z then
    refuse note_out_of_range unless is_note (z +ℤ k) then
    value (z +ℤ k)

-- SPEC 3.2a: how many semitones y is before z.
unfoldable pub before_rule : ℤ → ℤ → Outcome ℤ
before_rule y z =
    refuse note_out_of_range unless is_note y then
    refuse note_out_of_range unless is_note z then
    value (z -ℤ y)
