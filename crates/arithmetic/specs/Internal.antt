-- What the private functions of the crate yield. No public contract cites it.
use mir.Val.{bool_byte}
use Rattle.std.specs.Prelude.{◌≡◌, Bool, ◌&&◌, leb, List, ℕ, suc, ◌+◌, ◌-◌, ◌*◌, ◌/◌, ◌^◌, ◌<◌, ℤ, pos, ◌+ℤ◌, ◌-ℤ◌, ◌*ℤ◌, get_or, false, Float, Option, Some, None}
use Rattle.std.specs.Float.{binary64}
use Rattle.std.specs.Float.Ieee.{round}
use Rattle.arithmetic.specs.Refusal.{pitch_out_of_range, not_measurable}
use Rattle.arithmetic.specs.Outcome.{Outcome, value, refused, refuse◌unless◌then◌}
use Rattle.arithmetic.specs.Measure.{digits}
use Rattle.arithmetic.specs.Note.{a4}
use Rattle.arithmetic.specs.Pitch.{is_pitch, significands}
use Rattle.arithmetic.specs.declared.pitch.Binary.{Binary}

-- SPEC 1.2: a pitch in range, or refusal 1.
abbrev pub range_rule : Float → Outcome Float
range_rule hz = refuse pitch_out_of_range unless is_pitch hz then value hz

-- The octave, counted from 2 ^ -1074 on, and the first 32 digits write a measure, and no more is said of them.
abbrev pub WritesOut : Binary → Outcome ℤ → Type 0
WritesOut b m = (b.octave < 2 ^ 12) × (b.first < 2 ^ 32) × (m ≡ value (pos (b.octave * 2 ^ 24 + digits 24 b.first) -ℤ pos (1074 * 2 ^ 24)))

-- They write it, or there is none.
abbrev pub Writes : Option Binary → Outcome ℤ → Type 0
Writes (Some b) m = WritesOut b m
Writes None m = m ≡ refused not_measurable

-- How many semitones lie within the octave, from the first 32 digits: Nearest `semitones` of the digits alone, from 0 to 12. 8388318 is 8388608 - 290.
unfoldable pub within : ℕ → ℕ
within y = (digits 24 y * 12 + 8388318) / 2 ^ 24

-- SPEC 4.3a: R[k], and 2 from 12 semitones on, an octave's.
unfoldable pub factor_to12 : ℕ → Float
factor_to12 k = round binary64 false (get_or significands k (2 ^ 53)) (2 ^ 52)

-- The note j octaves and k semitones above A4.
unfoldable pub note_at : ℤ → ℕ → ℤ
note_at j k = a4 +ℤ (j *ℤ pos 12 +ℤ pos k)

-- Entry i of a table of boundaries is the first number with more than i semitones.
abbrev pub boundary : List ℕ → ℕ → Bool
boundary ts i = let t = get_or ts i 0 in leb (suc i) (within t) && (leb (within (t - 1)) i && leb t (2 ^ 32))

-- 1 for a boundary that y has come to, else 0.
abbrev pub come_to : ℕ → ℕ → ℕ
come_to y t = bool_byte (leb t y)
