-- The lists of a plan, SPEC 6.1a and 6.1b: keys with notes and detunings, or keys with pitches, whose notes and detunings are those of the nearest notes. They
-- are refused by 12, then line by line by 4, 3, 5, or by 1, 5 where pitches are given.
use Rattle.std.specs.Prelude.{Bool, false, not, ◌&&◌, List, [], ◌∷◌, ℕ, eqb, ℤ, pos, negsuc, Float, length}
use Rattle.std.specs.Float.{fin}
use Rattle.std.specs.Float.Ieee.{le}
use Rattle.arithmetic.specs.Refusal.{detuning_out_of_range, note_out_of_range, key_twice, lists_unequal}
use Rattle.arithmetic.specs.Outcome.{Outcome, value, refused, refuse◌unless◌then◌}
use Rattle.arithmetic.specs.Note.{is_note}
use Rattle.arithmetic.specs.Nearest.{nearest_rule}
pub use Rattle.channels.specs.Keys.{key_count}
use Rattle.channels.specs.Lists.{member}
use Rattle.channels.specs.FirstRefusal.{one_by_one}
use Rattle.plans.specs.PlanLine.{PlanLine, keys}

-- SPEC 6.1b: a planned detuning is from 0.5 to 2; no comparison with a NaN holds. (`fin false m e` is the f64 m * 2 ^ e.)
unfoldable pub is_planned : Float → Bool
is_planned d = le (fin false 1 (negsuc 0)) d && le d (fin false 1 (pos 1))

-- ---- SPEC 6.1b: a line by itself, refused by 4, 3, or by 1

unfoldable pub note_line : ℕ → ℤ → Float → Outcome PlanLine
note_line k n d =
    refuse note_out_of_range unless is_note n then
    refuse detuning_out_of_range unless is_planned d then
    value (record { key = k; note = n; detuning = d })

abbrev pub with_key : ℕ → Outcome (ℤ × Float) → Outcome PlanLine
with_key k (value nearest) = value (record { key = k; note = nearest.0; detuning = nearest.1 })
with_key k (refused r) = refused r

unfoldable pub pitch_line : ℕ → Float → Outcome PlanLine
pitch_line k hz = with_key k (nearest_rule hz)

unfoldable pub note_lines : List ℕ → List ℤ → List Float → List (Outcome PlanLine)
note_lines [] ns ds = []
note_lines (k ∷ ks) [] ds = []
note_lines (k ∷ ks) (n ∷ ns) [] = []
note_lines (k ∷ ks) (n ∷ ns) (d ∷ ds) = note_line k n d ∷ note_lines ks ns ds

unfoldable pub pitch_lines : List ℕ → List Float → List (Outcome PlanLine)
pitch_lines [] hzs = []
pitch_lines (k ∷ ks) [] = []
pitch_lines (k ∷ ks) (hz ∷ hzs) = pitch_line k hz ∷ pitch_lines ks hzs

-- ---- SPEC 2.2, 6.1b: line by line

-- SPEC 6.1b: a line that is not refused by itself is refused for its key (5) if that came before; `before` are the lines before.
unfoldable pub line_rule : List PlanLine → Outcome PlanLine → Outcome PlanLine
line_rule before (refused r) = refused r
line_rule before (value l) = refuse key_twice unless not (member l.key (keys before)) then value l

-- The lines of a list, if none is refused.
abbrev pub line_by_line : List PlanLine → List (Outcome PlanLine) → Outcome (List PlanLine)
line_by_line before rows = one_by_one line_rule before rows

-- SPEC 6.1a: lists of unequal length are refused (12) before any line is read.
unfoldable pub note_lists : List ℕ → List ℤ → List Float → Outcome (List PlanLine)
note_lists ks ns ds =
    refuse lists_unequal unless eqb (length ns) (length ks) && eqb (length ds) (length ks) then
    line_by_line [] (note_lines ks ns ds)

unfoldable pub pitch_lists : List ℕ → List Float → Outcome (List PlanLine)
pitch_lists ks hzs =
    refuse lists_unequal unless eqb (length hzs) (length ks) then
    line_by_line [] (pitch_lines ks hzs)
