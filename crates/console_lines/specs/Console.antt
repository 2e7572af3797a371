-- The console program, SPEC 10: what it answers to a line, and what it writes for an input.
use Rattle.std.specs.Prelude.{ℕ, List, [], ◌∷◌, ◌++◌, pos, Float}
use Rattle.std.specs.Float.{binary64}
use Rattle.std.specs.Float.Ieee.{of_int, div}
use Rattle.channels.specs.Outcome.{Outcome, value, refused}
use Rattle.channels.specs.declared.tuning_value.TuningKind.TheVariants.{FineTuning}
use Rattle.pools.specs.declared.settings.PoolingMode.TheVariants.{Stop}
use Rattle.pools.specs.declared.settings.Retrigger.TheVariants.{Off}
use Rattle.senders.specs.Buffer.{Effect, sends, state_after}
use Rattle.senders.specs.Jit.{Tuner, PressResult, start_rule}
use Rattle.senders.specs.Event.{play_rule}
use Rattle.console_lines.specs.Split.{feed, split}
use Rattle.console_lines.specs.Line.{Event, event, meaning}
use Rattle.console_lines.specs.Show.{bytes_line, refusal_line}

-- SPEC 10.1: its tuner has channels 0 and 1, fine tuning and Stop, and no retrigger.
unfoldable pub opened : Tuner
opened = (start_rule (0 ∷ 1 ∷ []) FineTuning Stop Off).1

-- SPEC 10.3a: the pitch in Hz is millihertz as f64, divided by 1000.
unfoldable pub pitch_of : ℕ → Float
pitch_of millihertz = div binary64 (of_int binary64 (pos millihertz)) (of_int binary64 (pos 1000))

-- ---- a line answered

-- SPEC 10.4: of a press the console shows the bytes alone; one that is rejected has none without retrigger, which the console's tuner is.
unfoldable pub bytes_alone : Outcome (Effect PressResult Tuner) → Outcome (Effect ℕ Tuner)
bytes_alone (value e) = sends e.bytes e.next
bytes_alone (refused n) = refused n

-- SPEC 10.3, 10.2c: what the tuner does on an event; a malformed line does not reach it.
unfoldable pub event_rule : Tuner → Outcome Event → Outcome (Effect ℕ Tuner)
event_rule t (value (event k key m v)) = bytes_alone (play_rule t (record { kind = k; key = key; pitch = record { hz = pitch_of m }; velocity = v }))
event_rule t (refused n) = refused n

-- SPEC 10.4: the answer's line.
unfoldable pub shown : Outcome (Effect ℕ Tuner) → List ℕ
shown (value e) = bytes_line e.bytes
shown (refused n) = refusal_line n

unfoldable pub answer : Tuner → List ℕ → List ℕ
answer t line = shown (event_rule t (meaning line))

-- SPEC 1.9: the tuner afterwards, which a refusal leaves as it was.
unfoldable pub next : Tuner → List ℕ → Tuner
next t line = state_after t (event_rule t (meaning line))

-- SPEC 10.1a: each line is answered with one line.
abbrev pub line_rule : Tuner → List ℕ → Outcome (Effect ℕ Tuner)
line_rule t line = sends (answer t line) (next t line)

-- ---- an input answered

-- SPEC 10.2b: an end right behind a feed begins no line.
unfoldable pub nonempty : List ℕ → List (List ℕ)
nonempty [] = []
nonempty (b ∷ s) = (b ∷ s) ∷ []

-- SPEC 10.2b: all parts between feeds are lines, but an empty last part is none.
unfoldable pub ended : List (List ℕ) → List (List ℕ)
ended [] = []
ended (f ∷ []) = nonempty f
ended (f ∷ g ∷ gs) = f ∷ ended (g ∷ gs)

-- SPEC 10.2b: a line ends at a line feed or at the end of the input.
unfoldable pub lines_of : List ℕ → List (List ℕ)
lines_of input = ended (split feed input)

-- SPEC 10.1a: lines are answered in their order.
unfoldable pub answers : Tuner → List (List ℕ) → List ℕ
answers t [] = []
answers t (l ∷ ls) = answer t l ++ answers (next t l) ls

-- What the program writes for an input.
unfoldable pub output : List ℕ → List ℕ
output input = answers opened (lines_of input)
