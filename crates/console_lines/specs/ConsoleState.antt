-- The console while its input comes, SPEC 10.6: what it holds between two pieces, what a piece does, and runs of calls.
use Rattle.std.specs.Prelude.{ℕ, suc, ◌-◌, ◌≡◌, cond, List, [], ◌∷◌, ◌++◌, length, take, drop, eqb, leb}
use Rattle.channels.specs.Outcome.{Outcome}
use Rattle.senders.specs.Buffer.{Effect, sends, overwrite}
use Rattle.senders.specs.Jit.{Tuner, view as tuner_view}
use Rattle.console_lines.specs.Split.{feed}
use Rattle.console_lines.specs.Console.{opened, answer, answers, next, nonempty}
use Rattle.console_lines.specs.declared.step.BegunLine.{BegunLine}
use Rattle.console_lines.specs.declared.step.Console.{Console}
use Rattle.console_lines.specs.declared.step.Step.{Step}

-- The tuner, and the line that has begun.
pub record ConsoleState : Type 0 where
  pub tuner : Tuner
  pub begun : List ℕ

-- The bytes of the line that has begun.
unfoldable pub begun_of : BegunLine → List ℕ
begun_of l = take l.count l.bytes

abbrev pub view : Console → ConsoleState
view c = record { tuner = tuner_view c.tuner; begun = begun_of c.begun }

-- The state before the input.
abbrev pub start : ConsoleState
start = record { tuner = opened; begun = [] }

-- SPEC 10.6: as much of a line is kept as decides what it means, its 64 bytes, and one more where it is longer.
abbrev pub clip : List ℕ → List ℕ
clip line = take 65 line

-- ---- SPEC 10.2b: a byte of the input; a feed ends the line, any other byte belongs to it

unfoldable pub byte_step : ConsoleState → ℕ → ConsoleState
byte_step s b =
    cond (eqb b feed) (record { tuner = next s.tuner s.begun; begun = [] }) (record { tuner = s.tuner; begun = clip (s.begun ++ (b ∷ [])) })

-- What the byte is answered by.
unfoldable pub byte_answer : ConsoleState → ℕ → List ℕ
byte_answer s b = cond (eqb b feed) (answer s.tuner s.begun) []

-- ---- SPEC 10.6a: a piece of the input, as far as there is room for the answers

-- The state behind what was used of the piece, how many bytes that were, and what was written.
pub record StepResult : Type 0 where
  pub console : ConsoleState
  pub used : ℕ
  pub output : List ℕ

abbrev pub no_step : ConsoleState → StepResult
no_step s = record { console = s; used = 0; output = [] }

-- One byte that answers `out`, and then the rest.
abbrev pub byte_then : List ℕ → StepResult → StepResult
byte_then out r = record { console = r.console; used = suc r.used; output = out ++ r.output }

unfoldable pub step_rule : ℕ → ConsoleState → List ℕ → StepResult
step_rule room s [] = no_step s
step_rule room s (b ∷ bs) =
    cond (leb (length (byte_answer s b)) room) (byte_then (byte_answer s b) (step_rule (room - length (byte_answer s b)) (byte_step s b) bs)) (no_step s)

-- What `Console::step` answers, and the buffer and the state at exit.
pub record StepMeets (s : ConsoleState) (piece old new : List ℕ) (t : ConsoleState) (r : Step) : Type 0 where
  pub state_is : t ≡ (step_rule (length old) s piece).console
  pub used_is : r.used ≡ (step_rule (length old) s piece).used
  pub written_is : r.written ≡ length (step_rule (length old) s piece).output
  pub buffer_is : new ≡ overwrite (step_rule (length old) s piece).output old

-- SPEC 10.2b: the end of the input ends a line that has begun.
unfoldable pub finish : ConsoleState → List ℕ
finish s = answers s.tuner (nonempty s.begun)

-- The state when a line has ended: it is answered, and no other line has begun.
abbrev pub line_ended : ConsoleState → ConsoleState
line_ended s = record { tuner = next s.tuner s.begun; begun = [] }

-- The state at the end of the input: an empty line, where none has begun, leaves the tuner as it is.
abbrev pub finish_rule : ConsoleState → Outcome (Effect ℕ ConsoleState)
finish_rule s = sends (finish s) (line_ended s)

-- ---- a run of the program as its calls: what a call leaves of its piece goes before the rest of the input

-- From a state, over an input, to a state, with the bytes written.
pub data Calls : ConsoleState → List ℕ → ConsoleState → List ℕ → Type 0 where
  none : {s : ConsoleState} → Calls s [] s []
  call : {s s' : ConsoleState} {out : List ℕ} (room : ℕ) (piece rest : List ℕ) (r : StepResult) → r ≡ step_rule room s piece
      → Calls r.console (drop r.used piece ++ rest) s' out → Calls s (piece ++ rest) s' (r.output ++ out)
