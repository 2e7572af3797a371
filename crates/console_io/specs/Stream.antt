-- The console program between its calls of the system, SPEC 10.7: what it has read and not yet answered, what it has answered and not yet written, and what a
-- read and a write do to these, by what POSIX has them answer.
use Rattle.std.specs.Prelude.{ℕ, ◌≡◌, Bool, true, false, cond, List, [], ◌∷◌, ◌++◌, length, take, drop, slice_range, leb, Option, Some, None, unwrap_or}
use Rattle.senders.specs.Buffer.{check_room, buffer_after}
use Rattle.console_lines.specs.ConsoleState.{ConsoleState, view as console_view, step_rule, line_ended, finish, finish_rule}
use Rattle.console_lines.specs.ConsoleState.{start as opened}
use Rattle.console_io.specs.declared.stream.Part.{Part}
use Rattle.console_io.specs.declared.stream.Stream.{Stream}

pub record State : Type 0 where
  pub console : ConsoleState
  pub unanswered : List ℕ
  pub unwritten : List ℕ
  pub ended : Bool

-- The bytes of a list from one place to another, as far as it has them.
abbrev pub part : Part → List ℕ → List ℕ
part p l = slice_range l p.start p.end

-- A stream with its two buffers, which are what was read, and what is to be written.
abbrev pub view : Stream → List ℕ → List ℕ → State
view s piece out =
    record {
      console = console_view s.console;
      unanswered = part s.unanswered piece;
      unwritten = part s.unwritten out;
      ended = s.ended;
    }

-- The state before the input.
abbrev pub start : State
start = record { console = opened; unanswered = []; unwritten = []; ended = false }

-- ---- SPEC 10.6a: answers

-- SPEC 10.6a: what was read is answered, as far as there is room.
abbrev pub answer_rule : ℕ → State → State
answer_rule room s =
    let r = step_rule room s.console s.unanswered in
    record { console = r.console; unanswered = drop r.used s.unanswered; unwritten = r.output; ended = s.ended }

-- SPEC 10.2b: the input has ended, and so has a line that has begun; where there is no room for its answer nothing is done.
abbrev pub end_rule : ℕ → State → State
end_rule room s =
    let text = finish s.console in
    cond (leb (length text) room) (record { console = line_ended s.console; unanswered = []; unwritten = text; ended = true }) s

-- ---- calls of the system, by their answers: so many bytes were moved, or the call failed

-- What a read brought, by its answer and the buffer afterwards.
unfoldable pub brought : Option ℕ → List ℕ → List ℕ
brought (Some n) buffer = take n buffer
brought None buffer = []

-- SPEC 10.7: a read that brings nothing ends the input.
unfoldable pub receive : ℕ → List ℕ → State → State
receive room [] s = end_rule room s
receive room (b ∷ bytes) s = record { console = s.console; unanswered = b ∷ bytes; unwritten = s.unwritten; ended = s.ended }

-- SPEC 10.7a: a read that fails says nothing of the input.
unfoldable pub read_rule : ℕ → Option ℕ → List ℕ → State → State
read_rule room (Some n) buffer s = receive room (take n buffer) s
read_rule room None buffer s = s

-- How much of what was to be written a write took.
abbrev pub count : Option ℕ → ℕ
count put = unwrap_or put 0

abbrev pub write_rule : Option ℕ → State → State
write_rule put s = record { console = s.console; unanswered = s.unanswered; unwritten = drop (count put) s.unwritten; ended = s.ended }

-- ---- the buffer of answers afterwards

unfoldable pub receive_buffer : List ℕ → State → List ℕ → List ℕ
receive_buffer [] s old = buffer_after (check_room (length old) (finish_rule s.console)) old
receive_buffer (b ∷ bytes) s old = old

unfoldable pub read_buffer : Option ℕ → List ℕ → State → List ℕ → List ℕ
read_buffer (Some n) buffer s old = receive_buffer (take n buffer) s old
read_buffer None buffer s old = old

-- What a call leaves: the state, and the buffer.
pub record Leaves (rule : State) (buffer : List ℕ) (state : State) (new : List ℕ) : Type 0 where
  pub state_is : state ≡ rule
  pub buffer_is : new ≡ buffer

-- ---- turns of the program, each with the bytes that it read and those that were written

-- All that was read is answered and written.
pub record Idle (s : State) : Type 0 where
  pub answered : s.unanswered ≡ []
  pub written : s.unwritten ≡ []
  pub more : s.ended ≡ false

-- SPEC 10.7: in a turn nothing is done, or there is a read, whatever it answers, or what was read is answered, or there is a write, whatever it answers.
pub data Turn : State → List ℕ → List ℕ → State → Type 0 where
  rests : {s : State} → Turn s [] [] s
  reads : {s : State} (room : ℕ) (got : Option ℕ) (buffer : List ℕ) → Idle s → Turn s (brought got buffer) [] (read_rule room got buffer s)
  answers : {s : State} (room : ℕ) → s.unwritten ≡ [] → Turn s [] [] (answer_rule room s)
  writes : {s : State} (put : Option ℕ) → Turn s [] (take (count put) s.unwritten) (write_rule put s)

-- A state that turns lead to from the start, having read `input` and written `output`.
pub data Reached : State → List ℕ → List ℕ → Type 0 where
  starts : Reached start [] []
  turns : {s t : State} {input output read put : List ℕ} → Reached s input output → Turn s read put t → Reached t (input ++ read) (output ++ put)

-- What the program's functions answer: some turns.
pub record Ran (s : State) : Type 0 where
  pub input : List ℕ
  pub output : List ℕ
  pub reached : Reached s input output
