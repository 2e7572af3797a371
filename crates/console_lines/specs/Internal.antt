-- What the private functions of the library answer. No public contract rests on these words.
use Rattle.std.specs.Prelude.{ℕ, List, ◌++◌, Some, None}
use Rattle.std.specs.Prelude.{Option as Optional}
use Rattle.channels.specs.Outcome.{Outcome, value, refused}
use Rattle.channels.specs.Refusal.{line_malformed}
use Rattle.senders.specs.Buffer.{Effect, sends}
use Rattle.console_lines.specs.Line.{Event, parsed}
use Rattle.console_lines.specs.declared.line.ParsedEvent.{ParsedEvent}
use Rattle.console_lines.specs.Console.{answer}
use Rattle.console_lines.specs.ConsoleState.{ConsoleState, clip, line_ended}

-- SPEC 10.2c, for `line::event_of`: a line without an event is malformed.
abbrev pub parsed_outcome : Optional ParsedEvent → Outcome Event
parsed_outcome (Some e) = value (parsed e)
parsed_outcome None = refused line_malformed

-- SPEC 10.6, for `Console::lengthen`: more bytes of a line that has begun.
abbrev pub longer_by : ConsoleState → List ℕ → ConsoleState
longer_by s more = record { tuner = s.tuner; begun = clip (s.begun ++ more) }

-- For `Console::end_line`: the line that has begun is answered and ends.
abbrev pub line_end_rule : ConsoleState → Outcome (Effect ℕ ConsoleState)
line_end_rule s = sends (answer s.tuner s.begun) (line_ended s)
