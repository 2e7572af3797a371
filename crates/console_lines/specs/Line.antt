-- What a line means, by its fields: an event, or refusal 13. SPEC 10.2.
use Rattle.std.specs.Prelude.{ℕ, cond, ◌&&◌, List, [], ◌∷◌, length, leb}
use Rattle.std.specs.Str.{bytes_eq}
use Rattle.std.proofs.Math.Option.{Option, some, none}
use Rattle.channels.specs.Outcome.{Outcome, value, refused, refuse◌unless◌then◌}
use Rattle.channels.specs.Refusal.{line_malformed}
use Rattle.console_lines.specs.Split.{comma, split}
use Rattle.console_lines.specs.Grammar.{word, digits, decimal, allowed}
use Rattle.senders.specs.declared.event.EventKind.{EventKind}
use Rattle.senders.specs.declared.event.EventKind.TheVariants.{Press, Release, Repitch}
use Rattle.console_lines.specs.declared.line.ParsedEvent.{ParsedEvent}

-- An event has a kind, a key, millihertz and a velocity.
pub data Event : Type 0 where
  event : EventKind → ℕ → ℕ → ℕ → Event

-- SPEC 10.2: the kind that a field names.
unfoldable pub kind_of : List ℕ → Option EventKind
kind_of s = cond (bytes_eq s (word Press)) (some Press) (cond (bytes_eq s (word Release)) (some Release) (cond (bytes_eq s (word Repitch)) (some Repitch) none))

-- SPEC 10.2a: the number that 1 to `places` digits spell.
unfoldable pub number : ℕ → List ℕ → Option ℕ
number places s = cond ((leb 1 (length s) && leb (length s) places) && digits s) (some (decimal 0 s)) none

-- SPEC 10.2a: an event, where each of the four fields can be read and the values are allowed.
unfoldable pub event_of : Option EventKind → Option ℕ → Option ℕ → Option ℕ → Outcome Event
event_of none a m v = refused line_malformed
event_of (some k) none m v = refused line_malformed
event_of (some k) (some a) none v = refused line_malformed
event_of (some k) (some a) (some m) none = refused line_malformed
event_of (some k) (some a) (some m) (some v) = refuse line_malformed unless allowed k a m v then value (event k a m v)

-- SPEC 10.2: a line has four fields, which are kind, key, millihertz and velocity.
unfoldable pub of_fields : List (List ℕ) → Outcome Event
of_fields [] = refused line_malformed
of_fields (k ∷ []) = refused line_malformed
of_fields (k ∷ a ∷ []) = refused line_malformed
of_fields (k ∷ a ∷ m ∷ []) = refused line_malformed
of_fields (k ∷ a ∷ m ∷ v ∷ []) = event_of (kind_of k) (number 3 a) (number 9 m) (number 3 v)
of_fields (k ∷ a ∷ m ∷ v ∷ f ∷ fs) = refused line_malformed

-- SPEC 10.2, 10.2b: a line has at most 64 bytes, and its fields are separated by commas.
unfoldable pub meaning : List ℕ → Outcome Event
meaning line = refuse line_malformed unless leb (length line) 64 then of_fields (split comma line)

-- The parser's event in these words.
abbrev pub parsed : ParsedEvent → Event
parsed e = event e.kind e.key e.millihertz e.velocity
