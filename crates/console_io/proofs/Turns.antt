-- A turn of the program is one of `Turn`: of a write, an answer, and a read, which overwrites nothing.
use Prim.Native.Nat.{ℕ, ◌-◌}
use native.Mathlib.Omega.{arith}
use mathlib.Core.Path.{◌≡◌, refl, sym, ap, ◌∙◌}
use mathlib.Core.Bool.{Bool, false}
use mathlib.Core.List.{List, []}
use lib.ListN.{length, take, drop, length-take, length-drop}
use Rattle.std.specs.Prelude.{Option}
use Rattle.std.proofs.lemmas.List.{nil_from_length}
use Rattle.console_io.specs.Stream.{State, Idle, view, part, answer_rule, brought, read_rule, count, write_rule}
use Rattle.console_io.specs.Stream.{Turn, reads, answers, writes}
use Rattle.console_io.specs.declared.stream.Part.{Part}
use Rattle.console_io.specs.declared.stream.Stream.{Stream}

pub turn_writes : (s t : State) (put : Option ℕ) → t ≡ write_rule put s → Turn s [] (take (count put) s.unwritten) t
turn_writes s t put e = rw e (writes put)

pub turn_answers : (s t : State) (room : ℕ) → s.unwritten ≡ [] → t ≡ answer_rule room s → Turn s [] [] t
turn_answers s t room none e = rw e (answers room none)

-- a part that is empty is so in any buffer of that length
still_empty : (p : Part) (before after : List ℕ) → length after ≡ length before → part p before ≡ [] → part p after ≡ []
still_empty p before after same none =
    let size = p.end - p.start in
    nil_from_length (part p after)
    (omega (
      arith,
      ap length none,
      length-take size (drop p.start before),
      length-drop p.start before,
      length-take size (drop p.start after),
      length-drop p.start after,
    ))

pub unread_kept : (s : Stream) (before piece out : List ℕ) → length piece ≡ length before → part s.unanswered before ≡ [] → view s piece out ≡ view s before out
unread_kept s before piece out same none = rw (still_empty s.unanswered before piece same none, none) refl

pub turn_reads : (s : Stream) (t : State) (room : ℕ) (got : Option ℕ) (before piece out : List ℕ) → length piece ≡ length before
    → part s.unanswered before ≡ [] → part s.unwritten out ≡ [] → s.ended ≡ false
    → t ≡ read_rule room got piece (view s piece out) → Turn (view s before out) (brought got piece) [] t
turn_reads s t room got before piece out same none written more e =
    rw (e, unread_kept s before piece out same none)
    (reads room got piece (record { answered = none; written = written; more = more }))

-- nothing is left, by what the stream's functions said
pub idle_from : (s : State) {unwritten unanswered : List ℕ} {ended : Bool} → unwritten ≡ s.unwritten → unanswered ≡ s.unanswered → ended ≡ s.ended
    → length unwritten ≡ 0 → length unanswered ≡ 0 → ended ≡ false → Idle s
idle_from s u v w none all more = record { answered = sym v ∙ nil_from_length _ all; written = sym u ∙ nil_from_length _ none; more = sym w ∙ more }
