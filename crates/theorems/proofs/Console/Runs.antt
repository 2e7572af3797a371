-- What the program has written is the start of what it writes for the whole input, whatever is still to come; and where the input has ended and
-- nothing is left to be written, it is all of it.
use Prim.Native.Nat.{ℕ, ◌≤◌, ◌<◌}
use native.Mathlib.Omega.{arith}
use mathlib.Core.Path.{◌≡◌, refl, sym, ◌∙◌, ap}
use mathlib.Core.Bool.{Bool, true, false, cond, false≢true}
use mathlib.Core.List.{List, [], ◌∷◌, ◌++◌, append_assoc, append-nil}
use lib.ListN.{length, take, drop, length-drop, take-append-drop}
use Rattle.std.specs.Prelude.{Option, Some, None}
use lib.Dec.{leb}
use borrow.Author.Tests.{le-leb}
use Rattle.console_lines.specs.Split.{feed}
use Rattle.console_lines.specs.Console.{opened, answer, answers, nonempty, ended, lines_of, output}
use Rattle.console_lines.specs.ConsoleState.{ConsoleState, step_rule, line_ended, finish}
use Rattle.console_lines.proofs.Text.Splits.{into_none}
use Rattle.console_lines.proofs.Steps.Rooms.{answer_room, rule_uses}
use Rattle.theorems.specs.ConsoleOutput.{ahead}
use Rattle.theorems.proofs.Console.Streaming.{ahead_none, ahead_step}
use Rattle.console_io.specs.Stream.{State, start, answer_rule, end_rule, brought, receive, read_rule, count, write_rule}
use Rattle.console_io.specs.Stream.{Idle, Turn, rests, reads, writes, Reached, starts, turns}
use Rattle.console_io.specs.Stream.{answers as answering}
use Rattle.console_io.specs.Bytes.{RanOver, Finished}

-- What was written is said while the input is open, and once it has ended.
record Written (s : State) (input put : List ℕ) : Type 0 where
  more : s.ended ≡ false → (rest : List ℕ) → put ++ (s.unwritten ++ ahead s.console (s.unanswered ++ rest)) ≡ output (input ++ rest)
  all : s.ended ≡ true → (s.unanswered ≡ []) × (put ++ s.unwritten ≡ output input)

written_start : Written start [] []
unfolding output lines_of ahead
written_start = record { more = λ e rest. ap (λ (x : List (List ℕ)). answers opened (ended x)) (into_none feed rest); all = λ e. absurd (false≢true e) }

-- Nothing was read, and nothing written.
written_nothing : {s : State} {input put : List ℕ} → Written s input put → Written s (input ++ []) (put ++ [])
written_nothing {s} {input} {put} w = rw (append-nil input, append-nil put) w

-- Bytes came when all before them was answered and written.
written_came : {s : State} {input put : List ℕ} (bytes : List ℕ) → Idle s → Written s input put
    → Written (record { console = s.console; unanswered = bytes; unwritten = s.unwritten; ended = s.ended }) (input ++ bytes) put
written_came {s} {input} {put} bytes idle w =
    record {
      more = λ e rest.
          ap (λ (l : List ℕ). put ++ (s.unwritten ++ ahead s.console (l ++ (bytes ++ rest)))) (sym idle.answered)
          ∙ w.more e (bytes ++ rest)
          ∙ ap output (sym (append_assoc input bytes rest));
      all = λ e. absurd (false≢true (sym idle.more ∙ e));
    }

-- The input has ended.
written_closed : {s : State} {input put : List ℕ} (room : ℕ) → Idle s → Written s input put → Written (end_rule room s) input put
written_closed {s} {input} {put} room idle w = go (leb (length (finish s.console)) room)
  where
    go : (b : Bool) → Written (cond b (record { console = line_ended s.console; unanswered = []; unwritten = finish s.console; ended = true }) s) input put
    go true =
        record {
          more = λ e. absurd (false≢true (sym e));
          all = λ e. (
            refl,
            ap (λ (l : List ℕ). put ++ l) (sym (ahead_none s.console))
                ∙ ap (λ (l : List ℕ). put ++ (l ++ ahead s.console [])) (sym idle.written)
                ∙ ap (λ (l : List ℕ). put ++ (s.unwritten ++ ahead s.console (l ++ []))) (sym idle.answered)
                ∙ w.more idle.more []
                ∙ ap output (append-nil input),
          );
        }
    go false = w

written_read : {s : State} {input put : List ℕ} (room : ℕ) (got : Option ℕ) (buffer : List ℕ) → Idle s → Written s input put
    → Written (read_rule room got buffer s) (input ++ brought got buffer) put
unfolding read_rule brought receive
written_read {s} {input} {put} room None buffer idle w = rw (append-nil input) w
written_read {s} {input} {put} room (Some n) buffer idle w = go (take n buffer)
  where
    go : (bytes : List ℕ) → Written (receive room bytes s) (input ++ bytes) put
    go [] = rw (append-nil input) (written_closed room idle w)
    go (b ∷ bytes) = written_came (b ∷ bytes) idle w

written_answered : {s : State} {input put : List ℕ} (room : ℕ) → s.unwritten ≡ [] → Written s input put → Written (answer_rule room s) input put
unfolding step_rule
written_answered {s} {input} {put} room none w =
    record {
      more = λ e rest.
          ap (λ (l : List ℕ). put ++ l) (sym (ahead_step room s.console s.unanswered rest))
          ∙ ap (λ (l : List ℕ). put ++ (l ++ ahead s.console (s.unanswered ++ rest))) (sym none)
          ∙ w.more e rest;
      all = λ e. go s.unanswered (w.all e).0 (ap (λ (l : List ℕ). put ++ l) (sym none) ∙ (w.all e).1);
    }
  where
    go : (l : List ℕ) → l ≡ [] → put ++ [] ≡ output input
        → (drop (step_rule room s.console l).used l ≡ []) × (put ++ (step_rule room s.console l).output ≡ output input)
    go [] e h = (refl, h)
    go (b ∷ l) e h = absurd (let z : length (b ∷ l) ≡ 0 = ap length e in omega arith)

written_wrote : {s : State} {input put : List ℕ} (n : Option ℕ) → Written s input put → Written (write_rule n s) input (put ++ take (count n) s.unwritten)
written_wrote {s} {input} {put} n w =
    let u = s.unwritten in
    let k = count n in
    record {
      more = λ e rest.
          append_assoc put (take k u) (drop k u ++ ahead s.console (s.unanswered ++ rest))
          ∙ ap (λ (l : List ℕ). put ++ l) (sym (append_assoc (take k u) (drop k u) (ahead s.console (s.unanswered ++ rest))))
          ∙ ap (λ (l : List ℕ). put ++ (l ++ ahead s.console (s.unanswered ++ rest))) (take-append-drop k u)
          ∙ w.more e rest;
      all = λ e. (
        (w.all e).0,
        append_assoc put (take k u) (drop k u) ∙ ap (λ (l : List ℕ). put ++ l) (take-append-drop k u) ∙ (w.all e).1,
      );
    }

written_turn : {s t : State} {input put read more : List ℕ} → Turn s read more t → Written s input put → Written t (input ++ read) (put ++ more)
written_turn rests w = written_nothing w
written_turn {put = put} (reads room got buffer idle) w = rw (append-nil put) (written_read room got buffer idle w)
written_turn {input = input} {put = put} (answering room none) w = rw (append-nil input, append-nil put) (written_answered room none w)
written_turn {input = input} (writes n) w = rw (append-nil input) (written_wrote n w)

written : {s : State} {input put : List ℕ} → Reached s input put → Written s input put
written starts = written_start
written (turns r t) = written_turn t (written r)

-- While the input is open, what is written, then what is to be written, then what the state and the bytes not yet answered ask are the output for the input,
-- whatever is still to come of it.
pub so_far : {s : State} {input put : List ℕ} → Reached s input put → s.ended ≡ false → (rest : List ℕ)
    → put ++ (s.unwritten ++ ahead s.console (s.unanswered ++ rest)) ≡ output (input ++ rest)
so_far r = (written r).more

-- Once the input has ended and all is written, the output for the input has been written.
pub whole_run : {s : State} {input put : List ℕ} → Reached s input put → s.ended ≡ true → s.unwritten ≡ [] → put ≡ output input
whole_run {s} {input} {put} r e none = sym (append-nil put) ∙ ap (λ (l : List ℕ). put ++ l) (sym none) ∙ ((written r).all e).1

-- So a run that has finished has read all that the reader had, and has given the writer the output for it, where both are known.
pub whole_bytes : {size : ℕ} {input rest held holds : List ℕ} {s : State} → 0 < size → RanOver size (Some input) (Some rest) (Some held) (Some holds) s
    → Finished s → (rest ≡ []) × (holds ≡ held ++ output input)
whole_bytes {input = input} {rest = rest} {held = held} some r f =
    let none : rest ≡ [] = r.behind f.ended some in
    let all : r.input ≡ input = sym (append-nil r.input) ∙ ap (λ (l : List ℕ). r.input ++ l) (sym none) ∙ sym r.taken in
    (none, r.given ∙ ap (λ (l : List ℕ). held ++ l) (whole_run r.reached f.ended f.written ∙ ap output all))

-- ---- with room for an answer the program goes on

-- Some of what was read is answered.
pub answers_some : (room : ℕ) (s : State) → 63 ≤ room → 0 < length s.unanswered → length (answer_rule room s).unanswered < length s.unanswered
answers_some room s h some =
    omega (arith, length-drop (step_rule room s.console s.unanswered).used s.unanswered, rule_uses room s.console s.unanswered h some)

finish_room : (c : ConsoleState) → length (finish c) ≤ 63
unfolding finish answers nonempty
finish_room c = go c.begun
  where
    go : (l : List ℕ) → length (answers c.tuner (nonempty l)) ≤ 63
    go [] = omega arith
    go (b ∷ l) = rw (append-nil (answer c.tuner (b ∷ l))) (answer_room c.tuner (b ∷ l))

-- And the end of the input is taken.
pub ends : (room : ℕ) (s : State) → 63 ≤ room → (end_rule room s).ended ≡ true
ends room s h = rw (le-leb (length (finish s.console)) room (omega (arith, finish_room s.console))) refl
