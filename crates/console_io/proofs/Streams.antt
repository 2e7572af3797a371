-- What each function of a stream does to its state.
use Prim.Native.Nat.{ℕ, ◌+◌, min}
use mathlib.Core.Path.{◌≡◌, refl, sym, ◌∙◌, ap}
use mathlib.Core.Bool.{true}
use mathlib.Core.List.{List, [], ◌∷◌}
use lib.ListN.{length, take, drop}
use lib.Seq.{take_at, drop-drop}
use borrow.Author.Tests.{le-leb, lt-leb}
use Rattle.std.specs.Prelude.{Option, Some}
use Rattle.std.proofs.lemmas.List.{drop_min, nil_from_length}
use Rattle.std.proofs.lemmas.Slice.{between_is}
use Rattle.channels.specs.Outcome.{value, refused}
use Rattle.senders.specs.Buffer.{CallMeets, overwrite}
use Rattle.console_lines.specs.ConsoleState.{view as console_view, StepMeets, step_rule, finish, finish_rule}
use Rattle.console_lines.specs.declared.step.Step.{Step}
use Rattle.console_lines.specs.declared.step.Console.{Console}
use Rattle.console_lines.proofs.Text.Puts.{sent_all, sent_none}
use Rattle.console_io.specs.Stream.{view, part, answer_rule, end_rule, receive, read_rule, receive_buffer, read_buffer, write_rule, count, Leaves}
use Rattle.console_io.specs.declared.stream.Part.{Part}
use Rattle.console_io.specs.declared.stream.Stream.{Stream}

-- a part without its first bytes
abbrev without_first : ℕ → Part → Part
without_first n p = record { start = p.start + n; end = p.end }

part_without_first : (n : ℕ) (p : Part) (l : List ℕ) → part (without_first n p) l ≡ drop n (part p l)
part_without_first n p l =
    between_is l (p.start + n) p.end ∙ sym (drop-drop n p.start (take p.end l)) ∙ ap (drop n) (sym (between_is l p.start p.end))

-- ---- a write

pub wrote_law : (s : Stream) (put : Option ℕ) (n : ℕ) (piece out : List ℕ) → n ≡ min (count put) (length (part s.unwritten out))
    → view (record { console = s.console; unanswered = s.unanswered; unwritten = without_first n s.unwritten; ended = s.ended }) piece out
    ≡ write_rule put (view s piece out)
wrote_law s put n piece out e = rw (part_without_first n s.unwritten out, e, drop_min (count put) (part s.unwritten out))

-- ---- answers

pub answer_law : (s : Stream) (t : Console) (u : Part) (r : Step) (piece old new : List ℕ) → ((l : List ℕ) → part u l ≡ take r.written l)
    → StepMeets (console_view s.console) (part s.unanswered piece) old new (console_view t) r
    → (let next = answer_rule (length old) (view s piece old) in
    Leaves next (overwrite next.unwritten old)
    (view (record { console = t; unanswered = without_first r.used s.unanswered; unwritten = u; ended = s.ended }) piece new) new)
answer_law s t u r piece old new first p =
    let v = view s piece old in
    let q = step_rule (length old) v.console v.unanswered in
    let out : part u new ≡ q.output =
    rw (first new, p.written_is, p.buffer_is) (take_at q.output (drop (length q.output) old) (length q.output) refl) in
    let rest : part (without_first r.used s.unanswered) piece ≡ drop q.used v.unanswered =
    rw (part_without_first r.used s.unanswered piece, p.used_is) in
    record { state_is = cc (p.state_is, out, rest); buffer_is = p.buffer_is }

-- ---- the end of the input

pub end_written : (s : Stream) (t : Console) (u v : Part) (n : ℕ) (piece old new : List ℕ)
    → ((l : List ℕ) → part u l ≡ []) → ((l : List ℕ) → part v l ≡ take n l)
    → CallMeets console_view (finish_rule (console_view s.console)) s.console old (value n) t new
    → Leaves (end_rule (length old) (view s piece old)) (receive_buffer [] (view s piece old) old)
    (view (record { console = t; unanswered = u; unwritten = v; ended = true }) piece new) new
unfolding receive_buffer
end_written s t u v n piece old new none first a =
    let text = finish (console_view s.console) in
    let sent = sent_all {view = console_view} a in
    let fits = le-leb (length text) (length old) sent.fits in
    let out : part v new ≡ text = rw (first new, sent.count_is, sent.buffer_is) (take_at text (drop (length text) old) (length text) refl) in
    record { state_is = rw fits (cc (sent.next_is, out, none piece)); buffer_is = rw fits sent.buffer_is }

pub end_refused : (s : Stream) (t : Console) (m : ℕ) (piece old new : List ℕ)
    → CallMeets console_view (finish_rule (console_view s.console)) s.console old (refused m) t new
    → Leaves (end_rule (length old) (view s piece old)) (receive_buffer [] (view s piece old) old)
    (view (record { console = t; unanswered = s.unanswered; unwritten = s.unwritten; ended = s.ended }) piece new) new
unfolding receive_buffer
end_refused s t m piece old new a =
    let none = sent_none {view = console_view} a in
    let short = lt-leb (length (finish (console_view s.console))) (length old) none.short in
    record { state_is = rw (short, none.buffer_is, none.back_is) refl; buffer_is = rw short none.buffer_is }

-- ---- a read

module _ (s : Stream) (got : Option ℕ) (n : ℕ) (u : Part) (piece : List ℕ) (is : got ≡ Some n) (first : (l : List ℕ) → part u l ≡ take n l) where
  pub read_some : (out : List ℕ) → (length (part u piece) ≡ 0 → ⊥)
      → Leaves (read_rule (length out) got piece (view s piece out)) (read_buffer got piece (view s piece out) out)
      (view (record { console = s.console; unanswered = u; unwritten = s.unwritten; ended = s.ended }) piece out) out
  unfolding read_rule read_buffer receive receive_buffer
  read_some out some = rw is (go (take n piece) (first piece))
    where
      go : (l : List ℕ) → part u piece ≡ l
          → Leaves (receive (length out) l (view s piece out)) (receive_buffer l (view s piece out) out)
          (view (record { console = s.console; unanswered = u; unwritten = s.unwritten; ended = s.ended }) piece out) out
      go [] e = absurd (some (ap length e))
      go (b ∷ l) e =
          let v = view s piece out in
          record {
            state_is = ap (λ (m : List ℕ). record { console = v.console; unanswered = m; unwritten = v.unwritten; ended = v.ended }) e;
            buffer_is = refl;
          }

  pub read_none : (t : Stream) (old new : List ℕ) → length (part u piece) ≡ 0
      → Leaves (end_rule (length old) (view s piece old)) (receive_buffer [] (view s piece old) old) (view t piece new) new
      → Leaves (read_rule (length old) got piece (view s piece old)) (read_buffer got piece (view s piece old) old) (view t piece new) new
  unfolding read_rule read_buffer receive receive_buffer
  read_none t old new none l =
      let nothing : take n piece ≡ [] = sym (first piece) ∙ nil_from_length (part u piece) none in
      rw (is, nothing) l
