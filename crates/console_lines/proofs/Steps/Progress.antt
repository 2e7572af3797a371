-- The loop of `step`: how far a piece has been taken, a line more, and the ways out.
use Prim.Native.Nat.{ℕ, ◌+◌, ◌-◌, ◌≤◌, ◌<◌}
use native.Mathlib.Nat.{zero-add, sub-zero}
use native.Mathlib.Omega.{arith}
use mathlib.Core.Path.{◌≡◌, refl, sym, ◌∙◌, ap, subst}
use mathlib.Core.List.{List, [], ◌++◌, append_assoc, append-nil}
use lib.ListN.{length, take, drop, length-append, length-drop, take-append-drop}
use lib.Seq.{drop-drop, take_at, drop_at}
use borrow.Rule.Slice.PartMut.{put_mid}
use Rattle.std.specs.Prelude.{Some, None}
use Rattle.memchr.specs.Find.{IsFirstByte, is_byte}
use Rattle.senders.proofs.Tuners.Buffer.{tail_back}
use Rattle.console_lines.specs.Split.{feed}
use Rattle.console_lines.specs.Console.{answer}
use Rattle.console_lines.specs.ConsoleState.{ConsoleState, line_ended, no_step, step_rule, StepMeets}
use Rattle.console_lines.specs.Internal.{longer_by}
use Rattle.console_lines.proofs.Text.Puts.{SentAll}
use Rattle.console_lines.proofs.Steps.Stepping.{behind, behind_behind, Small, no_feed, no_room, line_ends}

-- `used` bytes of the piece are taken and w bytes written: what a call does is that, and then what it does with the rest
pub record Progress (s₀ : ConsoleState) (piece old : List ℕ) (s : ConsoleState) (used w : ℕ) (out : List ℕ) : Type 0 where
  pub output : List ℕ
  pub within : used ≤ length piece
  pub count_is : w ≡ length output
  pub room : w ≤ length old
  pub out_is : out ≡ output ++ drop w old
  pub result : step_rule (length old) s₀ piece ≡ behind used output (step_rule (length old - w) s (drop used piece))

pub progress_start : (s : ConsoleState) (piece out : List ℕ) → Progress s piece out s 0 0 out
progress_start s piece out =
    record {
      output = [];
      within = omega arith;
      count_is = refl;
      room = omega arith;
      out_is = refl;
      result = simp (sub-zero, zero-add);
    }

module _ {s₀ s : ConsoleState} {piece old out : List ℕ} {used w : ℕ} (p : Progress s₀ piece old s used w out) where
  -- the rest is kept: the call ends
  call_ends : {s' t : ConsoleState} {end : ℕ} (k : ℕ) → step_rule (length old - w) s (drop used piece) ≡ behind k [] (no_step s') → t ≡ s' → end ≡ used + k
      → StepMeets s₀ piece old out t (record { used = end; written = w })
  call_ends {s'} {t} {end} k e h i =
      let all : step_rule (length old) s₀ piece ≡ behind used p.output (behind k [] (no_step s')) = p.result ∙ ap (behind used p.output) e in
      record {
        state_is = rw all h;
        used_is = rw all (omega arith);
        written_is = rw (all, append-nil) p.count_is;
        buffer_is = rw (all, append-nil, ← p.count_is) p.out_is;
      }

  -- no line ends in the rest
  pub ends_without_feed : {t : ConsoleState} → Small s → IsFirstByte (is_byte feed) (drop used piece) None → t ≡ longer_by s (drop used piece)
      → StepMeets s₀ piece old out t (record { used = length piece; written = w })
  ends_without_feed small f h =
      call_ends (length (drop used piece)) (no_feed (length old - w) s (drop used piece) small f) h (omega (arith, length-drop used piece, p.within))

  -- one ends at place n of it, of which s' is what is kept
  module _ {s' : ConsoleState} {n : ℕ} (small : Small s) (first : IsFirstByte (is_byte feed) (drop used piece) (Some n))
      (is : s' ≡ longer_by s (take n (drop used piece))) where
    -- there is no room for its answer
    pub ends_without_room : {t : ConsoleState} {lent ys : List ℕ} {j : ℕ} → lent ≡ drop w out → j ≡ length out - w
        → length lent < length (answer s'.tuner s'.begun) → ys ≡ lent → t ≡ s'
        → StepMeets s₀ piece old (put_mid w j out ys) t (record { used = used + n; written = w })
    ends_without_room {t} {lent} {ys} {j} l i q y is' =
        subst (λ (m : List ℕ). StepMeets s₀ piece old m t (record { used = used + n; written = w })) (sym same)
        (call_ends n (no_room (length old - w) s s' (drop used piece) n small first is (omega (arith, ap length l, length-drop w out, size))) is' refl)
      where
        size : length out ≡ length old
        size = ap length p.out_is ∙ length-append p.output (drop w old) ∙ omega (arith, p.count_is, length-drop w old, p.room)

        same : put_mid w j out ys ≡ out
        same = rw (i, y, l) (tail_back out (drop w out) w ∙ take-append-drop w out)

    -- it was answered
    pub progress_line : {t : ConsoleState} {lent ys : List ℕ} {k j : ℕ} → lent ≡ drop w out → j ≡ length out - w
        → SentAll (answer s'.tuner s'.begun) (line_ended s') t lent ys k
        → Progress s₀ piece old t (used + (n + 1)) (w + k) (put_mid w j out ys)
    progress_line {t} {lent} {ys} {k} {j} l i a =
        let o = p.output in
        let text = answer s'.tuner s'.begun in
        let front : take w out ≡ o = ap (take w) p.out_is ∙ take_at o (drop w old) w (sym p.count_is) in
        let rest : drop w out ≡ drop w old = ap (drop w) p.out_is ∙ drop_at o (drop w old) w (sym p.count_is) in
        let over : ys ≡ text ++ drop (w + k) old =
        a.buffer_is ∙ ap (λ (m : List ℕ). text ++ drop (length text) m) (l ∙ rest) ∙ ap (λ (m : List ℕ). text ++ m) (drop-drop (length text) w old)
        ∙ ap (λ (m : ℕ). text ++ drop (w + m) old) (sym a.count_is) in
        let fits : length text ≤ length old - w = omega (arith, a.fits, ap length (l ∙ rest), length-drop w old) in
        let left : length old - w - length text ≡ length old - (w + k) = omega (arith, a.count_is) in
        record {
          output = o ++ text;
          within = omega (arith, first.0.high, length-drop used piece, p.within);
          count_is = sym (length-append o text ∙ omega (arith, p.count_is, a.count_is));
          room = omega (arith, fits, a.count_is, p.room);
          out_is = rw (i, tail_back out ys w, front, over) (sym (append_assoc o text (drop (w + k) old)));
          result =
              rw (p.result, line_ends (length old - w) s s' (drop used piece) n small first is fits, left, drop-drop (n + 1) used piece, a.next_is)
              (behind_behind used (n + 1) o text (step_rule (length old - (w + k)) (line_ended s') (drop (used + (n + 1)) piece)));
        }
