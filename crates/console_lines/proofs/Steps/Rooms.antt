-- How much room an answer needs: with 63 bytes a step uses some of its piece.
use Prim.Native.Nat.{ℕ, ◌+◌, ◌*◌, ◌-◌, ◌/◌, ◌%◌, ◌≤◌, ◌<◌}
use native.Mathlib.Omega.{arith}
use mathlib.Core.Bool.{Bool, true, false, cond}
use mathlib.Core.List.{List, [], ◌∷◌, ◌++◌}
use lib.ListN.{length}
use lib.Dec.{eqb, leb, ltb}
use borrow.Author.Tests.{le-leb}
use Rattle.channels.specs.Outcome.{Outcome}
use Rattle.senders.specs.Buffer.{Effect}
use Rattle.senders.specs.Jit.{Tuner}
use Rattle.console_lines.specs.Split.{feed}
use Rattle.console_lines.specs.Line.{meaning}
use Rattle.console_lines.specs.Show.{bytes_line, refusal_line, decimal_of}
use Rattle.console_lines.specs.Console.{event_rule, shown, answer}
use Rattle.console_lines.specs.ConsoleState.{ConsoleState, byte_step, byte_answer, byte_then, no_step, step_rule, StepMeets}
use Rattle.console_lines.specs.declared.step.Step.{Step}
use Rattle.console_lines.proofs.Text.Shows.{length_bytes_line}
use Rattle.console_lines.proofs.Steps.Playing.{Effected, sending, refusing, event_effected}

refusal_size : (n : ℕ) → (2 ≤ length (refusal_line n)) × (length (refusal_line n) ≤ 63)
unfolding refusal_line decimal_of
refusal_size n = go (ltb n 10) (ltb n 100)
  where
    line : Bool → Bool → List ℕ
    line x y =
        82 ∷ cond x ((48 + n) ∷ [])
        (cond y ((48 + n / 10) ∷ (48 + n % 10) ∷ [])
        ((48 + n / 100) ∷ (48 + n / 10 % 10) ∷ (48 + n % 10) ∷ [])) ++ (10 ∷ [])

    go : (x y : Bool) → (2 ≤ length (line x y)) × (length (line x y) ≤ 63)
    go true y = (omega arith, omega arith)
    go false true = (omega arith, omega arith)
    go false false = (omega arith, omega arith)

-- three for each byte that is shown, and two for none
bytes_size : (bs : List ℕ) (room : ℕ) → 2 ≤ room → 3 * length bs ≤ room → (2 ≤ length (bytes_line bs)) × (length (bytes_line bs) ≤ room)
unfolding bytes_line
bytes_size [] room h k = (omega arith, omega arith)
bytes_size (b ∷ bs) room h k = let l = length_bytes_line (b ∷ bs) (omega arith) in (omega arith, omega arith)

pub bytes_fit : (bs : List ℕ) (room : ℕ) → 2 ≤ room → 3 * length bs ≤ room → length (bytes_line bs) ≤ room
bytes_fit bs room h k = (bytes_size bs room h k).1

shown_size : (o : Outcome (Effect ℕ Tuner)) → Effected o → (2 ≤ length (shown o)) × (length (shown o) ≤ 63)
unfolding shown
shown_size o (sending bs t e h) = rw e (bytes_size bs 63 (omega arith) (omega arith))
shown_size o (refusing n e) = rw e (refusal_size n)

module _ (t : Tuner) (line : List ℕ) where
  answer_size : (2 ≤ length (answer t line)) × (length (answer t line) ≤ 63)
  unfolding answer
  answer_size = shown_size (event_rule t (meaning line)) (event_effected t (meaning line))

  pub answer_least : 2 ≤ length (answer t line)
  answer_least = answer_size.0

  pub answer_room : length (answer t line) ≤ 63
  answer_room = answer_size.1

text_room : (s : ConsoleState) (b : ℕ) → length (byte_answer s b) ≤ 63
unfolding byte_answer
text_room s b = go (eqb b feed)
  where
    go : (t : Bool) → length (cond t (answer s.tuner s.begun) []) ≤ 63
    go true = answer_room s.tuner s.begun
    go false = omega arith

-- a step over a piece that is not empty, with that much room, uses some of it
pub rule_uses : (room : ℕ) (s : ConsoleState) (piece : List ℕ) → 63 ≤ room → 0 < length piece → 0 < (step_rule room s piece).used
unfolding step_rule
rule_uses room s [] h l = absurd (omega arith)
rule_uses room s (b ∷ bs) h l = rw (le-leb (length (byte_answer s b)) room (omega (arith, text_room s b))) (omega arith)

-- and no more than it
rule_within : (room : ℕ) (s : ConsoleState) (piece : List ℕ) → (step_rule room s piece).used ≤ length piece
unfolding step_rule
rule_within room s [] = omega arith
rule_within room s (b ∷ bs) = go (leb (length (byte_answer s b)) room) (rule_within (room - length (byte_answer s b)) (byte_step s b) bs)
  where
    go : (t : Bool) → (step_rule (room - length (byte_answer s b)) (byte_step s b) bs).used ≤ length bs
        → (cond t (byte_then (byte_answer s b) (step_rule (room - length (byte_answer s b)) (byte_step s b) bs)) (no_step s)).used ≤ length (b ∷ bs)
    go true h = omega arith
    go false h = omega arith

pub used_within : {s t : ConsoleState} {piece old new : List ℕ} {r : Step} → StepMeets s piece old new t r → r.used ≤ length piece
used_within {s} {piece = piece} {old = old} p = rw p.used_is (rule_within (length old) s piece)
