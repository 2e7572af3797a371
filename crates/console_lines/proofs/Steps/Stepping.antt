-- A piece of the input taken line by line, as `step` takes it.
use Prim.Native.Nat.{ℕ, zero, suc, ◌+◌, ◌-◌, ◌≤◌, ◌<◌}
use native.Mathlib.Nat.{add_assoc, zero-add, sub-zero}
use native.Mathlib.Omega.{arith}
use mathlib.Core.Path.{◌≡◌, sym, ◌∙◌, ap}
use mathlib.Core.List.{List, [], ◌∷◌, ◌++◌, append_assoc, append-nil}
use lib.ListN.{length, take, drop, get_or, length-take}
use lib.Seq.{take_all, take-length, drop-length}
use Rattle.std.proofs.lemmas.List.{drop_more}
use borrow.Author.Tests.{le-leb, lt-leb}
use lib.Dec.{eqb}
use mathlib.Core.Bool.{true}
use Rattle.std.specs.Prelude.{Some, None}
use Rattle.std.proofs.lemmas.Bool.{false_from_ne_true}
use Rattle.memchr.specs.Find.{IsFirstByte, Nowhere, Passes, is_byte}
use Rattle.console_lines.specs.Split.{feed}
use Rattle.console_lines.specs.Console.{answer}
use Rattle.console_lines.specs.ConsoleState.{ConsoleState, clip, byte_step, byte_answer, line_ended, StepResult, no_step, byte_then, step_rule}
use Rattle.console_lines.specs.Internal.{longer_by}
use Rattle.console_lines.proofs.Text.Lines.{clip_append}

-- what was taken behind n bytes that answered `out`
abbrev pub behind : ℕ → List ℕ → StepResult → StepResult
behind n out r = record { console = r.console; used = n + r.used; output = out ++ r.output }

pub behind_behind : (m n : ℕ) (a b : List ℕ) (r : StepResult) → behind m a (behind n b r) ≡ behind (m + n) (a ++ b) r
behind_behind m n a b r =
    ap (λ (k : ℕ). record { console = r.console; used = k; output = a ++ (b ++ r.output) }) (sym (add_assoc m n r.used))
    ∙ ap (λ (l : List ℕ). record { console = r.console; used = m + n + r.used; output = l }) (sym (append_assoc a b r.output))

byte_behind : (out : List ℕ) (r : StepResult) → byte_then out r ≡ behind 1 out r
byte_behind out r = ap (λ (k : ℕ). record { console = r.console; used = k; output = out ++ r.output }) (omega arith)

-- no more is held than is kept
abbrev pub Small : ConsoleState → Type 0
Small s = length s.begun ≤ 65

longer_none : (s : ConsoleState) → Small s → longer_by s [] ≡ s
longer_none s h = ap (λ (l : List ℕ). record { tuner = s.tuner; begun = l }) (ap clip (append-nil s.begun) ∙ take_all 65 s.begun h)

longer_small : (s : ConsoleState) (l : List ℕ) → Small (longer_by s l)
longer_small s l = omega (arith, length-take 65 (s.begun ++ l))

longer_longer : (s : ConsoleState) (b : ℕ) (l : List ℕ) → longer_by (longer_by s (b ∷ [])) l ≡ longer_by s (b ∷ l)
longer_longer s b l =
    ap (λ (x : List ℕ). record { tuner = s.tuner; begun = x }) (clip_append (s.begun ++ (b ∷ [])) l ∙ ap clip (append_assoc s.begun (b ∷ []) l))

-- a byte that is no feed
other_byte : (room : ℕ) (s : ConsoleState) (b : ℕ) (bs : List ℕ) → (eqb b feed ≡ true → ⊥)
    → step_rule room s (b ∷ bs) ≡ behind 1 [] (step_rule room (longer_by s (b ∷ [])) bs)
unfolding step_rule byte_answer byte_step
other_byte room s b bs n =
    rw (false_from_ne_true (eqb b feed) n, le-leb 0 room (omega arith), sub-zero)
    (byte_behind [] (step_rule room (longer_by s (b ∷ [])) bs))

-- bytes before the first feed
pub before_feed : (room : ℕ) (s : ConsoleState) (n : ℕ) (l : List ℕ) → Small s → n ≤ length l → Nowhere (Passes (is_byte feed) l) 0 n
    → step_rule room s l ≡ behind n [] (step_rule room (longer_by s (take n l)) (drop n l))
before_feed room s zero l m h f = rw (longer_none s m, zero-add)
before_feed room s (suc n) [] m h f = absurd (omega arith)
before_feed room s (suc n) (b ∷ l) m h f =
    let s' = longer_by s (b ∷ []) in
    let r = step_rule room (longer_by s (b ∷ take n l)) (drop n l) in
    let one : 1 + n ≡ suc n = omega arith in
    let later = before_feed room s' n l (longer_small s (b ∷ [])) (omega arith) (λ k i j. f (suc k) (omega arith) (omega arith)) in
    rw (other_byte room s b l (f 0 (omega arith) (omega arith)), later, longer_longer s b (take n l))
    (behind_behind 1 n [] [] r ∙ ap (λ (k : ℕ). behind k [] r) one)

-- a feed, with room for the answer and without
pub feed_byte : (room : ℕ) (s : ConsoleState) (b : ℕ) (bs : List ℕ) → eqb b feed ≡ true → length (answer s.tuner s.begun) ≤ room
    → step_rule room s (b ∷ bs)
    ≡ behind 1 (answer s.tuner s.begun) (step_rule (room - length (answer s.tuner s.begun)) (line_ended s) bs)
unfolding step_rule byte_answer byte_step
feed_byte room s b bs e h =
    rw (e, le-leb (length (answer s.tuner s.begun)) room h)
    (byte_behind (answer s.tuner s.begun) (step_rule (room - length (answer s.tuner s.begun)) (line_ended s) bs))

pub no_room_byte : (room : ℕ) (s : ConsoleState) (b : ℕ) (bs : List ℕ) → eqb b feed ≡ true → room < length (answer s.tuner s.begun)
    → step_rule room s (b ∷ bs) ≡ no_step s
unfolding step_rule byte_answer byte_step
no_room_byte room s b bs e h = rw (e, lt-leb (length (answer s.tuner s.begun)) room h)

-- ---- a piece by the place of its first feed

-- no line ends in the piece
pub no_feed : (room : ℕ) (s : ConsoleState) (l : List ℕ) → Small s → IsFirstByte (is_byte feed) l None
    → step_rule room s l ≡ behind (length l) [] (no_step (longer_by s l))
unfolding step_rule
no_feed room s l m f = rw (before_feed room s (length l) l m (omega arith) f, take-length l, drop-length l)

-- one ends at the feed, of which s' is what is kept
module _ (room : ℕ) (s s' : ConsoleState) (l : List ℕ) (n : ℕ) (m : Small s) (first : IsFirstByte (is_byte feed) l (Some n))
    (is : s' ≡ longer_by s (take n l)) where
  up_to_feed : step_rule room s l ≡ behind n [] (step_rule room s' (get_or l n 0 ∷ drop (n + 1) l))
  up_to_feed = rw (before_feed room s n l m (omega (arith, first.0.high)) first.0.before, is, drop_more l n 0 first.0.high)

  -- there is no room for its answer
  pub no_room : room < length (answer s'.tuner s'.begun) → step_rule room s l ≡ behind n [] (no_step s')
  no_room q = up_to_feed ∙ ap (behind n []) (no_room_byte room s' (get_or l n 0) (drop (n + 1) l) first.1 q)

  -- it is answered
  pub line_ends : length (answer s'.tuner s'.begun) ≤ room
      → step_rule room s l ≡ behind (n + 1) (answer s'.tuner s'.begun) (step_rule (room - length (answer s'.tuner s'.begun)) (line_ended s') (drop (n + 1) l))
  line_ends q =
      let a = answer s'.tuner s'.begun in
      rw (up_to_feed, feed_byte room s' (get_or l n 0) (drop (n + 1) l) first.1 q)
      (behind_behind n 1 [] a (step_rule (room - length a) (line_ended s') (drop (n + 1) l)))
