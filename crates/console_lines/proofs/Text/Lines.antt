-- What a line means, by its fields, and that as much of it as is kept decides it.
use Prim.Native.Nat.{ℕ, ◌+◌, ◌*◌, ◌^◌, ◌≤◌, ◌<◌}
use native.Mathlib.Nat.{pow-suc, pow-le-pow_right, lt_of_lt_of_le}
use native.Mathlib.Numerals.{add-one}
use native.Mathlib.Omega.{arith}
use mathlib.Core.Path.{◌≡◌, refl, sym, ◌∙◌, ap}
use mathlib.Core.Bool.{Bool, true, false, cond, and-false}
use mathlib.Core.List.{List, ◌++◌}
use mathlib.Core.Option.{Option, some}
use mathlib.Core.Logic.{◌⊎◌, inl, inr}
use lib.ListN.{length, take, length-take}
use lib.Seq.{take_all, take-take, take-append-le, length-take-le}
use lib.Dec.{lit<}
use borrow.Author.Tests.{le-leb, lt-leb}
use Rattle.channels.specs.Outcome.{value, refused}
use Rattle.std.specs.Prelude.{Some, None, Result, Ok, Err}
use Rattle.std.specs.Bool.{then_some}
use Rattle.std.specs.Result.{OkIff, result_ok}
use Rattle.std.proofs.lemmas.Bool.{cases_lt}
use Rattle.console_lines.specs.Grammar.{digits, decimal, allowed, zeros}
use Rattle.console_lines.specs.Line.{number, event, event_of, of_fields, meaning}
use Rattle.console_lines.specs.Split.{split}
use Rattle.console_lines.specs.Console.{answer, next}
use Rattle.console_lines.specs.ConsoleState.{clip}
use Rattle.console_lines.specs.Internal.{parsed_outcome}
use Rattle.senders.specs.Jit.{Tuner}
use Rattle.senders.specs.declared.event.EventKind.{EventKind}

-- a number needs 1 to `places` bytes, all digits
pub number_some : (places : ℕ) (s : List ℕ) → 0 < length s → length s ≤ places → digits s ≡ true → number places s ≡ some (decimal 0 s)
unfolding number
number_some places s h l d = rw (le-leb 1 (length s) h, le-leb (length s) places l, d)

-- i digits spell a number below 10 ^ i
pub decimal_below : (n i d : ℕ) → n < 10 ^ i → d ≤ 9 → n * 10 + d < 10 ^ (i + 1)
decimal_below n i d h l = rw (add-one, pow-suc) (omega arith)

pub few_digits : (n i : ℕ) → n < 10 ^ i → i ≤ 8 → n < 10 ^ 8
few_digits n i h l = lt_of_lt_of_le h (pow-le-pow_right (lit< tt) l)

-- an event, where the values of four fields are allowed
pub event_some : (k : EventKind) (a m v : ℕ) → allowed k a m v ≡ true → event_of (some k) (some a) (some m) (some v) ≡ value (event k a m v)
unfolding event_of
event_some k a m v h = rw h

-- the meaning of a line by its length and its fields
pub meaning_long : (s : List ℕ) → 64 < length s → meaning s ≡ refused 13
unfolding meaning
meaning_long s h = rw (lt-leb (length s) 64 h)

pub meaning_fields : (s : List ℕ) (fs : List (List ℕ)) → length s ≤ 64 → split 44 s ≡ fs → meaning s ≡ of_fields fs
unfolding meaning
meaning_fields s fs h e = rw (le-leb (length s) 64 h, e)

-- the meaning of a short line whose four fields can be read
pub meaning_read : (line : List ℕ) {kind : Option EventKind} {key millihertz velocity : Option ℕ} {k : EventKind} {a m v : ℕ} → length line ≤ 64
    → of_fields (split 44 line) ≡ event_of kind key millihertz velocity → some k ≡ kind → some a ≡ key → some m ≡ millihertz → some v ≡ velocity
    → meaning line ≡ event_of (some k) (some a) (some m) (some v)
unfolding meaning
meaning_read line h four k a m v = rw (le-leb (length line) 64 h, four, ← k, ← a, ← m, ← v)

-- a number that is to be a byte
pub not_a_byte : {E : Type 0} (r : Result ℕ E) {n : ℕ} → OkIff r (n < 256) n → None ≡ result_ok r → 255 < n
not_a_byte (Ok x) h e = absurd (let z : ◌≡◌ {A = ℕ} 0 1 = cc in omega arith)
not_a_byte (Err e) h z = omega (arith, h)

pub is_a_byte : {E : Type 0} (r : Result ℕ E) {n x : ℕ} → OkIff r (n < 256) n → Some x ≡ result_ok r → (x ≡ n) × (n < 256)
is_a_byte (Ok y) h e = (cc, h.0)
is_a_byte (Err d) h e = absurd (let z : ◌≡◌ {A = ℕ} 0 1 = cc in omega arith)

-- four fields that are read are an event where their values are allowed
module _ (k : EventKind) (a m v : ℕ) where
  pub event_refused : (255 < a) ⊎ (255 < v) → event_of (some k) (some a) (some m) (some v) ≡ refused 13
  unfolding event_of allowed
  event_refused (inl h) = rw (lt-leb a 255 h)
  event_refused (inr h) = rw (lt-leb v 255 h, and-false)

  pub event_read : {allows : Bool} {x y : ℕ} → (x ≡ a) × (a < 256) → (y ≡ v) × (v < 256) → allows ≡ zeros k m v
      → parsed_outcome (then_some allows (record { kind = k; key = x; millihertz = m; velocity = y })) ≡ event_of (some k) (some a) (some m) (some v)
  unfolding event_of allowed
  event_read {allows} h l e = rw (h.0, l.0, le-leb a 255 (omega arith), le-leb v 255 (omega arith), ← e) (go allows)
    where
      go : (t : Bool) → parsed_outcome (then_some t (record { kind = k; key = a; millihertz = m; velocity = v })) ≡ cond t (value (event k a m v)) (refused 13)
      go true = refl
      go false = refl

-- ---- 65 bytes of a line, which is as much as is kept, decide what it means

pub meaning_clip : (s : List ℕ) → meaning (take 65 s) ≡ meaning s
meaning_clip s =
    elim (cases_lt 64 (length s)) [
      | inl h ↦ meaning_long (take 65 s) (omega (arith, length-take 65 s)) ∙ sym (meaning_long s h)
      | inr h ↦ ap meaning (take_all 65 s (omega arith))
    ]

pub clip_append : (a b : List ℕ) → clip (clip a ++ b) ≡ clip (a ++ b)
clip_append a b =
    elim (cases_lt 65 (length a)) [
      | inl h ↦
          let l : length (clip a) ≡ 65 = length-take-le 65 a (omega arith) in
          take-append-le 65 (clip a) b (omega arith) ∙ take-take 65 65 a (omega arith) ∙ sym (take-append-le 65 a b (omega arith))
      | inr h ↦ ap (λ (l : List ℕ). clip (l ++ b)) (take_all 65 a h)
    ]

module _ (t : Tuner) where
  pub answer_clip : (line : List ℕ) → answer t (clip line) ≡ answer t line
  unfolding answer
  answer_clip line = rw meaning_clip

  pub next_clip : (line : List ℕ) → next t (clip line) ≡ next t line
  unfolding next
  next_clip line = rw meaning_clip
