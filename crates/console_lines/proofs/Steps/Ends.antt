-- A line that has begun, as more of it comes and at the end of the input.
use Prim.Native.Nat.{ℕ, ◌+◌, ◌-◌, ◌≤◌, ◌<◌, min}
use native.Mathlib.Omega.{arith}
use mathlib.Core.Path.{◌≡◌, refl, sym, ◌∙◌, ap}
use mathlib.Core.List.{List, [], ◌∷◌, ◌++◌, append-nil, append_assoc}
use lib.ListN.{length, take, drop, length-append}
use lib.Seq.{take-append-add, take_at, length-take-le}
use borrow.Rule.Slice.PartMut.{put_mid}
use borrow.Author.Tests.{le-leb}
use Rattle.std.proofs.lemmas.List.{take_min}
use Rattle.channels.specs.Outcome.{value}
use Rattle.senders.specs.Buffer.{CallMeets}
use Rattle.senders.specs.Jit.{Tuner}
use Rattle.console_lines.specs.Split.{split}
use Rattle.console_lines.specs.Line.{of_fields, meaning}
use Rattle.console_lines.specs.Console.{event_rule, answer, next, answers, nonempty}
use Rattle.console_lines.specs.ConsoleState.{ConsoleState, clip, finish, finish_rule, line_ended}

-- as much as is kept of it
pub clip_more : (begun more : List ℕ) (room kept : ℕ) → room + length begun ≡ 65 → kept ≡ min room (length more)
    → begun ++ take kept more ≡ clip (begun ++ more)
clip_more begun more room kept all is =
    let sum : length begun + room ≡ 65 = omega arith in rw (is, take_min room more, ← take-append-add begun more room, sum)

-- as it lies in its place, of whose bytes so many count
pub kept_all : (bytes : List ℕ) (count n : ℕ) → length bytes ≡ 65 → n ≡ min count 65 → take n bytes ≡ take count bytes
kept_all bytes count n long is = ap (λ (k : ℕ). take k bytes) (is ∙ ap (min count) (sym long)) ∙ take_min count bytes

pub extended : (bytes more : List ℕ) (count n kept j : ℕ) {put : List ℕ} → length bytes ≡ 65 → n ≡ min count 65 → kept ≡ min (65 - n) (length more)
    → put ≡ take kept more → take (n + kept) (put_mid n j bytes put) ≡ clip (take count bytes ++ more)
extended bytes more count n kept j {put} long is kept_is put_is =
    let begun = take n bytes in
    let rest = drop j (drop n bytes) in
    let small : n ≤ 65 = omega arith in
    let size : length begun ≡ n = length-take-le n bytes (omega arith) in
    let more_size : length (take kept more) ≡ kept = length-take-le kept more (omega arith) in
    let whole : length (begun ++ take kept more) ≡ n + kept = length-append begun (take kept more) ∙ omega arith in
    ap (λ (l : List ℕ). take (n + kept) (begun ++ (l ++ rest))) put_is
    ∙ ap (take (n + kept)) (sym (append_assoc begun (take kept more) rest))
    ∙ take_at (begun ++ take kept more) rest (n + kept) whole
    ∙ clip_more begun more (65 - n) kept (omega arith) kept_is
    ∙ ap (λ (l : List ℕ). clip (l ++ more)) (kept_all bytes count n long is)

-- an empty line is malformed
next_nil : (t : Tuner) → next t [] ≡ t
unfolding next event_rule meaning of_fields split
next_nil t = refl

-- where none has begun, the end of the input answers nothing
finish_none : (s : ConsoleState) → length s.begun ≡ 0 → (finish s ≡ []) × (s ≡ line_ended s)
unfolding finish answers nonempty
finish_none s h = go s.begun h
  where
    go : (l : List ℕ) → length l ≡ 0
        → (answers s.tuner (nonempty l) ≡ [])
        × (◌≡◌ {A = ConsoleState} (record { tuner = s.tuner; begun = l }) (record { tuner = next s.tuner l; begun = [] }))
    go [] h = (refl, ap (λ (t : Tuner). record { tuner = t; begun = [] }) (sym (next_nil s.tuner)))
    go (b ∷ l) h = absurd (omega arith)

pub finish_nothing : {T : Type 0} {view : T → ConsoleState} {t : T} {old : List ℕ} (s : ConsoleState) → view t ≡ s → length s.begun ≡ 0
    → CallMeets view (finish_rule s) t old (value 0) t old
finish_nothing {old = old} s v h =
    let none = finish_none s h in
    let room = le-leb 0 (length old) (omega arith) in
    rw none.0 (record { result_is = rw room refl; state_is = rw room (v ∙ none.1); buffer_is = rw room refl })

-- where one has, it ends that line
pub finish_some : (s : ConsoleState) → 0 < length s.begun → finish s ≡ answer s.tuner s.begun
unfolding finish answers nonempty
finish_some s h = go s.begun h
  where
    go : (l : List ℕ) → 0 < length l → answers s.tuner (nonempty l) ≡ answer s.tuner l
    go [] h = absurd (omega arith)
    go (b ∷ l) h = append-nil (answer s.tuner (b ∷ l))
