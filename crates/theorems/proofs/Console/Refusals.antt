-- What the console refuses. A line that the grammar lacks is answered `R13` and leaves the tuner as it was; a line that it has is answered as its
-- event; and no refusal is shown but 1, 8, 11 and 13, by its digits.
use Prim.Native.Nat.{ℕ, ◌+◌, ◌/◌, ◌%◌, ◌<◌}
use native.Mathlib.Omega.{arith}
use mathlib.Core.Path.{◌≡◌, refl, sym, ◌∙◌, ap}
use mathlib.Core.Bool.{Bool, true, false, cond, ◌||◌, false≢true}
use mathlib.Core.List.{List, [], ◌∷◌}
use mathlib.Core.Option.{Option, some, none}
use lib.Dec.{eqb, ltb, leb}
use lib.ListN.{length}
use borrow.Author.Tests.{eqb-true, ltb-true}
use Rattle.channels.specs.Outcome.{Outcome, value, refused}
use Rattle.senders.specs.Buffer.{Effect, state_after}
use Rattle.senders.specs.Event.{play_rule}
use Rattle.senders.specs.declared.event.Event.{Event as TunerEvent}
use Rattle.senders.specs.Jit.{Tuner, PressResult}
use Rattle.channels.specs.Lists.{member}
use Rattle.theorems.specs.Entries.{Among}
use Rattle.theorems.proofs.Tuners.Refusals.{among_play, among_test}
use Rattle.console_lines.specs.Split.{comma, split}
use Rattle.console_lines.specs.Grammar.{decimal, allowed}
use Rattle.theorems.specs.Grammar.{Means}
use Rattle.console_lines.specs.Line.{Event, event, kind_of, number, event_of, of_fields, meaning}
use Rattle.console_lines.specs.Show.{refusal_line, decimal_of}
use Rattle.console_lines.specs.Console.{bytes_alone, pitch_of, event_rule, shown, answer, next}
use Rattle.senders.specs.declared.event.EventKind.{EventKind}
use Rattle.theorems.proofs.Console.Grammar.{sound, complete}
use Rattle.console_lines.proofs.Steps.Playing.{line_refused}

-- ---- a line that is no event is refused with 13

fields_refused : (k : Option EventKind) (a m v : Option ℕ) → Among (13 ∷ []) (event_of k a m v)
unfolding event_of
fields_refused none a m v = refl
fields_refused (some k) none m v = refl
fields_refused (some k) (some a) none v = refl
fields_refused (some k) (some a) (some m) none = refl
fields_refused (some k) (some a) (some m) (some v) = among_test (13 ∷ []) 13 (allowed k a m v) (value (event k a m v)) refl tt

parts_refused : (fs : List (List ℕ)) → Among (13 ∷ []) (of_fields fs)
unfolding of_fields
parts_refused [] = refl
parts_refused (k ∷ []) = refl
parts_refused (k ∷ a ∷ []) = refl
parts_refused (k ∷ a ∷ m ∷ []) = refl
parts_refused (k ∷ a ∷ m ∷ v ∷ []) = fields_refused (kind_of k) (number 3 a) (number 9 m) (number 3 v)
parts_refused (k ∷ a ∷ m ∷ v ∷ f ∷ fs) = refl

line_among : (line : List ℕ) → Among (13 ∷ []) (meaning line)
unfolding meaning
line_among line = among_test (13 ∷ []) 13 (leb (length line) 64) (of_fields (split comma line)) refl (parts_refused (split comma line))

only_13 : (n : ℕ) → member n (13 ∷ []) ≡ true → n ≡ 13
only_13 n h = go (eqb 13 n) refl h
  where
    go : (b : Bool) → eqb 13 n ≡ b → (b || false) ≡ true → n ≡ 13
    go true e h = sym (eqb-true 13 n e)
    go false e h = absurd (false≢true h)

-- Every line of which the grammar has no event is answered `R13`, and leaves the tuner.
pub malformed_line : (t : Tuner) (line : List ℕ) → ((k : EventKind) (a m v : ℕ) → Means line k a m v → ⊥)
    → (answer t line ≡ 82 ∷ 49 ∷ 51 ∷ 10 ∷ []) × (next t line ≡ t)
unfolding refusal_line decimal_of event_rule
malformed_line t line lacks = by (meaning line) refl (line_among line)
  where
    by : (o : Outcome Event) → meaning line ≡ o → Among (13 ∷ []) o → (answer t line ≡ 82 ∷ 49 ∷ 51 ∷ 10 ∷ []) × (next t line ≡ t)
    by (value (event k a m v)) e h = absurd (lacks k a m v (sound line k a m v e))
    by (refused n) e h =
        let thirteen : n ≡ 13 = only_13 n h in
        let r = line_refused t line n (ap (event_rule t) e) in
        (r.0 ∙ ap refusal_line thirteen, r.1)

-- A line of the grammar is answered as its event.
pub event_line : (t : Tuner) (line : List ℕ) (k : EventKind) (a m v : ℕ) → Means line k a m v
    → (answer t line ≡ shown (event_rule t (value (event k a m v)))) × (next t line ≡ state_after t (event_rule t (value (event k a m v))))
unfolding answer next
event_line t line k a m v g =
    let e = complete line k a m v g in
    (ap (λ (o : Outcome Event). shown (event_rule t o)) e, ap (λ (o : Outcome Event). state_after t (event_rule t o)) e)

-- ---- the refusals that a line can meet

bytes_alone_among : (ns : List ℕ) (o : Outcome (Effect PressResult Tuner)) → Among ns o → Among ns (bytes_alone o)
unfolding bytes_alone
bytes_alone_among ns (value e) h = tt
bytes_alone_among ns (refused n) h = h

event_among : (t : Tuner) (m : Outcome Event) → Among (13 ∷ []) m → Among (1 ∷ 8 ∷ 11 ∷ 13 ∷ []) (event_rule t m)
unfolding event_rule
event_among t (value (event k key m v)) h =
    let e : TunerEvent = record { kind = k; key = key; pitch = record { hz = pitch_of m }; velocity = v } in
    let ns : List ℕ = 1 ∷ 8 ∷ 11 ∷ 13 ∷ [] in
    bytes_alone_among ns (play_rule t e) (among_play ns t e refl refl (λ off. refl))
event_among t (refused n) h = rw (only_13 n h)

pub line_numbers : (t : Tuner) (line : List ℕ) → Among (1 ∷ 8 ∷ 11 ∷ 13 ∷ []) (event_rule t (meaning line))
line_numbers t line = event_among t (meaning line) (line_among line)

-- ---- the number that is shown

-- The digits of a refusal's number spell it.
pub decimal_round : (n : ℕ) → n < 1000 → decimal 0 (decimal_of n) ≡ n
unfolding decimal decimal_of
decimal_round n h = go (ltb n 10) (ltb n 100) refl refl
  where
    go : (x y : Bool) → ltb n 10 ≡ x → ltb n 100 ≡ y
        → decimal 0 (cond x ((48 + n) ∷ []) (cond y ((48 + n / 10) ∷ (48 + n % 10) ∷ []) ((48 + n / 100) ∷ (48 + n / 10 % 10) ∷ (48 + n % 10) ∷ []))) ≡ n
    go true y p q = omega arith
    go false true p q = omega (arith, ltb-true n 100 q)
    go false false p q = omega arith
