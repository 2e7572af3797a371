-- What a call does to the buffer lent to it and to its state, and what it answers, SPEC 1.9: a refusal is its number alone and leaves both untouched; accepted
-- bytes fill the buffer's start, and the rest keeps its content.
use Rattle.std.specs.Prelude.{◌≡◌, List, ◌++◌, ℕ, leb, length, drop}
use Rattle.channels.specs.Outcome.{Outcome, value, refused, refuse◌unless◌then◌}
use Rattle.channels.specs.Refusal.{buffer_too_short}

-- What a call that is not refused does: what it answers, the bytes it sends, and the state it goes on to, as its view.
pub record Effect (R S : Type 0) : Type 0 where
  pub result : R
  pub bytes : List ℕ
  pub next : S

-- SPEC 1.9b: most calls answer how many bytes they sent.
abbrev pub sends : {S : Type 0} → List ℕ → S → Outcome (Effect ℕ S)
sends bs v = value (record { result = length bs; bytes = bs; next = v })

-- A call without a state gives bytes, or a refusal.
abbrev pub WriteOutcome : Type 0
WriteOutcome = Outcome (Effect ℕ (Unit {0}))

abbrev pub sent : List ℕ → WriteOutcome
sent bs = sends bs tt

-- ---- what a rule comes to with a buffer of so many bytes

-- SPEC 9.1b: whether the buffer has room for the bytes (10) is the last test of every call.
abbrev pub check_room : {R S : Type 0} → ℕ → Outcome (Effect R S) → Outcome (Effect R S)
check_room room (value e) = refuse buffer_too_short unless leb (length e.bytes) room then value e
check_room room (refused n) = refused n

-- What is answered.
abbrev pub result_of : {R S : Type 0} → Outcome (Effect R S) → Outcome R
result_of (value e) = value e.result
result_of (refused n) = refused n

-- SPEC 1.9a: the state handed back is the next one, or after a refusal the very one that was passed.
abbrev pub StateAfter : {R S T : Type 0} → (T → S) → Outcome (Effect R S) → T → T → Type 0
StateAfter view (value e) s back = view back ≡ e.next
StateAfter view (refused n) s back = back ≡ s

-- SPEC 1.9b: `bs`, and then what follows in `old`.
abbrev pub overwrite : List ℕ → List ℕ → List ℕ
overwrite bs old = bs ++ drop (length bs) old

-- SPEC 1.9a, 1.9b: the buffer at exit.
abbrev pub buffer_after : {R S : Type 0} → Outcome (Effect R S) → List ℕ → List ℕ
buffer_after (value e) old = overwrite e.bytes old
buffer_after (refused n) old = old

-- ---- the contracts

-- A call on the state `s` with the lent buffer `old` follows the rule: its result, the state handed back, and the buffer at exit. The rule is
-- about the state's view.
pub record CallMeets
    {R S T : Type 0} (view : T → S) (rule : Outcome (Effect R S)) (s : T) (old : List ℕ) (result : Outcome R) (back : T) (new : List ℕ)
    : Type 0 where
  pub result_is : result ≡ result_of (check_room (length old) rule)
  pub state_is : StateAfter view (check_room (length old) rule) s back
  pub buffer_is : new ≡ buffer_after (check_room (length old) rule) old

-- The same of a call without a state.
abbrev pub WriteMeets : WriteOutcome → List ℕ → Outcome ℕ → List ℕ → Type 0
WriteMeets rule old result new = CallMeets (λ u. u) rule tt old result tt new

-- The state that a call goes on to, which is the one before it if the call is refused.
abbrev pub state_after : {R S : Type 0} → S → Outcome (Effect R S) → S
state_after s (value e) = e.next
state_after s (refused n) = s
