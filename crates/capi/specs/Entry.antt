-- The contract of every function for C that writes to a lent buffer, SPEC 12.4: its answer in numbers, the block and the buffer at exit.
use Rattle.std.specs.Prelude.{ℕ, ◌≡◌, List, length}
use Rattle.channels.specs.Outcome.{Outcome}
use Rattle.senders.specs.Buffer.{Effect, WriteOutcome as Rule, check_room, result_of, StateAfter, buffer_after}
use Rattle.capi.specs.Answers.{of_sent}
use Rattle.capi.specs.declared.answer.Answer.{Answer}

-- SPEC 12.4: a call on the block `old` with the lent buffer `buffer` follows the rule in its answer, in the block at exit, which after a refusal is the very
-- same, and in the buffer at exit, which after a refusal is as it was.
pub record EntryMeets
    {R S T : Type 0} (view : T → S) (answer_of : Outcome R → Answer) (rule : Outcome (Effect R S)) (old : T) (buffer : List ℕ) (answer : Answer)
    (new : T) (buffer' : List ℕ)
    : Type 0 where
  pub answer_is : answer ≡ answer_of (result_of (check_room (length buffer) rule))
  pub block_is : StateAfter view (check_room (length buffer) rule) old new
  pub buffer_is : buffer' ≡ buffer_after (check_room (length buffer) rule) buffer

-- The same of a call that changes no block.
abbrev pub EntryWrites : Rule → List ℕ → Answer → List ℕ → Type 0
EntryWrites rule buffer answer buffer' = EntryMeets (λ u. u) of_sent rule tt buffer answer tt buffer'
