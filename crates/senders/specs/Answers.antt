-- The answers of presses in the words of the rules (SPEC 9.2).
use Rattle.std.specs.Prelude.{Result}
use Rattle.arithmetic.specs.declared.refusal.Refusal.{Refusal}
use Rattle.arithmetic.specs.Answers.{outcome_by}
use Rattle.channels.specs.Outcome.{Outcome}
use Rattle.senders.specs.Jit.{PressResult, press_sent, press_rejected}
use Rattle.senders.specs.declared.jit.Pressed.{Pressed}
use Rattle.senders.specs.declared.jit.Pressed.TheVariants.{Sent, Rejected}

-- A press was sent or rejected, with so many bytes.
abbrev pub pressed : Pressed → PressResult
pressed (Sent n) = press_sent n
pressed (Rejected n) = press_rejected n

-- SPEC 9.2: a press was sent, rejected, or refused.
abbrev pub press_answer : Result Pressed Refusal → Outcome PressResult
press_answer r = outcome_by pressed r
