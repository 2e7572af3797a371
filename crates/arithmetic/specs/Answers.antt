-- What the code's answers are in the words of the rules, which know nothing of the code: the values, or the refusal's number (SPEC 1.9).
use Rattle.std.specs.Prelude.{Result, Ok, Err, Some, None}
use Rattle.std.specs.Prelude.{Option as Optional}
use Rattle.std.proofs.Math.Option.{Option, some, none}
use Rattle.arithmetic.specs.declared.refusal.Refusal.{Refusal}
use Rattle.arithmetic.specs.Refusal.{number}
use Rattle.arithmetic.specs.Outcome.{Outcome, value, refused}

abbrev pub optional : {A : Type 0} → Optional A → Option A
optional (Some x) = some x
optional None = none

-- Of an answer whose value is read by f.
abbrev pub outcome_by : {A B : Type 0} → (A → B) → Result A Refusal → Outcome B
outcome_by f (Ok x) = value (f x)
outcome_by f (Err r) = refused (number r)

abbrev pub outcome : {A : Type 0} → Result A Refusal → Outcome A
outcome (Ok x) = value x
outcome (Err r) = refused (number r)
