-- What a call answers: a value, or a refusal by its number, SPEC 1.9.
use Rattle.std.specs.Prelude.{ℕ, Bool, cond}

pub data Outcome (A : Type 0) : Type 0 where
  value : A → Outcome A
  refused : ℕ → Outcome A

infixr 5 refuse◌unless◌then◌
-- SPEC 2.2: a rule's tests stand in their order, and the first that fails decides.
abbrev pub refuse◌unless◌then◌ : {A : Type 0} → ℕ → Bool → Outcome A → Outcome A
refuse n unless test then o = cond test o (refused n)
