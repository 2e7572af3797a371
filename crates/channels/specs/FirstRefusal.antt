-- Lists whose entries are read one after the other, each behind those before, so that the first that is refused decides: SPEC 2.2.
use Rattle.std.specs.Prelude.{◌≡◌, ℕ, List, [], ◌∷◌, ◌++◌}
use Rattle.arithmetic.specs.Outcome.{Outcome, value, refused}

-- What a value goes on to; a refusal stays.
abbrev pub onward : {A B : Type 0} → Outcome A → (A → Outcome B) → Outcome B
onward (value x) f = f x
onward (refused n) f = refused n

-- The values of the entries, each by `rule`, behind the values `before`; or the first refusal.
unfoldable pub one_by_one : {A B : Type 0} → (List B → A → Outcome B) → List B → List A → Outcome (List B)
one_by_one rule before [] = value before
one_by_one rule before (x ∷ rest) = onward (rule before x) (λ y. one_by_one rule (before ++ (y ∷ [])) rest)

-- The first entry that is refused, and by which number: those before it have values.
pub record Offence {A B : Type 0} (rule : List B → A → Outcome B) (before : List B) (entries : List A) (n : ℕ) : Type 0 where
  pub good : List A
  pub values : List B
  pub entry : A
  pub behind : List A
  pub parts : entries ≡ good ++ entry ∷ behind
  pub fine : one_by_one rule before good ≡ value (before ++ values)
  pub wrong : rule (before ++ values) entry ≡ refused n
