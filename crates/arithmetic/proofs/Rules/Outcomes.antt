-- Answers by a rule's tests: how a call's own answer meets a rule, and what a rule's refusal says.
use mathlib.Core.Path.{◌≡◌, refl, sym}
use mathlib.Core.Logic.{◌⊎◌, inl, inr, ◌↔◌}
use mathlib.Core.Bool.{Bool, true, false}
use Prim.Native.Nat.{ℕ}
use native.Mathlib.Omega.{arith}
use Rattle.std.specs.Prelude.{Result, Ok, Err}
use Rattle.std.specs.Result.{IsErrAnd}
use Rattle.arithmetic.specs.declared.refusal.Refusal.{Refusal}
use Rattle.arithmetic.specs.Refusal.{number}
use Rattle.arithmetic.specs.Outcome.{Outcome, value, refused, refuse◌unless◌then◌}
use Rattle.arithmetic.specs.Answers.{outcome, outcome_by}

pub no_value : {A X : Type 0} (a : A) (n : ℕ) → value a ≡ refused n → X
no_value a n e = absurd (let z : ◌≡◌ {A = ℕ} 0 1 = cc in omega arith)

-- the test that a call of one test passed
pub passed_of_value : {B : Type 0} (k : ℕ) (test : Bool) (b : B) {c : B} → value c ≡ (refuse k unless test then value b) → (test ≡ true) × (c ≡ b)
passed_of_value k true b e = (refl, (cc))
passed_of_value k false b {c} e = no_value c k e

module _ {A : Type 0} where
  -- ---- a call's answer meets the rule

  -- the test fails, and the call refuses
  pub stops : (k : ℕ) (o : Outcome A) {test : Bool} → test ≡ false → refused k ≡ (refuse k unless test then o)
  stops k o e = rw e

  -- the test passes, and the call goes on
  pub passes : (k : ℕ) (o : Outcome A) {u : Outcome A} {test : Bool} → test ≡ true → u ≡ o → u ≡ (refuse k unless test then o)
  passes k o e h = rw e h

  -- ---- what a call of one test answers, met at a `?`

  -- where it refuses, a rule that begins with the test refuses alike
  pub refused_at : {B : Type 0} (k : ℕ) (test : Bool) (b : B) {n : ℕ} → refused n ≡ (refuse k unless test then value b) → (o : Outcome A)
      → refused n ≡ (refuse k unless test then o)
  refused_at k true b {n} e o = no_value b n (sym e)
  refused_at k false b e o = cc

  -- and where it gives a value, the rule goes on with it
  pub value_at : {B : Type 0} (k : ℕ) (test : Bool) (b : B) {c : B} → value c ≡ (refuse k unless test then value b) → (rest : B → Outcome A) (o : Outcome A)
      → o ≡ rest c → o ≡ (refuse k unless test then rest b)
  value_at k true b {c} e rest o i = let s : c ≡ b = cc in rw (← s) i
  value_at k false b {c} e rest o i = no_value c k e

  -- the exit of a `?` hands the refusal on
  pub hands_on : (r : Result A Refusal) (e : Refusal) → IsErrAnd r (λ d. d ≡ e) → {o : Outcome A} → refused (number e) ≡ o → outcome r ≡ o
  hands_on (Ok x) e h i = absurd h
  hands_on (Err d) e h i = rw h i

  pub hands_on_by : {B : Type 0} (f : B → A) (r : Result B Refusal) (e : Refusal) → IsErrAnd r (λ d. d ≡ e) → {o : Outcome A} → refused (number e) ≡ o
      → outcome_by f r ≡ o
  hands_on_by f (Ok x) e h i = absurd h
  hands_on_by f (Err d) e h i = rw h i

  -- ---- what an answer says

  -- a test refused with k, or the rest of the rule with n
  pub refused_by : (k n : ℕ) (test : Bool) (o : Outcome A) → (refuse k unless test then o) ≡ refused n
      → ((test ≡ false) × (n ≡ k)) ⊎ ((test ≡ true) × (o ≡ refused n))
  refused_by k n true o e = inr (refl, e)
  refused_by k n false o e = inl (refl, (cc))

  -- a rule of one test: it refuses with k, and does so exactly where the test fails
  pub refuses_once : (k n : ℕ) (test : Bool) (a : A) → ((refuse k unless test then value a) ≡ refused n) ↔ ((test ≡ false) × (n ≡ k))
  refuses_once k n test a = (there, back)
    where
      there : (refuse k unless test then value a) ≡ refused n → (test ≡ false) × (n ≡ k)
      there e = elim (refused_by k n test (value a) e) [ inl h ↦ h | inr h ↦ no_value a n h.1 ]

      back : (test ≡ false) × (n ≡ k) → (refuse k unless test then value a) ≡ refused n
      back h = rw (h.0, h.1)

  -- a rule of two tests: the first that fails decides
  pub refuses_twice : (k l n : ℕ) (first second : Bool) (a : A)
      → ((refuse k unless first then refuse l unless second then value a) ≡ refused n)
      ↔ (((first ≡ false) × (n ≡ k)) ⊎ ((first ≡ true) × ((second ≡ false) × (n ≡ l))))
  refuses_twice k l n first second a = (there, back)
    where
      there : (refuse k unless first then refuse l unless second then value a) ≡ refused n
          → ((first ≡ false) × (n ≡ k)) ⊎ ((first ≡ true) × ((second ≡ false) × (n ≡ l)))
      there e =
          elim (refused_by k n first (refuse l unless second then value a) e) [
            | inl h ↦ inl h
            | inr h ↦ inr (h.0, (refuses_once l n second a).0 h.1)
          ]

      back : ((first ≡ false) × (n ≡ k)) ⊎ ((first ≡ true) × ((second ≡ false) × (n ≡ l)))
          → (refuse k unless first then refuse l unless second then value a) ≡ refused n
      back (inl h) = rw (h.0, h.1)
      back (inr h) = rw (h.0, h.1.0, h.1.1)
