-- `placing::channels_with` meets its contract, by its two tests.
use mathlib.Core.Path.{◌≡◌, sym, ◌∙◌}
use mathlib.Core.Bool.{true, false}
use Prim.Native.Nat.{ℕ, zero, suc, ◌+◌, ◌<◌, ◌≤◌}
use native.Mathlib.Numerals.{add-one}
use native.Mathlib.Omega.{arith}
use borrow.Author.Tests.{ltb-true}
use lib.Ieee.{Float}
use Rattle.plans.specs.PlanLine.{joins}
use Rattle.plans.specs.PlanInternal.{channels_with}
use Rattle.plans.proofs.placing.channels_with.Goals as goal
use Rattle.plans.proofs.placing.channels_with.Goals.{then-used-gt0, else-used-gt0}

module _ (b d : Float) where
  joined_is : (n : ℕ) → 0 < n → joins b d ≡ true → n ≡ channels_with n b d
  unfolding channels_with
  joined_is zero h e = absurd (let z : ⊥ = omega arith in z)
  joined_is (suc n) h e = rw e

  parted_is : (n : ℕ) → 0 < n → joins b d ≡ false → n + 1 ≡ channels_with n b d
  unfolding channels_with
  parted_is zero h e = absurd (let z : ⊥ = omega arith in z)
  parted_is (suc n) h e = rw (e, add-one)

  first_is : (n : ℕ) → n ≤ 0 → n + 1 ≡ channels_with n b d
  unfolding channels_with
  first_is zero h = omega arith
  first_is (suc n) h = absurd (let z : ⊥ = omega arith in z)

pub returns-then-joined : goal.returns-then-joined
returns-then-joined c = elim c.if-used-gt0.branch [
  | then-used-gt0 w ↦ joined_is _ _ _ w.if-used-gt0.true (sym w.joins-joined.ensures ∙ sym w.joined-is ∙ c.if-joined.true)
  | else-used-gt0 w ↦ absurd (let z : ⊥ = omega (arith, ltb-true 0 c.args.used (sym w.joined-is ∙ c.if-joined.true), w.if-used-gt0.false) in z)
]

pub returns-else-joined : goal.returns-else-joined
returns-else-joined c = elim c.if-used-gt0.branch [
  | then-used-gt0 w ↦ parted_is _ _ _ w.if-used-gt0.true (sym w.joins-joined.ensures ∙ sym w.joined-is ∙ c.if-joined.false)
  | else-used-gt0 w ↦ first_is _ _ _ w.if-used-gt0.false
]
