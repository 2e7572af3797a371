-- `pitch::Ratio::binary` meets its contract: `Fields` has what each kind of bit pattern says, and the tests of the code tell the kinds apart.
use mathlib.Core.Path.{◌≡◌, sym, ◌∙◌, subst}
use mathlib.Core.Bool.{true}
use lib.Dec.{T}
use lib.Ieee.{binary64, fits}
use lib.Ieee.Positive.{above}
use Rattle.arithmetic.specs.Internal.{WritesOut}
use Rattle.arithmetic.proofs.Measure.Fields.{above_zero, not_above, subnormal, normal, infinite}
use borrow.Author.Rules.{rules}
use Rattle.arithmetic.proofs.pitch.Ratio.binary.Goals as goal
use Rattle.arithmetic.proofs.pitch.Ratio.binary.Goals.{Start, Then-v}

value_fits : (c : Start) → T (fits binary64 c.args.self.float_value)
value_fits c = search rules

value_above : (c : Then-v) → above c.before.args.self.float_value ≡ true
value_above c = sym (above_zero c.before.args.self.float_value) ∙ c.if-v.true

pub first_digits-requires : goal.first_digits-requires
first_digits-requires c =
    let b =
    subnormal c.args.self.float_value (value_fits (goal.at.first_digits-requires c).Start)
    (value_above (goal.at.first_digits-requires c).Then-v) c.if-exponent-eq0.true in
    (b.0, search rules, search rules)

pub returns-then-exponent-eq0 : goal.returns-then-exponent-eq0
returns-then-exponent-eq0 c =
    subst (WritesOut c.first_digits.result)
    (sym
    (subnormal c.args.self.float_value (value_fits (goal.at.returns-then-exponent-eq0 c).Start)
    (value_above (goal.at.returns-then-exponent-eq0 c).Then-v) c.if-exponent-eq0.true).1)
    c.first_digits.ensures

pub returns-then-exponent-lt2047 : goal.returns-then-exponent-lt2047
returns-then-exponent-lt2047 c =
    subst (WritesOut c.first_digits-then-exponent-lt2047.result)
    (sym
    (normal c.args.self.float_value (value_fits (goal.at.returns-then-exponent-lt2047 c).Start)
    (value_above (goal.at.returns-then-exponent-lt2047 c).Then-v) c.if-exponent-eq0.false c.if-exponent-lt2047.true))
    c.first_digits-then-exponent-lt2047.ensures

pub returns-else-exponent-lt2047 : goal.returns-else-exponent-lt2047
returns-else-exponent-lt2047 c =
    infinite c.args.self.float_value (value_fits (goal.at.returns-else-exponent-lt2047 c).Start)
    (value_above (goal.at.returns-else-exponent-lt2047 c).Then-v) c.if-exponent-lt2047.false

pub returns-else-v : goal.returns-else-v
returns-else-v c = let v = c.args.self.float_value in not_above v (sym (above_zero v) ∙ c.if-v.false)
