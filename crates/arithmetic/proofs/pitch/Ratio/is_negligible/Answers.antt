-- `pitch::Ratio::is_negligible` meets its contract: the code's two limits are the nearest f64 of the decimals.
use mathlib.Core.Path.{sym, ◌∙◌}
use lib.Ieee.{of_bits, round}
use Rattle.arithmetic.specs.Pitch.{negligible_from, negligible_below, negligible}
use Rattle.arithmetic.proofs.Numbers.Floats.{partial_le_is, partial_lt_is}
use Rattle.arithmetic.proofs.pitch.Ratio.is_negligible.Goals as goal

pub returns-then-le : goal.returns-then-le
unfolding negligible negligible_from negligible_below of_bits round
returns-then-le c = rw (sym (c.le.ensures ∙ partial_le_is _ _) ∙ c.if-le.true) (c.lt.ensures ∙ partial_lt_is _ _)

pub returns-else-le : goal.returns-else-le
unfolding negligible negligible_from negligible_below of_bits round
returns-else-le c = rw (sym (c.le.ensures ∙ partial_le_is _ _) ∙ c.if-le.false) c.if-le.false
