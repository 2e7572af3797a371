-- `pitch::Pitch::is_in_range` meets its contract: the code's two limits are the definition's.
use mathlib.Core.Path.{sym, ◌∙◌}
use lib.Ieee.{of_bits}
use Rattle.arithmetic.specs.Pitch.{is_pitch}
use Rattle.arithmetic.proofs.Numbers.Floats.{partial_le_is}
use Rattle.arithmetic.proofs.pitch.Pitch.is_in_range.Goals as goal

pub returns-then-le : goal.returns-then-le
unfolding is_pitch of_bits
returns-then-le c = rw (sym (c.le.ensures ∙ partial_le_is _ _) ∙ c.if-le.true) (c.le-then-le.ensures ∙ partial_le_is _ _)

pub returns-else-le : goal.returns-else-le
unfolding is_pitch of_bits
returns-else-le c = rw (sym (c.le.ensures ∙ partial_le_is _ _) ∙ c.if-le.false) c.if-le.false
