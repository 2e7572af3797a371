-- `Note::try_from` meets its contract.
use mathlib.Core.Path.{refl, sym, ◌∙◌}
use mir.Syntax.{w32}
use mir.ValLaws.{to_z-of_z}
use Rattle.arithmetic.specs.Outcome.{value}
use Rattle.arithmetic.specs.Note.{note_rule}
use Rattle.arithmetic.specs.Refusal.{note_out_of_range}
use Rattle.arithmetic.proofs.Rules.Outcomes.{stops, passes}
use Rattle.arithmetic.proofs.note.NoteTryFromI32.try_from.Goals as goal

pub returns-then-is_note : goal.returns-then-is_note
unfolding note_rule
returns-then-is_note c =
    rw (to_z-of_z w32 c.args.number c.ranges.number)
    (passes note_out_of_range (value c.args.number) (rw (to_z-of_z w32 c.args.number c.ranges.number) at (sym c.is_note.ensures ∙ c.if-is_note.true)) refl)

pub returns : goal.returns
unfolding note_rule
returns c = stops note_out_of_range _ (rw (to_z-of_z w32 c.args.number c.ranges.number) at (sym c.is_note.ensures ∙ c.if-is_note.false))
