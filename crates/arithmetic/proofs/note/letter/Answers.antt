-- `note::letter` meets its contract.
use mathlib.Core.Path.{ap}
use Rattle.arithmetic.specs.Outcome.{value}
use Rattle.arithmetic.specs.Note.{letter_of, letter_rule}
use Rattle.arithmetic.proofs.Rules.Outcomes.{hands_on}
use Rattle.arithmetic.proofs.Notes.Bounds.{at_no_note, at_note}
use Rattle.arithmetic.proofs.note.letter.Goals as goal

pub returns-in_err-note : goal.returns-in_err-note
unfolding letter_rule
returns-in_err-note c = hands_on c.from_residual.result _ c.from_residual.ensures.1 (at_no_note c.args.note c.ranges.note c.in_err-note.ensures _)

pub returns : goal.returns
unfolding letter_rule
returns c = at_note c.args.note c.ranges.note c.in_ok-note.ensures (λ z. value (letter_of z)) _ (ap value c.letter.ensures)
