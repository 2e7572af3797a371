-- `note::checked_midi_number` meets its contract.
use mathlib.Core.Path.{ap, ◌∙◌}
use mir.Syntax.{w32}
use Rattle.std.proofs.lemmas.Int.{to_z-of_z}
use Rattle.arithmetic.specs.Answers.{optional}
use Rattle.arithmetic.specs.Outcome.{value}
use Rattle.arithmetic.specs.Note.{midi_number, midi_rule}
use Rattle.arithmetic.proofs.Rules.Outcomes.{hands_on_by}
use Rattle.arithmetic.proofs.Notes.Bounds.{at_no_note, at_note, note_fits}
use Rattle.arithmetic.proofs.note.checked_midi_number.Goals as goal

pub returns-in_err-note : goal.returns-in_err-note
unfolding midi_rule
returns-in_err-note c = hands_on_by optional c.from_residual.result _ c.from_residual.ensures.1 (at_no_note c.args.note c.ranges.note c.in_err-note.ensures _)

pub returns : goal.returns
unfolding midi_rule
returns c =
    let n = c.in_ok-note.note in
    let f = note_fits n.number n.is_note in
    at_note c.args.note c.ranges.note c.in_ok-note.ensures (λ z. value (midi_number z)) _
    (ap value (c.midi_number.ensures ∙ ap midi_number (to_z-of_z w32 n.number f)))
