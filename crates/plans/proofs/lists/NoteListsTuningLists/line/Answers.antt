-- `NoteLists::line` meets its contract: a list without an entry is refused, then the note, then the detuning.
use Rattle.std.proofs.Common.{◌≡◌, rules, ℤ, true, false, get_or, sym, ◌∙◌}
use mir.Syntax.{w32}
use mir.Val.{SFits}
use Rattle.arithmetic.specs.Refusal.{detuning_out_of_range}
use Rattle.arithmetic.specs.Outcome.{Outcome, value, refused, refuse◌unless◌then◌}
use Rattle.arithmetic.proofs.Rules.Outcomes.{hands_on_by}
use Rattle.arithmetic.proofs.Notes.Bounds.{at_no_note, at_note}
use Rattle.plans.specs.PlanLine.{PlanLine}
use Rattle.plans.specs.PlanLists.{is_planned, note_line, note_lines}
use Rattle.plans.specs.KeyLine.{key_line}
use Rattle.plans.proofs.Lines.Check.{note_row, planned_positive}
use Rattle.plans.proofs.lists.NoteListsTuningLists.line.Goals as goal
use Rattle.plans.proofs.lists.NoteListsTuningLists.line.Goals.{In_ok-detuning}

-- the line of these entries
module _ (c : In_ok-detuning) where
  abbrev rest : ℤ → Outcome PlanLine
  rest z =
      refuse detuning_out_of_range unless is_planned c.in_ok-detuning.detuning then
      value (record { key = c.in_ok-key.key; note = z; detuning = c.in_ok-detuning.detuning })

  abbrev the_line : Outcome PlanLine
  the_line = note_line c.in_ok-key.key c.in_ok-number.number c.in_ok-detuning.detuning

  abbrev row : Outcome PlanLine
  row = let s = c.args.self.now in get_or (note_lines s.keys.now s.notes.now s.detunings.now) c.args.i (refused 12)

  row_is : row ≡ the_line
  row_is =
      let s = c.args.self.now in
      rw (note_row s.keys.now s.notes.now s.detunings.now c.args.i, ← c.in_ok-key.ensures, ← c.in_ok-number.ensures, ← c.in_ok-detuning.ensures)

  fitting : SFits w32 c.in_ok-number.number
  fitting = search rules

pub returns-in_err-note : goal.returns-in_err-note
unfolding note_line
returns-in_err-note c =
    let t = (goal.at.returns-in_err-note c).In_ok-detuning in
    hands_on_by key_line c.from_residual-in_err-note.result _ c.from_residual-in_err-note.ensures.1
    (at_no_note c.in_ok-number.number (fitting t) c.in_err-note.ensures (rest t c.in_ok-number.number) ∙ sym (row_is t))

pub returns-then-not-is_planned : goal.returns-then-not-is_planned
unfolding note_line
returns-then-not-is_planned c =
    let t = (goal.at.returns-then-not-is_planned c).In_ok-detuning in
    let no : is_planned c.in_ok-detuning.detuning ≡ false = sym c.is_planned.ensures ∙ c.if-not-is_planned.true in
    at_note c.in_ok-number.number (fitting t) c.in_ok-note.ensures (rest t) (refused 3) (rw no) ∙ sym (row_is t)

pub invariant_of-result : goal.invariant_of-result
invariant_of-result c = record { above_zero = planned_positive c.in_ok-detuning.detuning (sym c.is_planned.ensures ∙ c.if-not-is_planned.false) }

pub returns : goal.returns
unfolding note_line
returns c =
    let t = (goal.at.returns c).In_ok-detuning in
    let yes : is_planned c.in_ok-detuning.detuning ≡ true = sym c.is_planned.ensures ∙ c.if-not-is_planned.false in
    at_note c.in_ok-number.number (fitting t) c.in_ok-note.ensures (rest t) _ (rw yes) ∙ sym (row_is t)
