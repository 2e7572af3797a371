-- `note::midi_number` meets its contract.
use mir.Syntax.{w32}
use Rattle.std.proofs.lemmas.Int.{to_z-of_z}
use Rattle.arithmetic.proofs.Notes.Bounds.{midi_tested}
use Rattle.arithmetic.proofs.note.midi_number.Goals as goal
use Rattle.arithmetic.proofs.note.midi_number.Goals.{else-note-ge0-via-then-note-ge0+else-note-le-HIGHEST_MIDI_NUMBER, else-note-ge0-via-else-note-ge0}

pub returns-then-note-le-HIGHEST_MIDI_NUMBER : goal.returns-then-note-le-HIGHEST_MIDI_NUMBER
returns-then-note-le-HIGHEST_MIDI_NUMBER c =
    let e = to_z-of_z w32 c.args.note c.ranges.note in
    rw (midi_tested c.args.note, e, rw e at c.if-note-ge0.true, rw e at c.if-note-le-HIGHEST_MIDI_NUMBER.true)

pub returns : goal.returns
returns c =
    let e = to_z-of_z w32 c.args.note c.ranges.note in
    elim c.else-note-ge0.branch [
      | else-note-ge0-via-then-note-ge0+else-note-le-HIGHEST_MIDI_NUMBER w ↦
          rw (midi_tested c.args.note, rw e at w.if-note-ge0.true, rw e at w.if-note-le-HIGHEST_MIDI_NUMBER.false)
      | else-note-ge0-via-else-note-ge0 w ↦ rw (midi_tested c.args.note, rw e at w.if-note-ge0.false)
    ]
