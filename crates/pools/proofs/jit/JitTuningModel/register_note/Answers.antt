-- `JitTuningModel::register_note` meets its contract.
use Rattle.std.proofs.Common.{sym}
use Rattle.std.proofs.lemmas.Int.{to_z-of_z}
use Rattle.pools.specs.View.{view, register_note_rule}
use Rattle.pools.proofs.Pools.Presses.{noted, not_noted}
use Rattle.pools.proofs.jit.JitTuningModel.register_note.Goals as goal

pub returns-in_err-note-clause-state : goal.returns-in_err-note-clause-state
unfolding register_note_rule
returns-in_err-note-clause-state c = rw (not_noted c.args.note _ (rw (to_z-of_z _ _ c.ranges.note) at c.in_err-note.ensures)).0

pub returns : goal.returns
returns c =
    let note = rw (to_z-of_z _ _ c.ranges.note) at c.in_ok-note.ensures in
    rw (sym (noted c.args.note _ note (view c.args.self.now) c.args.key c.args.detuning)) c.press.ensures
