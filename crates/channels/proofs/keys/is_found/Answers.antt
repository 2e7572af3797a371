-- `keys::is_found` meets its contract.
use Rattle.std.proofs.Common.{◌∙◌}
use Rattle.channels.proofs.Records.{note_read, place_held}
use Rattle.channels.proofs.keys.is_found.Goals as goal

pub returns : goal.returns
returns c = c.is_note.ensures ∙ rw (c.note_of.ensures, note_read c.args.raw) (place_held c.args.raw)
