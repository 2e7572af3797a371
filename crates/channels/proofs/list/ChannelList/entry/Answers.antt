-- `list::ChannelList::entry` meets its contract: channel i of the array as it is read.
use Rattle.std.proofs.Common.{arith}
use Rattle.channels.proofs.ChannelLists.{entries_few, entry_at, entry_past}
use Rattle.channels.proofs.list.ChannelList.entry.Goals as goal

pub bounds-self-i : goal.bounds-self-i
bounds-self-i c = omega (arith, entries_few c.args.self)

pub returns-then-i-len : goal.returns-then-i-len
returns-then-i-len c = rw c.by_remainder.ensures (entry_at c.args.self c.args.i (omega arith))

pub returns : goal.returns
returns c = entry_past c.args.self c.args.i (omega arith)
