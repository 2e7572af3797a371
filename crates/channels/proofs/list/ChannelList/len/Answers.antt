-- `list::ChannelList::len` meets its contract: the count, or sixteen where it is larger.
use Rattle.std.proofs.Common.{arith}
use Rattle.channels.proofs.ChannelLists.{length_entries}
use Rattle.channels.proofs.list.ChannelList.len.Goals as goal

pub returns : goal.returns
returns c = omega (arith, length_entries c.args.self (omega arith))
