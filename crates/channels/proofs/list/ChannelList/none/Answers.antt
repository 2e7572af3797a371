-- `list::ChannelList::none` meets its contract: no place is an entry.
use Rattle.std.proofs.Common.{refl}
use Rattle.channels.specs.ChannelList.{entries}
use Rattle.channels.proofs.list.ChannelList.none.Goals as goal

pub returns : goal.returns
unfolding entries
returns c = refl
