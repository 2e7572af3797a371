-- `list::ChannelList::of` meets its contract. The loop's invariant: the list has as entries what was gone through, with nothing wrong with it, and the rule of
-- all is that of the rest behind them.
use Rattle.std.proofs.Common.{◌≡◌, [], length, drop}
use Rattle.channels.specs.ChannelList.{entries, entry_rule, list_rule, Channels}
use Rattle.channels.specs.FirstRefusal.{one_by_one}
use Rattle.channels.proofs.list.ChannelList.of.Given as goal

abbrev pub invariant-loop-number : goal.invariant-loop-number
invariant-loop-number l = record {
  places : length l.list.channels ≡ 16;
  counted : l.list.count ≡ length (entries l.list);
  fine : Channels [] (entries l.list);
  rule : list_rule l.channels ≡ one_by_one entry_rule (entries l.list) (drop l.number-index l.channels);
}
