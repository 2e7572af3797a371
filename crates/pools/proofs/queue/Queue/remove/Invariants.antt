-- `Queue::remove` meets its contract. The loop's invariant: the first items are those read without the number, and none from i on has changed.
use Rattle.std.proofs.Common.{◌≡◌, ◌≤◌, length, take, drop}
use Rattle.channels.specs.Lists.{without}
use Rattle.pools.proofs.queue.Queue.remove.Given as goal

abbrev pub invariant-loop-i : goal.invariant-loop-i
invariant-loop-i l = record {
  long : length l.self.items ≡ 16;
  few : l.kept ≤ l.i;
  read : take l.kept l.self.items ≡ without l.x (take l.i l.initial.self.items);
  rest : drop l.i l.self.items ≡ drop l.i l.initial.self.items;
}
