-- `Queue::count_up` meets its contract.
use Rattle.std.proofs.Common.{◌≡◌, take, ap, ◌∙◌, min, rules, arith}
use Rattle.std.proofs.lemmas.List.FromFn.{fill_by_all}
use Rattle.channels.specs.Lists.{upward}
use Rattle.pools.specs.View.{queue_of}
use Rattle.pools.proofs.Queues.{take_range}
use Rattle.pools.proofs.queue.Queue.count_up.Goals as goal

pub returns : goal.returns
unfolding queue_of upward
returns c =
    let n = c.args.count in
    let items = c.from_fn.ensures.items in
    let all : c.from_fn.result ≡ upward 0 16 = fill_by_all (λ k. k) c.from_fn.result 16 0 items.long (λ k h. search (rules, items.at k 0 h)) in
    let e : min n 16 ≡ n = omega arith in
    ap (take n) all ∙ take_range n 0 16 ∙ ap (upward 0) e
