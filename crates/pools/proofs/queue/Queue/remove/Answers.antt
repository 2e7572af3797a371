-- `Queue::remove` meets its contract. The loop's invariant: the first items are those read without the number, and none from i on has changed.
use Rattle.std.proofs.Common.{◌≡◌, ℕ, length, get_or, take, set, sym, ap, ◌∙◌, arith}
use Rattle.std.proofs.lemmas.List.{length-set, length-take-le}
use Rattle.channels.specs.Lists.{without}
use Rattle.pools.specs.View.{queue_of}
use Rattle.pools.proofs.Queues.{counted, sifted_here, sifted_other, sifted_rest, length_fewer}
use Rattle.pools.proofs.queue.Queue.remove.Goals as goal
use Rattle.pools.proofs.queue.Queue.remove.Goals.{then-y-x, else-y-x}

pub loop-i-preserved : goal.loop-i-preserved
loop-i-preserved c =
    let l = c.loop-i in
    let items = l.self.items in
    let m = c.args.self.now.items in
    let y = get_or items l.i 0 in
    let e : length items ≡ length m = omega arith in
    let v = l.invariant in
    let x = c.args.x in
    let rest = sifted_rest x items m l.i l.kept (omega arith) e v.few v.read v.rest in
    let kept = λ (k : ℕ). take k (set items l.kept y) in
    elim c.if-y-x.branch [
      | then-y-x w ↦ record {
        long = omega (arith, length-set items l.kept y);
        few = omega arith;
        read = ap kept w.kept-is ∙ sifted_other x items m l.i l.kept (omega arith) e v.few v.read v.rest w.if-y-x.true;
        rest = rest;
      }
      | else-y-x w ↦ record {
        long = omega (arith, length-set items l.kept y);
        few = omega arith;
        read = ap kept w.kept-is ∙ sifted_here x items m l.i l.kept (omega arith) e v.few v.read v.rest w.if-y-x.false;
        rest = rest;
      }
    ]

pub returns-clause-found : goal.returns-clause-found
unfolding queue_of
returns-clause-found c =
    let l = c.loop-i in
    let q = c.args.self.now in
    let n = c.len-n.result in
    let ended : l.i ≡ n = omega arith in
    let left =
    l.invariant.read
    ∙ ap (λ k. without c.args.x (take k q.items)) ended
    ∙ ap (without c.args.x) (sym (counted q.count n q.items c.len-n.ensures.count)) in
    let many = length-take-le l.kept l.self.items (omega arith) in
    length_fewer c.args.x (take q.count q.items) l.kept n (sym many ∙ ap length left) c.len-n.ensures.count
