-- `HeldKeys::next` meets its contract.
use Rattle.std.proofs.Common.{length, sym, ap, arith}
use Rattle.pools.specs.View.{view}
use Rattle.pools.specs.PoolAnswers.{held_view, next_held}
use Rattle.pools.proofs.Pools.HeldKeys.{next_met}
use Rattle.pools.proofs.jit.HeldKeysIterator.next.Goals as goal

pub returns-clause-steps : goal.returns-clause-steps
unfolding next_held
returns-clause-steps c =
    let it = c.args.self.now in
    (next_met (view it.model.now) it.from (held_view c.in_ok-held.held) (sym c.in_ok-held.ensures)).left

pub returns-clause-goes : goal.returns-clause-goes
unfolding next_held
returns-clause-goes c =
    let it = c.args.self.now in
    let met = (next_met (view it.model.now) it.from (held_view c.in_ok-held.held) (sym c.in_ok-held.ensures)).left in
    record { on = λ _. (tt, tt, omega (arith, ap length met)); keeps = tt; rests = λ _. tt }
