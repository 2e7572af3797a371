-- `placing::place_keys` meets its contract. The loop's invariant is the pass at a key.
use Rattle.std.proofs.Common.{map, drop}
use Rattle.plans.specs.PlanInternal.{line_at}
use Rattle.plans.proofs.Walk.Pass.{Pass}
use Rattle.plans.proofs.placing.place_keys.Given as goal

abbrev pub invariant-loop-key : goal.invariant-loop-key
invariant-loop-key l =
    let line = line_at l.initial.records l.detunings in
    Pass l.by (map line l.key-items) l.detunings l.records l.runs l.count l.key-index (map line (drop l.key-index l.key-items))
