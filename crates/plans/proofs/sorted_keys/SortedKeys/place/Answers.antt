-- `SortedKeys::place` meets its contract: a detuning separates keys in order.
use Rattle.std.proofs.Common.{rules, ap, ◌∙◌}
use Rattle.std.proofs.lemmas.List.Sorted.{IsPartitionPoint-from_clause}
use Rattle.plans.specs.PlanInternal.{before}
use Rattle.plans.proofs.Lines.SortedKeys.{rises_in}
use Rattle.plans.proofs.Lines.Insertion.{comes_before, before_partitions, place_is}
use Rattle.plans.proofs.sorted_keys.SortedKeys.place.Goals as goal

pub returns : goal.returns
returns c =
    let s = c.args.self.now in
    let f = c.requires in
    let rises = rises_in s f.0 f.2 f.1 in
    let ks = c.as_slice-keys.result.now in
    let here = c.as_slice-keys.ensures.value in
    let p = IsPartitionPoint-from_clause (comes_before s.detunings c.args.line.detuning) ks c.partition_point.result c.partition_point.ensures.partitioned
    (before_partitions s.detunings c.args.line.detuning ks (rw here rises) c.args.line.above_zero) (λ a r f' k. search rules) in
    place_is s.detunings c.args.line.detuning ks c.partition_point.result c.partition_point.ensures.bound p
    ∙ ap (before s.detunings c.args.line.detuning) here
