-- `aot::least_group` meets its contract: what the chain gives, and the least of that.
use Rattle.std.proofs.Common.{rules, tests}
use Rattle.std.specs.Int.Signed.{le_z}
use Rattle.std.proofs.lemmas.Iterator.{YieldsList-from_slice}
use Rattle.std.proofs.lemmas.Iterator.Consumers.{YieldsList-at, YieldsList-from_filter, YieldsList-from_filter_map, reduce_from_yields_List}
use Rattle.plans.specs.PlanInternal.{group_up_to}
use Rattle.plans.proofs.Model.NextEntry.{least_reduced}
use Rattle.plans.proofs.aot.least_group.Goals as goal

pub returns : goal.returns
returns c =
    least_reduced _ _ (reduce_from_yields_List _ c.filter.result _ c.min.ensures.ran
    (YieldsList-from_filter _ (le_z c.args.from)
    (YieldsList-at c.filter.ensures.source (YieldsList-from_filter_map _ (group_up_to c.args.by c.args.channel)
    (YieldsList-from_slice c.args.records.now cc) c.filter_map.ensures.closure (λ x r q k. search (rules, tests))))
    c.filter.ensures.closure (λ x r q k. search (rules, tests))))
