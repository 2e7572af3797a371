-- `AotTuningModel::new` meets its contract: no key has a record.
use Rattle.std.proofs.Common.{rules}
use Rattle.plans.specs.PlanNumbers.{group_by_of}
use Rattle.plans.proofs.Model.Views.{view_of_empty}
use Rattle.plans.proofs.aot.AotTuningModel.new.Goals as goal

pub returns : goal.returns
unfolding group_by_of
returns c = view_of_empty c.args.channels c.args.group_by _ c.len.result _ (search rules) c.len.ensures
