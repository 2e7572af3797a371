-- `SortedKeys::none` meets its contract.
use Rattle.plans.proofs.Lines.SortedKeys.{holds_none}
use Rattle.plans.proofs.sorted_keys.SortedKeys.none.Goals as goal

pub returns : goal.returns
returns c = holds_none _ _ c.new.ensures
