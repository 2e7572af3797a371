-- `SortedKeys::of` meets its contract. The loop's invariant: the lines so far are held, and the lines that are left decide.
use Rattle.std.proofs.Common.{[], drop}
use Rattle.plans.specs.PlanLists.{line_by_line}
use Rattle.plans.proofs.Lines.Check.{Turn}
use Rattle.plans.proofs.sorted_keys.SortedKeys.of.Given as goal

abbrev pub invariant-loop-i : goal.invariant-loop-i
invariant-loop-i g l = let rows = g.L.TuningLists.rows l.lists in Turn (line_by_line [] rows) l.keys (drop l.i rows)
