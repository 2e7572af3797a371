-- What a group's detuning entry on a channel is (SPEC 6.5a), said without the walk over the channels: the last one of the group's keys up to that channel.
-- No contract cites it.
use Rattle.std.specs.Prelude.{List, [], ◌∷◌, ℕ, ℤ, leb, Float, filter}
use Rattle.std.proofs.Math.Option.{Option, some}
use Rattle.plans.specs.declared.aot.GroupBy.{GroupBy}
use Rattle.plans.specs.PlanLine.{PlanLine, of_group, rising}
use Rattle.plans.specs.Walk.{channel}

-- The keys of the group g up to channel c, in order.
abbrev pub group_keys : GroupBy → List PlanLine → ℕ → ℤ → List PlanLine
group_keys by lines c g = filter (λ (l : PlanLine). leb (channel by lines l.key) c) (filter (of_group by g) (rising lines))

-- The detuning of the last of the lines, and e where there is none.
abbrev pub last_of : Option Float → List PlanLine → Option Float
last_of e [] = e
last_of e (x ∷ l) = last_of (some x.detuning) l
