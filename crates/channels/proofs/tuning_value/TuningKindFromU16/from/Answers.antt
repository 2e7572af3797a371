-- `TuningKind::from` meets its contract, number by number.
use Rattle.std.proofs.Common.{◌≢◌, arith, ne_eqb}
use Rattle.channels.specs.TuningValue.{tuning_kind_of}
use Rattle.channels.proofs.tuning_value.TuningKindFromU16.from.Goals as goal

pub returns-in-1 : goal.returns-in-1
unfolding tuning_kind_of
returns-in-1 c = rw c.in-1.is

pub returns-in_default : goal.returns-in_default
unfolding tuning_kind_of
returns-in_default c = let other : c.args.number ≢ 1 = omega arith in rw (ne_eqb c.args.number 1 other)
