use Rattle.std.proofs.Common.{rules}
use Rattle.channels.specs.TuningValue.{tuning_kind_of}
use Rattle.channels.proofs.tuning_value.U16FromTuningKind.from.Goals as goal

pub returns : goal.returns
unfolding tuning_kind_of
returns c = search rules
