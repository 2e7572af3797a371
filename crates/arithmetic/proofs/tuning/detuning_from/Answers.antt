-- `tuning::detuning_from` meets its contract.
use Rattle.arithmetic.specs.Pitch.{detuning_of}
use Rattle.arithmetic.proofs.tuning.detuning_from.Goals as goal

pub returns : goal.returns
unfolding detuning_of
returns c = cc
