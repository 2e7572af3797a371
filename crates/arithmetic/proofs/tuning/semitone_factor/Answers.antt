-- `tuning::semitone_factor` meets its contract: the table has the factor of each place, which antt computes.
use lib.Ieee.{nan, of_bits, round}
use Rattle.arithmetic.specs.Pitch.{significands}
use Rattle.arithmetic.specs.Internal.{factor_to12}
use Rattle.arithmetic.proofs.Numbers.Tables.{tabulate_at}
use Rattle.arithmetic.proofs.tuning.semitone_factor.Goals as goal

pub returns : goal.returns
unfolding of_bits significands factor_to12 round
returns c = tabulate_at factor_to12 nan 13 c.args.k c.requires
