-- `AotTuningModel::access_key` meets its contract: a key's record is read.
use Rattle.std.proofs.Common.{◌≡◌, length, sym, ◌∙◌, arith}
use lib.Ieee.{binary64, of_bits}
use lib.ListN.{length-map}
use Rattle.plans.specs.PlanNumbers.{floats}
use Rattle.plans.specs.Plan.{view}
use Rattle.plans.proofs.Model.Records.{key_looked_up}
use Rattle.plans.proofs.Model.Views.{record_in}
use Rattle.plans.proofs.aot.AotTuningModel.access_key.Goals as goal

pub returns : goal.returns
unfolding view
returns c =
    let m = c.args.self.now in
    let r : length m.records ≡ 256 = omega arith in
    let d : length (floats m.detunings) ≡ 256 = omega (arith, length-map m.detunings (of_bits binary64)) in
    key_looked_up _ c.args.key _ _ (record_in m.records (floats m.detunings) (r ∙ sym d) c.args.key) c.place_of.result c.place_of.ensures
