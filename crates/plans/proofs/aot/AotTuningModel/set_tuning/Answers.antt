-- `AotTuningModel::set_tuning` meets its contract, demand 3 included: what was planned of the keys in order is the rule's plan.
use Rattle.std.proofs.Common.{◌≡◌, List, Float, length, sym, subst, arith}
use Rattle.channels.specs.ChannelList.{entries}
use Rattle.channels.proofs.ChannelLists.{entries_few}
use Rattle.plans.specs.Plan.{TuningMeets, view, planned, records_in, tuned, untuned}
use Rattle.plans.specs.PlanInternal.{Assignments, lines_of}
use Rattle.plans.proofs.Planning.Planned.{filled_if}
use Rattle.plans.proofs.Model.Tunings.{refused_tunes, untuned_tunes, tuned_tunes, optimal_of, measurable_of}
use Rattle.plans.proofs.aot.AotTuningModel.set_tuning.Given.{Over}
use Rattle.plans.proofs.aot.AotTuningModel.set_tuning.Goals as goal
use Rattle.plans.proofs.aot.AotTuningModel.set_tuning.Goals.{After-reset, After-put_bits}

pub returns-in_err-keys-clause-meets : goal.returns-in_err-keys-clause-meets
returns-in_err-keys-clause-meets g c =
    refused_tunes c.args.self.now (g.L.TuningLists.lines c.args.lists.now) _ c.from_residual.result c.from_residual.ensures.1
    c.in_err-keys.ensures

pub place_keys-count-requires : goal.place_keys-count-requires
place_keys-count-requires g c = filled_if (g.L.TuningLists.lines c.args.lists.now) c.in_ok-keys.keys c.in_ok-keys.ensures

-- there are too few channels
few_tunes : (g : Over) (c : After-reset g)
    → TuningMeets (planned (view c.args.self.now) (g.L.TuningLists.lines c.args.lists.now)) c.args.self.now c.reset.new.self (untuned c.place_keys-count.result)
few_tunes g c =
    untuned_tunes c.args.self.now (g.L.TuningLists.lines c.args.lists.now) c.in_ok-keys.keys c.in_ok-keys.ensures (entries c.channels-channels.result)
    c.channels-channels.ensures c.group_by-by.result c.group_by-by.ensures _ c.place_keys-count.result c.place_keys-count.ensures
    (omega (arith, c.len-present.ensures, c.if-few.true)) c.reset.new.self c.reset.ensures

pub returns-then-few-clause-meets : goal.returns-then-few-clause-meets
returns-then-few-clause-meets g c = few_tunes g (goal.at.returns-then-few-clause-meets g c).After-reset

pub returns-then-few-clause-optimal : goal.returns-then-few-clause-optimal
returns-then-few-clause-optimal g c =
    optimal_of c.args.self.now (g.L.TuningLists.lines c.args.lists.now) _ c.in_ok-keys.ensures c.reset.new.self _
    (few_tunes g (goal.at.returns-then-few-clause-optimal g c).After-reset)

-- or enough
module _ (g : Over) (c : After-put_bits g) where
  places : length c.channels-channels.result.channels ≡ 16
  places = omega arith

  enough_tunes : TuningMeets (planned (view c.args.self.now) (g.L.TuningLists.lines c.args.lists.now)) c.args.self.now
      (record c.args.self.now {
        records = c.place_keys-count.new.keys.records;
        detunings = c.put_bits.new.bits;
        num_channels = c.place_keys-count.result;
        tuned = 1;
      })
      (tuned c.place_keys-count.result)
  enough_tunes =
      tuned_tunes c.args.self.now (g.L.TuningLists.lines c.args.lists.now) c.in_ok-keys.keys c.in_ok-keys.ensures (entries c.channels-channels.result)
      c.channels-channels.ensures c.group_by-by.result c.group_by-by.ensures _ _ c.place_keys-count.result
      (subst (λ (ds : List Float). Assignments c.group_by-by.result (lines_of c.in_ok-keys.keys) (records_in c.place_keys-count.new.keys.records ds)
      c.place_keys-count.result) (sym c.put_bits.ensures) c.place_keys-count.ensures)
      (omega (arith, c.len-present.ensures, c.if-few.false)) (entries_few c.channels-channels.result)

pub returns-clause-meets : goal.returns-clause-meets
returns-clause-meets g c = enough_tunes g (goal.at.returns-clause-meets g c).After-put_bits

pub returns-clause-optimal : goal.returns-clause-optimal
returns-clause-optimal g c =
    optimal_of c.args.self.now (g.L.TuningLists.lines c.args.lists.now) _ c.in_ok-keys.ensures _ _
    (enough_tunes g (goal.at.returns-clause-optimal g c).After-put_bits)

pub returns-clause-measurable : goal.returns-clause-measurable
returns-clause-measurable g c =
    measurable_of c.args.self.now (g.L.TuningLists.lines c.args.lists.now) c.in_ok-keys.keys c.in_ok-keys.ensures _ _
    (enough_tunes g (goal.at.returns-clause-measurable g c).After-put_bits)
