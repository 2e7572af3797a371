-- `AotTuningModel::next_detuning` meets its contract: the least group has its detuning, or the channel has none.
use Rattle.std.proofs.Common.{◌≡◌, ℕ, Bool, List, map, ltb, length, sym, ap, subst, ◌∙◌, arith}
use mir.Syntax.{w32}
use mir.Val.{SFits}
use mir.Facts.{to_z-of_z}
use borrow.Author.Rules.{rules}
use lib.Ieee.{Float, binary64, of_bits}
use lib.IntN.{ℤ}
use Rattle.std.proofs.Math.Option.{Option, some}
use lib.ListN.{length-map}
use Rattle.arithmetic.specs.Answers.{optional}
use Rattle.plans.specs.declared.aot.AotTuningModel.{AotTuningModel}
use Rattle.plans.specs.declared.aot.GroupBy.{GroupBy}
use Rattle.plans.specs.PlanNumbers.{detuning_of, floats, group_by_of}
use Rattle.plans.specs.Plan.{detuning_in, next_rule, view, records_in}
use Rattle.plans.specs.PlanInternal.{IsLeast, groups_from}
use Rattle.plans.proofs.Model.NextEntry.{no_group, entry_found, entry_lost}
use Rattle.plans.proofs.aot.AotTuningModel.next_detuning.Goals as goal
use Rattle.plans.proofs.aot.AotTuningModel.next_detuning.Goals.{After-least_group, In_ok-group}

abbrev entries_of : GroupBy → AotTuningModel → ℕ → ℤ → Option Float
entries_of by m c g = detuning_in by m.num_channels (records_in m.records (floats m.detunings)) c g

module _ (c : After-least_group) where
  abbrev by : GroupBy
  by = group_by_of c.args.self.now.group_by

  abbrev records : List ℕ
  records = c.args.self.now.records

  abbrev ds : List Float
  ds = map detuning_of (floats c.args.self.now.detunings)

  abbrev in_plan : Bool
  in_plan = ltb c.args.channel c.args.self.now.num_channels

  long : length records ≡ length ds
  long =
      let a : length records ≡ 256 = omega arith in
      let b : length c.args.self.now.detunings ≡ 256 = omega arith in
      a ∙ sym (length-map (floats c.args.self.now.detunings) detuning_of ∙ length-map c.args.self.now.detunings (of_bits binary64) ∙ b)

  abbrev listed : List ℤ
  listed = groups_from by c.args.channel c.args.from records

  least_is : IsLeast listed c.least_group.result
  unfolding view
  least_is =
      subst (λ (b : GroupBy). IsLeast (groups_from b c.args.channel c.args.from records) c.least_group.result) c.group_by-by.ensures
      (rw (to_z-of_z c.ranges.from) at c.least_group.ensures)

pub returns-in_err-group : goal.returns-in_err-group
unfolding next_rule view detuning_in records_in
returns-in_err-group c =
    let t = (goal.at.returns-in_err-group c).After-least_group in
    ap optional c.from_residual.ensures
    ∙ no_group (by t) c.args.channel c.args.from (records t) (ds t) (long t) (in_plan t) (rw c.in_err-group.was at (least_is t))

pub returns-in_err-detuning : goal.returns-in_err-detuning
unfolding next_rule view detuning_in records_in
returns-in_err-detuning c =
    let t = (goal.at.returns-in_err-detuning c).After-least_group in
    let f : SFits w32 c.in_ok-group.group = search rules in
    let l = rw c.in_ok-group.was at (least_is t) in
    ap optional c.from_residual-in_err-detuning.ensures
    ∙ entry_lost (by t) c.args.channel c.args.from (records t) (ds t) (long t) (in_plan t) c.in_ok-group.group l.0 l.1
    (sym (c.in_err-detuning.ensures ∙ ap (λ (z : ℤ). entries_of (by t) c.args.self.now c.args.channel z) (to_z-of_z f)))

pub returns : goal.returns
unfolding next_rule view detuning_in records_in
returns c =
    let t = (goal.at.returns c).After-least_group in
    let f : SFits w32 c.in_ok-group.group = search rules in
    let l = rw c.in_ok-group.was at (least_is t) in
    ap (λ (z : ℤ). some (z, c.in_ok-detuning.detuning)) (to_z-of_z f)
    ∙ entry_found (by t) c.args.channel c.args.from (records t) (ds t) (long t) (in_plan t) c.in_ok-group.group l.0 l.1 c.in_ok-detuning.detuning
    (sym (c.in_ok-detuning.ensures ∙ ap (λ (z : ℤ). entries_of (by t) c.args.self.now c.args.channel z) (to_z-of_z f)))
