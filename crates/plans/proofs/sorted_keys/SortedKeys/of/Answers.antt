-- `SortedKeys::of` meets its contract, line by line.
use Rattle.std.proofs.Common.{◌≡◌, true, [], add-one, length, ◌∙◌, arith}
use Rattle.arithmetic.specs.Outcome.{refused}
use Rattle.arithmetic.proofs.Rules.Outcomes.{passed_of_value}
use Rattle.arithmetic.specs.Refusal.{lists_unequal}
use Rattle.plans.specs.KeyLine.{key_line}
use Rattle.plans.specs.PlanLists.{line_by_line}
use Rattle.plans.proofs.Lines.Check.{checked_refused, turn_ended, turn_next, turn_refused, turn_twice}
use Rattle.plans.proofs.sorted_keys.SortedKeys.of.Given.{Over}
use Rattle.plans.proofs.sorted_keys.SortedKeys.of.Goals as goal
use Rattle.plans.proofs.sorted_keys.SortedKeys.of.Goals.{In_ok-n}

-- the lists are equally long
module _ (g : Over) (c : In_ok-n g) where
  counted : (g.L.TuningLists.equally_long c.args.lists.now ≡ true) × (c.in_ok-n.n ≡ length (g.L.TuningLists.rows c.args.lists.now))
  counted = passed_of_value lists_unequal (g.L.TuningLists.equally_long c.args.lists.now) (length (g.L.TuningLists.rows c.args.lists.now)) c.in_ok-n.ensures

  whole : g.L.TuningLists.lines c.args.lists.now ≡ line_by_line [] (g.L.TuningLists.rows c.args.lists.now)
  whole = g.met.L.TuningLists.lines_are c.args.lists.now ∙ rw counted.0

pub returns-in_err-line : goal.returns-in_err-line
returns-in_err-line g c =
    let t = (goal.at.returns-in_err-line g c).In_ok-n in
    let rows = g.L.TuningLists.rows c.args.lists.now in
    let o =
    turn_refused (line_by_line [] rows) c.loop-i.keys rows c.loop-i.i c.loop-i.invariant _ (refused 12)
    (omega (arith, (counted g t).1)) c.in_err-line.ensures in
    checked_refused _ c.from_residual-in_err-line.result _ c.from_residual-in_err-line.ensures.1 (whole g t ∙ o)

pub returns-in_err-add : goal.returns-in_err-add
returns-in_err-add g c =
    let t = (goal.at.returns-in_err-add g c).In_ok-n in
    let rows = g.L.TuningLists.rows c.args.lists.now in
    let o = turn_twice (line_by_line [] rows) c.loop-i.keys rows c.loop-i.i c.loop-i.invariant (key_line c.in_ok-line.line) (refused 12)
    (omega (arith, (counted g t).1)) c.in_ok-line.ensures _ c.add.new.self c.in_err-add.ensures in
    checked_refused _ c.from_residual-in_err-add.result _ c.from_residual-in_err-add.ensures.1 (whole g t ∙ o)

pub loop-i-preserved : goal.loop-i-preserved
loop-i-preserved g c =
    let t = (goal.at.loop-i-preserved g c).In_ok-n in
    let rows = g.L.TuningLists.rows c.args.lists.now in
    rw add-one (turn_next (line_by_line [] rows) c.loop-i.keys rows c.loop-i.i c.loop-i.invariant (key_line c.in_ok-line.line) (refused 12)
    (omega (arith, (counted g t).1)) c.in_ok-line.ensures c.add.new.self c.in_ok-add.ensures)

pub returns : goal.returns
returns g c =
    let t = (goal.at.returns g c).In_ok-n in
    let rows = g.L.TuningLists.rows c.args.lists.now in
    rw (whole g t) (turn_ended (line_by_line [] rows) c.loop-i.keys rows c.loop-i.i c.loop-i.invariant (omega (arith, (counted g t).1)))
