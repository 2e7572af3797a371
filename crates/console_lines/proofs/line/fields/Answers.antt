-- `line::fields`: the library's `split` gives the parts one by one.
use Rattle.std.proofs.Common.{ap, rules, tests}
use Rattle.console_lines.specs.Line.{of_fields}
use Rattle.console_lines.proofs.Text.Splits.{yielded_none, yielded_some, yielded_all}
use Rattle.console_lines.proofs.line.fields.Goals as goal

pub returns-in_err-next-2-clause-others : goal.returns-in_err-next-2-clause-others
unfolding of_fields
returns-in_err-next-2-clause-others c =
    let one =
    yielded_some
    (yielded_none _ 44 c.args.line.now c.split-fields.ensures.rest c.split-fields.ensures.done c.split-fields.ensures.closure
    (λ x b q k. search (rules, tests)))
    c.next.ensures.steps c.in_ok-next.was
    in
    rw c.from_residual-in_err-next-2.ensures (ap of_fields (yielded_all one c.next-2.ensures.steps c.in_err-next-2.was))

pub returns-in_err-next-3-clause-others : goal.returns-in_err-next-3-clause-others
unfolding of_fields
returns-in_err-next-3-clause-others c =
    let one =
    yielded_some
    (yielded_none _ 44 c.args.line.now c.split-fields.ensures.rest c.split-fields.ensures.done c.split-fields.ensures.closure
    (λ x b q k. search (rules, tests)))
    c.next.ensures.steps c.in_ok-next.was
    in
    let two = yielded_some one c.next-2.ensures.steps c.in_ok-next-2.was in
    rw c.from_residual-in_err-next-3.ensures (ap of_fields (yielded_all two c.next-3.ensures.steps c.in_err-next-3.was))

pub returns-in_err-next-4-clause-others : goal.returns-in_err-next-4-clause-others
unfolding of_fields
returns-in_err-next-4-clause-others c =
    let one =
    yielded_some
    (yielded_none _ 44 c.args.line.now c.split-fields.ensures.rest c.split-fields.ensures.done c.split-fields.ensures.closure
    (λ x b q k. search (rules, tests)))
    c.next.ensures.steps c.in_ok-next.was
    in
    let two = yielded_some one c.next-2.ensures.steps c.in_ok-next-2.was in
    let three = yielded_some two c.next-3.ensures.steps c.in_ok-next-3.was in
    rw c.from_residual-in_err-next-4.ensures (ap of_fields (yielded_all three c.next-4.ensures.steps c.in_err-next-4.was))

pub returns-in-Some-clause-others : goal.returns-in-Some-clause-others
unfolding of_fields
returns-in-Some-clause-others c =
    let one =
    yielded_some
    (yielded_none _ 44 c.args.line.now c.split-fields.ensures.rest c.split-fields.ensures.done c.split-fields.ensures.closure
    (λ x b q k. search (rules, tests)))
    c.next.ensures.steps c.in_ok-next.was
    in
    let two = yielded_some one c.next-2.ensures.steps c.in_ok-next-2.was in
    let three = yielded_some two c.next-3.ensures.steps c.in_ok-next-3.was in
    let four = yielded_some three c.next-4.ensures.steps c.in_ok-next-4.was in
    let five = yielded_some four c.next-5.ensures.steps c.in-Some.is in
    ap of_fields five.all_is

pub returns-in-None-clause-four : goal.returns-in-None-clause-four
unfolding of_fields
returns-in-None-clause-four c =
    let one =
    yielded_some
    (yielded_none _ 44 c.args.line.now c.split-fields.ensures.rest c.split-fields.ensures.done c.split-fields.ensures.closure
    (λ x b q k. search (rules, tests)))
    c.next.ensures.steps c.in_ok-next.was
    in
    let two = yielded_some one c.next-2.ensures.steps c.in_ok-next-2.was in
    let three = yielded_some two c.next-3.ensures.steps c.in_ok-next-3.was in
    let four = yielded_some three c.next-4.ensures.steps c.in_ok-next-4.was in
    ap of_fields (yielded_all four c.next-5.ensures.steps c.in-None.is)
