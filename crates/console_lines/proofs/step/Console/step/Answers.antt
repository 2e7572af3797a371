-- `step::Console::step`: each turn takes a line.
use Rattle.std.proofs.Common.{◌≡◌, ◌+◌, ◌-◌, take, drop, refl, ap, ◌∙◌, arith}
use Rattle.std.proofs.lemmas.List.{take_rest}
use Rattle.console_lines.specs.ConsoleState.{view}
use Rattle.console_lines.specs.Internal.{longer_by}
use Rattle.console_lines.proofs.Text.Puts.{sent_all, sent_none}
use Rattle.console_lines.proofs.Steps.Progress.{ends_without_feed, ends_without_room, progress_line}
use Rattle.console_lines.proofs.step.Console.step.Goals as goal

pub returns-in_default-end_line : goal.returns-in_default-end_line
returns-in_default-end_line c =
    let rest = take_rest c.args.piece.now c.loop-n.used in
    let first = rw (c.in-Some.is, rest) at c.memchr.ensures in
    let n : c.loop-n.used + c.in-Some.n - c.loop-n.used ≡ c.in-Some.n = omega arith in
    let kept = c.lengthen.ensures.longer ∙ ap (λ k. longer_by (view c.loop-n.self) (take k (drop c.loop-n.used c.args.piece.now))) n in
    let none = sent_none c.in_default-end_line.ensures in
    ends_without_room c.loop-n.invariant c.lengthen.ensures.small first kept (take_rest c.loop-n.out c.loop-n.written) refl none.short none.buffer_is
    (ap view none.back_is)

pub loop-n-preserved : goal.loop-n-preserved
loop-n-preserved c =
    let rest = take_rest c.args.piece.now c.loop-n.used in
    let first = rw (c.in-Some.is, rest) at c.memchr.ensures in
    let n : c.loop-n.used + c.in-Some.n - c.loop-n.used ≡ c.in-Some.n = omega arith in
    let kept = c.lengthen.ensures.longer ∙ ap (λ k. longer_by (view c.loop-n.self) (take k (drop c.loop-n.used c.args.piece.now))) n in
    progress_line c.loop-n.invariant c.lengthen.ensures.small first kept (take_rest c.loop-n.out c.loop-n.written) refl (sent_all c.in-Ok.ensures)

pub returns : goal.returns
returns c =
    let rest = take_rest c.args.piece.now c.loop-n.used in
    let none = rw (c.in_default.is, rest) at c.memchr.ensures in
    ends_without_feed c.loop-n.invariant c.lengthen-2.ensures.small none (c.lengthen-2.ensures.longer ∙ ap (longer_by (view c.loop-n.self)) rest)
