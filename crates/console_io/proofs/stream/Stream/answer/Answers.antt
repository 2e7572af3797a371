-- `stream::Stream::answer`: a step over what was read.
use Rattle.std.proofs.Common.{◌-◌, List, ℕ, drop, ap, subst, arith, length}
use Rattle.std.proofs.lemmas.List.{length-take, length-drop}
use Rattle.console_lines.specs.ConsoleState.{view, StepMeets}
use Rattle.console_lines.proofs.Steps.Rooms.{used_within}
use Rattle.console_io.proofs.Streams.{answer_law}
use Rattle.console_io.proofs.stream.Stream.answer.Goals as goal

pub overflow_add-self : goal.overflow_add-self
overflow_add-self c =
    let p = c.args.self.now.unanswered in
    let piece = c.args.piece.now in
    omega (arith, used_within c.step-step.ensures, ap length c.of.ensures, length-take (p.end - p.start) (drop p.start piece), length-drop p.start piece)

pub returns : goal.returns
returns c =
    let a = c.args in
    answer_law a.self.now c.step-step.new.self c.first-self.result c.step-step.result a.piece.now a.out.now c.step-step.new.out c.first-self.ensures
    (subst (λ (l : List ℕ). StepMeets (view a.self.now.console) l a.out.now c.step-step.new.out (view c.step-step.new.self) c.step-step.result)
    c.of.ensures c.step-step.ensures)
