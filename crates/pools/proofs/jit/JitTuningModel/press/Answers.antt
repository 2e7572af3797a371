-- `JitTuningModel::press` meets its contract: a press is the release that it begins with and then the press of a key that is not held.
use Rattle.std.proofs.Common.{◌≡◌, refl, sym, ap, ◌∙◌}
use Rattle.std.proofs.lemmas.Result.{err_from_is_err_and}
use Rattle.arithmetic.specs.Outcome.{value}
use Rattle.channels.specs.Places.{place}
use Rattle.pools.specs.Pool.{State, Press, outcome_and_state}
use Rattle.pools.specs.PoolInternal.{release_rule}
use Rattle.pools.specs.View.{view}
use Rattle.pools.proofs.Pools.Presses.{unless_held_refused, unless_held_value, reply_value, reply_refused}
use Rattle.pools.proofs.Models.Views.{moves_state}
use Rattle.pools.proofs.jit.JitTuningModel.press.Goals as goal
use Rattle.pools.proofs.jit.JitTuningModel.press.Goals.{In_ok-released}

pub returns-in_err-released-clause-answer : goal.returns-in_err-released-clause-answer
unfolding outcome_and_state
returns-in_err-released-clause-answer c =
    let s = view c.args.self.now in
    let p = err_from_is_err_and c.from_residual.result c.from_residual.ensures.1 in
    let e = reply_refused s (release_rule s c.args.key) c.in_err-released.ensures.answer in
    rw (p.1, p.2, unless_held_refused s c.args.key c.args.note.number c.args.detuning _ (sym e)) refl

pub returns-in_err-released-clause-state : goal.returns-in_err-released-clause-state
returns-in_err-released-clause-state c =
    let s = view c.args.self.now in
    let e = reply_refused s (release_rule s c.args.key) c.in_err-released.ensures.answer in
    rw (unless_held_refused s c.args.key c.args.note.number c.args.detuning _ (sym e)) (rw e at c.in_err-released.ensures.state)

module _ (c : In_ok-released) where
  abbrev s : State
  s = view c.args.self.now

  begun : release_rule s c.args.key ≡ value (place c.in_ok-released.released, view c.release_for_press.new.self)
  begun =
      reply_value s (release_rule s c.args.key) c.in_ok-released.ensures.answer
      ∙ ap (λ (t : State). value (place c.in_ok-released.released, t)) (sym (moves_state _ c.args.self.now _ c.in_ok-released.ensures.state))

pub returns-clause-answer : goal.returns-clause-answer
unfolding outcome_and_state
returns-clause-answer c =
    let i = (goal.at.returns-clause-answer c).In_ok-released in
    rw (unless_held_value (s i) c.args.key c.args.note.number c.args.detuning _ _ (sym (begun i)))
    (ap (λ (r : Press × State). value (record { released = place c.in_ok-released.released; press = r.0 })) c.press_released-registered.ensures)

pub returns-clause-state : goal.returns-clause-state
returns-clause-state c =
    let i = (goal.at.returns-clause-state c).In_ok-released in
    rw (unless_held_value (s i) c.args.key c.args.note.number c.args.detuning _ _ (sym (begun i)))
    (ap (λ (r : Press × State). r.1) c.press_released-registered.ensures)
