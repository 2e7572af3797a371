-- `JitTuner::note_on` meets its contract: by the model's answer it is refused, rejected, or ends as the writing of its messages does, and only where they were
-- written the model changes.
use Rattle.std.proofs.Common.{◌≡◌, ◌<◌, refl, sym, ap, subst, ◌∙◌, rules, to_z, of_z, w32, true, Some, None}
use Rattle.std.specs.Prelude.{Option as Optional, IfSome}
use Rattle.std.specs.Float.Ieee.Positive.{positive}
use Rattle.std.proofs.lemmas.Result.{err_from_is_err_and}
use Rattle.channels.specs.Outcome.{Outcome, value}
use Rattle.channels.specs.Places.{place}
use Rattle.pools.specs.Pool.{State, Pressing, accepted, rejected, register_rule, outcome_and_state}
use Rattle.pools.specs.View.{view as pool_view, StateMeets, register_note_rule}
use Rattle.pools.specs.PoolAnswers.{stopped_note, registered_view, pressing_view}
use Rattle.pools.specs.declared.jit.JitTuningModel.{JitTuningModel}
use Rattle.pools.specs.declared.jit.Registered.{Registered}
use Rattle.pools.proofs.Pools.Presses.{press_measurable, register_again, rejected_stays, reply_value, reply_refused}
use Rattle.senders.specs.Jit.{view, pressing, press_sent, press_rejected}
use Rattle.senders.proofs.Tuners.Buffer.{ends_refused, ends_unwritten}
use Rattle.senders.proofs.Bytes.Messages.{data_passes}
use Rattle.senders.proofs.Tuners.Calls.{view_moved, note_on_accepted, note_on_rejected, note_on_value, note_on_refused, ends_pressing}
use Rattle.senders.proofs.jit.JitTuner.note_on.Goals as goal
use Rattle.senders.proofs.jit.JitTuner.note_on.Goals.{In_ok-press}

-- the model's answer, accepted or rejected
module _ (c : In_ok-press) where
  abbrev model : JitTuningModel
  model = c.args.self.now.model

  -- the rule of the model
  abbrev ruled : Outcome (Pressing × State)
  ruled = register_rule (pool_view model) c.args.key c.args.pitch.hz

  -- the state after it
  abbrev next : State
  next = (outcome_and_state (pool_view model) ruled).1

  answered : ruled ≡ value (pressing_view c.in_ok-press.press, next)
  answered = reply_value (pool_view model) ruled c.in_ok-press.ensures

  velocity : (c.in_ok-velocity.velocity.number ≡ c.args.velocity) × (c.args.velocity < 128)
  velocity = data_passes c.args.velocity c.in_ok-velocity.ensures

  measured : (o : Optional Registered) → o ≡ c.in_ok-press.press.registered → IfSome o (λ r. positive r.detuning ≡ true)
  measured (Some r) e = press_measurable (pool_view model) c.args.key c.args.pitch.hz answered (ap registered_view (sym e))
  measured None e = tt

pub returns-in_err-press : goal.returns-in_err-press
returns-in_err-press c =
    let a = c.args in
    let s = pool_view a.self.now.model in
    let low = (data_passes a.velocity c.in_ok-velocity.ensures).1 in
    let e = reply_refused s (register_rule s a.key a.pitch.hz) c.in_err-press.ensures in
    let p = err_from_is_err_and c.from_residual-in_err-press.result c.from_residual-in_err-press.ensures.1 in
    rw (p.1, p.2) (ends_refused (note_on_refused (view a.self.now) a.key a.pitch.hz a.velocity low e))

pub send_press-requires : goal.send_press-requires
send_press-requires c = measured (goal.at.send_press-requires c).In_ok-press _ refl

pub returns-in_err-sent : goal.returns-in_err-sent
returns-in_err-sent c =
    let i = (goal.at.returns-in_err-sent c).In_ok-press in
    let a = c.args in
    let p = err_from_is_err_and c.from_residual-in_err-sent.result c.from_residual-in_err-sent.ensures.1 in
    rw (p.1, p.2)
    (ends_unwritten (note_on_value (view a.self.now) a.key a.pitch.hz a.velocity (velocity i).1 (answered i))
    (rw (c.in_err-sent.was, (velocity i).0) at c.send_press.ensures))

pub returns-in_default : goal.returns-in_default
returns-in_default c =
    let i = (goal.at.returns-in_default c).In_ok-press in
    let a = c.args in
    let t = a.self.now in
    let s = pool_view t.model in
    let made : ruled i ≡ value (pressing (place c.in_ok-press.press.released) rejected, next i) =
    answered i ∙ ap (λ (o : Optional Registered). value (pressing (place c.in_ok-press.press.released) (registered_view o), next i)) c.in_default.is in
    ends_pressing
    {view = view}
    {s = t}
    press_rejected
    (note_on_rejected (view t) a.key a.pitch.hz a.velocity (velocity i).1 made)
    (rw (c.in_ok-sent.was, (velocity i).0, c.in_default.is) at c.send_press.ensures)
    (view_moved t c.deregister_key.new.self (c.deregister_key.ensures.state ∙ rejected_stays s a.key a.pitch.hz made refl))

pub returns : goal.returns
returns c =
    let i = (goal.at.returns c).In_ok-press in
    let a = c.args in
    let t = a.self.now in
    let s = pool_view t.model in
    let r = c.in-Some.registered in
    let press = accepted r.channel (stopped_note r.stopped_note) r.started_note.number r.detuning in
    let made : ruled i ≡ value (pressing (place c.in_ok-press.press.released) press, next i) =
    answered i ∙ ap (λ (o : Optional Registered). value (pressing (place c.in_ok-press.press.released) (registered_view o), next i)) c.in-Some.is in
    let note = c.number-note.result in
    let plain : to_z w32 (of_z w32 note) ≡ note = search rules in
    let stored : StateMeets (register_note_rule s a.key (to_z w32 (of_z w32 note)) r.detuning) t.model c.register_note.new.self =
    c.register_note.ensures.state in
    let again = register_again s a.key a.pitch.hz made refl in
    let moved = subst (λ (o : Outcome (Pressing × State)). StateMeets o t.model c.register_note.new.self) again (rw (plain, c.number-note.ensures) at stored) in
    ends_pressing
    {view = view}
    {s = t}
    press_sent
    (note_on_accepted (view t) a.key a.pitch.hz a.velocity (velocity i).1 made)
    (rw (c.in_ok-sent.was, (velocity i).0, c.in-Some.is) at c.send_press.ensures)
    (view_moved t c.register_note.new.self moved)
