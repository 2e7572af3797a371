-- What a receiver has after a tuned answer of a plan tuner (SPEC 9.3): the tuning of each channel of the plan, and each key of the list at its pitch.
use Rattle.std.specs.Prelude.{◌≡◌, List, ℕ, ◌<◌, pos, Float, take}
use Rattle.std.proofs.Math.Option.{some}
use Rattle.std.proofs.Math.ListN.{get_elem?}
use Rattle.channels.specs.Outcome.{value}
use Rattle.channels.specs.TuningValue.{sent_as}
use Rattle.channels.specs.declared.tuning_value.TuningKind.{TuningKind}
use Rattle.plans.specs.PlanLine.{PlanLine, group}
use Rattle.senders.specs.Buffer.{WriteMeets}
use Rattle.senders.specs.declared.tuner.NoteMessage.TheVariants.{On}
use Rattle.plan_tuner.specs.Aot.{Tuner, found, note_on_rule}
use Rattle.theorems.specs.Reader.{State}
use Rattle.theorems.specs.Receiver.{Receiver, Other, receive_bytes}
use Rattle.theorems.specs.ExpectedEffect.{tuned, note_expected}
use Rattle.theorems.specs.PlannedKeys.{row, JoinChain}

-- The receiver's channel that is entry i of the list is tuned by the detuning that the plan has for channel i, from whatever it was.
pub record ChannelTuned (channels : List ℕ) (kind : TuningKind) (back : Tuner) (bytes : List ℕ) (i : ℕ) : Type 0 where
  pub midi : ℕ
  pub listed_is : get_elem? channels i ≡ some midi
  pub detuning : Float
  pub entered : back.plan.detunings i (pos 0) ≡ some detuning
  pub received : (other : Other) (st : State) (r : Receiver) → receive_bytes other st bytes r midi ≡ tuned (sent_as kind detuning) (r midi)

-- A key of the list is found with its note on a channel of the plan that is so tuned, and a chain of the list's own keys there leads from it up to the
-- channel's detuning. A press of the key is then received as its note's there.
pub record KeyTuned (channels : List ℕ) (kind : TuningKind) (back : Tuner) (bytes : List ℕ) (lines : List PlanLine) (n : ℕ) (l : PlanLine) : Type 0 where
  pub channel : ℕ
  pub below : channel < n
  pub found_is : found back l.key ≡ some (record { channel = channel; note = l.note })
  pub on : ChannelTuned channels kind back bytes channel
  pub chain : JoinChain (row back.plan.group_by lines back.plan.keys channel (group back.plan.group_by l.note)) l on.detuning
  pub sounds :
      (other : Other) (st before : State) (r : Receiver) (v : ℕ) {old new : List ℕ} {w : ℕ} → WriteMeets (note_on_rule back l.key v) old (value w) new
      → receive_bytes other st (take w new) (receive_bytes other before bytes r) on.midi
      ≡ note_expected On l.note v (tuned (sent_as kind on.detuning) (r on.midi))
