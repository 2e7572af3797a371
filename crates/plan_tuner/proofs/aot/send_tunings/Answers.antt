-- `aot::send_tunings` meets its contract: the tuning of a channel is put behind those before, and has room.
use Rattle.std.proofs.Common.{◌≡◌, ℕ, ◌+◌, ◌*◌, ◌≤◌, min, List, ◌++◌, length, length-append, sym, ap, ◌∙◌, arith}
use Rattle.std.proofs.lemmas.Grind.{common_steps}
use Rattle.arithmetic.specs.Answers.{optional}
use Rattle.channels.specs.ChannelList.{entries}
use Rattle.plans.specs.Plan.{view}
use Rattle.senders.specs.Midi.{bytes_of}
use Rattle.plan_tuner.specs.Aot.{channel_messages, tunings}
use Rattle.plan_tuner.proofs.Tunings.{up_to_none, up_to_next, channel_room}
use Rattle.plan_tuner.proofs.aot.send_tunings.Goals as goal
use Rattle.plan_tuner.proofs.aot.send_tunings.Goals.{After-tuning, in-Some, in_default}

pub loop-i-init : goal.loop-i-init
loop-i-init c = record { put = c.new-bytes.ensures ∙ sym (up_to_none _); size = omega (arith, ap length c.new-bytes.ensures) }

module _ (c : After-tuning) where
  -- the bytes of channel i
  abbrev more : List ℕ
  more = bytes_of (channel_messages c.args.tuning_kind (entries c.channels-channels.result) c.loop-i.i (optional c.detuning-detuning.result))

  room : length more + 12 * min c.loop-i.i 16 ≤ 12 * min (c.loop-i.i + 1) 16
  room = channel_room c.args.tuning_kind c.channels-channels.result c.loop-i.i (optional c.detuning-detuning.result)

pub unwrap-requires : goal.unwrap-requires
unwrap-requires c =
    let r = room (goal.at.unwrap-requires c).After-tuning in
    c.try_extend_from_slice.ensures.variant.1 (omega (arith, r, c.loop-i.invariant.size, ap length c.as_slice.ensures.value, ap length c.in-Some.ensures))

pub loop-i-preserved : goal.loop-i-preserved
loop-i-preserved c =
    let t = (goal.at.loop-i-preserved c).After-tuning in
    let messages = tunings c.args.tuning_kind (view c.args.model.now) in
    let all : c.match-tuning.bytes.items ≡ c.loop-i.bytes.items ++ more t =
    elim c.match-tuning.branch [
      | in-Some w ↦ grind (arith, common_steps)
      | in_default w ↦ grind (arith, common_steps)
    ] in
    record {
      put = all ∙ rw (c.loop-i.invariant.put, c.channels-channels.ensures, c.detuning-detuning.ensures) (sym (up_to_next messages c.loop-i.i));
      size = omega (arith, room t, c.loop-i.invariant.size, ap length all, length-append c.loop-i.bytes.items (more t));
    }
