-- `aot::tuning` meets its contract: no list has a channel past 255, and the detuning can be measured.
use Rattle.std.proofs.Common.{◌≡◌, refl, sym, ◌∙◌, arith}
use Rattle.std.proofs.Math.Option.{some}
use Rattle.std.proofs.Math.ListN.{get_elem?}
use Rattle.arithmetic.specs.Answers.{outcome_by}
use Rattle.channels.specs.Outcome.{value}
use Rattle.channels.specs.TuningValue.{sent_as}
use Rattle.channels.specs.ChannelList.{entries}
use Rattle.channels.proofs.ChannelLists.{entries_few, entry_past}
use Rattle.senders.specs.Midi.{bytes_of}
use Rattle.senders.specs.Mts.{tuning_messages}
use Rattle.senders.proofs.Tuners.Tunings.{tuning_accepted, is_value}
use Rattle.plan_tuner.proofs.Tunings.{channel_past}
use Rattle.plan_tuner.proofs.aot.tuning.Goals as goal
use Rattle.plan_tuner.proofs.aot.tuning.Goals.{After-tuning_bytes-bytes}

module _ (c : After-tuning_bytes-bytes) where
  sent : outcome_by (λ b. b.items) c.tuning_bytes-bytes.result
      ≡ value (bytes_of (tuning_messages c.in_ok-channel.channel.number (sent_as c.args.tuning_kind c.in_ok-detuning.detuning)))
  sent =
      let a = c.args in
      let d = c.in_ok-detuning.detuning in
      c.tuning_bytes-bytes.ensures
      ∙ rw c.from_float.ensures (tuning_accepted a.tuning_kind c.in_ok-channel.channel.number d (rw c.in_ok-detuning.was at c.requires))

pub returns-in_default : goal.returns-in_default
returns-in_default c =
    let a = c.args in
    let past = entry_past a.channels a.i (omega (arith, entries_few a.channels, c.in_default.ensures)) in
    rw (channel_past a.tuning_kind _ a.i _ past) refl

pub unwrap-requires : goal.unwrap-requires
unwrap-requires c = is_value (λ b. b.items) _ (sent c)

pub returns : goal.returns
returns c =
    let is = rw c.unwrap.ensures at (sent (goal.at.returns c).After-tuning_bytes-bytes) in
    let same : c.in-Ok.i ≡ c.args.i = omega (arith, c.in-Ok.ensures) in
    let on : get_elem? (entries c.args.channels) c.args.i ≡ some c.in_ok-channel.channel.number = rw (← same) (sym c.in_ok-channel.ensures) in
    rw (c.in_ok-detuning.was, on) (cc)
