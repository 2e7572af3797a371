-- `channel_tuning` meets its contract: what is left are the tests of the channel and of the detuning.
use Rattle.std.proofs.Common.{◌∙◌}
use Rattle.channels.proofs.ChannelLists.{channel_of_number}
use Rattle.channels.specs.TuningValue.{tuning_rule}
use Rattle.senders.specs.Mts.{tuning_sent}
use Rattle.senders.proofs.Tuners.Buffer.{ends_handed}
use Rattle.senders.proofs.Bytes.Messages.{channel_passes, channel_refuses}
use Rattle.senders.proofs.Tuners.Tunings.{tuning_written, tuning_unwritten}
use Rattle.senders.proofs.mts.channel_tuning.Goals as goal

pub returns-in_err-channel : goal.returns-in_err-channel
returns-in_err-channel c =
    let a = c.args in
    ends_handed _ _ c.from_residual.ensures.1
    (channel_refuses a.channel (tuning_sent a.channel (tuning_rule a.tuning_kind a.detuning.float_value)) _ c.in_err-channel.ensures)

pub returns-in_err-bytes : goal.returns-in_err-bytes
returns-in_err-bytes c =
    let a = c.args in
    let is = (channel_of_number a.channel _ c.in_ok-channel.ensures).0 in
    let rule = tuning_rule a.tuning_kind a.detuning.float_value in
    ends_handed _ _ c.from_residual-in_err-bytes.ensures.1
    (channel_passes a.channel (tuning_sent a.channel rule) _ c.in_ok-channel.ensures
    ∙ tuning_unwritten a.channel rule (rw is at c.in_err-bytes.ensures))

pub returns : goal.returns
returns c =
    let a = c.args in
    let is = (channel_of_number a.channel _ c.in_ok-channel.ensures).0 in
    let rule = tuning_rule a.tuning_kind a.detuning.float_value in
    rw (channel_passes a.channel (tuning_sent a.channel rule) _ c.in_ok-channel.ensures, tuning_written a.channel rule (rw is at c.in_ok-bytes.ensures))
    (rw c.as_slice.ensures.value at c.send.ensures)
