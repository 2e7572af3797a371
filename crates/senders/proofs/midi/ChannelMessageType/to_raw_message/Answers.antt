-- `ChannelMessageType::to_raw_message` meets its contract: what is left are the tests of the channel and of the message.
use Rattle.std.proofs.Common.{sym, ◌∙◌}
use Rattle.channels.proofs.ChannelLists.{channel_of_number}
use Rattle.senders.specs.Buffer.{sent}
use Rattle.senders.specs.Midi.{bytes, to_message, check_data}
use Rattle.senders.proofs.Tuners.Buffer.{ends_handed}
use Rattle.senders.proofs.Bytes.Messages.{channel_passes, channel_refuses, checked_passes, checked_bytes, checked_refused}
use Rattle.senders.proofs.midi.ChannelMessageType.to_raw_message.Goals as goal

pub returns-in_err-channel : goal.returns-in_err-channel
returns-in_err-channel c =
    let a = c.args in
    let checked = check_data a.self (sent (bytes (to_message a.channel a.self))) in
    ends_handed _ _ c.from_residual.ensures.1 (channel_refuses a.channel checked _ c.in_err-channel.ensures)

pub returns-in_err-record : goal.returns-in_err-record
returns-in_err-record c =
    let a = c.args in
    let o = sent (bytes (to_message a.channel a.self)) in
    ends_handed _ _ c.from_residual-in_err-record.ensures.1
    (channel_passes a.channel (check_data a.self o) _ c.in_ok-channel.ensures ∙ checked_refused a.self _ o (sym c.in_err-record.ensures))

pub returns : goal.returns
returns c =
    let a = c.args in
    let o = sent (bytes (to_message a.channel a.self)) in
    let ch = c.in_ok-channel.channel.number in
    let is = (channel_of_number a.channel ch c.in_ok-channel.ensures).0 in
    let one = c.on.ensures ∙ checked_bytes a.self c.in_ok-record.ensures ch in
    rw (channel_passes a.channel (check_data a.self o) ch c.in_ok-channel.ensures, checked_passes a.self c.in_ok-record.ensures o)
    (rw (one, is) at c.send.ensures)
