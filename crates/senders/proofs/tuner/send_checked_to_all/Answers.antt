-- `send_checked_to_all` meets its contract.
use Rattle.std.specs.Prelude.{flat_map}
use Rattle.std.proofs.Common.{◌≡◌, [], ◌∷◌, ◌++◌, sym, ap, ◌∙◌, arith, length, length-append}
use Rattle.std.proofs.Math.Seq.{take_all}
use Rattle.std.proofs.lemmas.Grind.{common_steps, flat_map-append}
use Rattle.std.proofs.lemmas.List.{append-nil}
use Rattle.channels.specs.ChannelList.{entries}
use Rattle.senders.specs.Buffer.{sent}
use Rattle.senders.specs.Midi.{bytes_of}
use Rattle.senders.specs.Tuner.{to_all}
use Rattle.senders.proofs.Tuners.Buffer.{ends_handed}
use Rattle.senders.proofs.Tuners.Channels.{has_entry, to_all_one_more}
use Rattle.senders.proofs.Bytes.Messages.{checked_refused, checked_passes, checked_bytes}
use Rattle.senders.proofs.tuner.send_checked_to_all.Goals as goal
use Rattle.senders.proofs.tuner.send_checked_to_all.Goals.{in-Some, in_default}

pub returns-in_err-record : goal.returns-in_err-record
returns-in_err-record c =
    let a = c.args in
    let o = sent (bytes_of (to_all a.tuning_kind (entries a.channels) a.message)) in
    ends_handed _ _ c.from_residual.ensures.1 (checked_refused a.message _ o (sym c.in_err-record.ensures))

pub loop-i-preserved : goal.loop-i-preserved
loop-i-preserved c =
    let a = c.args in
    elim c.match-entry.branch [
      | in-Some w ↦
          let more = to_all_one_more a.message (entries a.channels) c.loop-i.i (sym w.in-Some.ensures) in
          let one = w.on.ensures ∙ checked_bytes a.message c.in_ok-record.ensures w.in-Some.channel.number in
          let all : c.match-entry.messages.items ≡ c.loop-i.messages.items ++ (w.on.result ∷ []) = grind (arith, common_steps) in
          let flat = ap (flat_map (λ m. m)) all ∙ flat_map-append (λ m. m) c.loop-i.messages.items (w.on.result ∷ [])
          ∙ ap (λ t. flat_map (λ m. m) c.loop-i.messages.items ++ t) (append-nil w.on.result) in
          record {
            put = rw (flat, one, c.loop-i.invariant.put, more);
            size = omega (arith, ap length all, length-append c.loop-i.messages.items (w.on.result ∷ []));
          }
      | in_default w ↦ has_entry (entries a.channels) c.loop-i.i (omega arith) (sym w.in_default.ensures)
    ]

pub returns : goal.returns
returns c =
    let a = c.args in
    let o = sent (bytes_of (to_all a.tuning_kind (entries a.channels) a.message)) in
    let ended = take_all c.loop-i.i (entries a.channels) (omega arith) in
    rw (checked_passes a.message c.in_ok-record.ensures o, sym c.if-is_suppressed.ensures)
    (rw (c.as_flattened.ensures.value, c.as_slice.ensures.value, c.loop-i.invariant.put, ended) at c.send.ensures)
