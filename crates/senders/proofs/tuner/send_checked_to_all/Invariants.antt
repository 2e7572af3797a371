-- `send_checked_to_all`: the messages to the entries before `i` were put.
use Rattle.std.specs.Prelude.{flat_map}
use Rattle.std.proofs.Common.{◌≡◌, ◌≤◌, [], ◌∷◌, length, take}
use Rattle.channels.specs.ChannelList.{entries}
use Rattle.senders.specs.Midi.{bytes_of, to_message}
use Rattle.senders.proofs.tuner.send_checked_to_all.Given as goal

abbrev pub invariant-loop-i : goal.invariant-loop-i
invariant-loop-i l = record {
  put : flat_map (λ m. m) l.messages.items ≡ bytes_of (flat_map (λ ch. to_message ch l.fn.message ∷ []) (take l.i (entries l.channels)));
  size : length l.messages.items ≤ l.i;
}
