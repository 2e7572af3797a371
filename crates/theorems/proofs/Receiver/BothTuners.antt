-- What the calls that a plan tuner and a pool tuner share wrote, as a reader and a receiver by the Specification take it, from any state they were in:
-- a message of a key's note, and a message to all.
use mathlib.Core.Path.{◌≡◌, refl, sym, ap, ◌∙◌}
use mathlib.Core.Bool.{cond}
use mathlib.Core.Option.{Option, some, none}
use mathlib.Core.List.{List}
use Prim.Native.Nat.{ℕ, ◌<◌}
use native.Mathlib.Omega.{arith}
use lib.Dec.{ltb}
use lib.ListN.{take, get_elem?}
use borrow.Author.Tests.{lt-ltb, ltb-true}
use Rattle.channels.specs.Outcome.{value}
use Rattle.channels.specs.ChannelList.{entries}
use Rattle.channels.specs.Places.{Place}
use Rattle.channels.specs.declared.list.ChannelList.{ChannelList}
use Rattle.channels.specs.declared.tuning_value.TuningKind.{TuningKind}
use Rattle.senders.specs.Buffer.{WriteMeets, sent}
use Rattle.senders.specs.Message.{Message, Valid, AllValid}
use Rattle.senders.specs.Midi.{bytes_of, to_message}
use Rattle.senders.specs.Tuner.{key_messages, is_suppressed, to_all, key_rule, to_all_rule}
use Rattle.theorems.specs.Reader.{State, read}
use Rattle.theorems.specs.Padding.{all_read_with_padding, unpadded}
use Rattle.theorems.specs.Receiver.{Receiver, Other, receive, receive_all, receive_bytes}
use Rattle.theorems.specs.ExpectedEffect.{on_listed, key_expected, in_turn}
use Rattle.senders.specs.declared.midi.ChannelMessageType.{ChannelMessageType}
use Rattle.senders.specs.declared.tuner.NoteMessage.{NoteMessage}
use Rattle.senders.specs.declared.tuner.NoteMessage.TheVariants.{Pressure}
use Rattle.theorems.proofs.Bytes.Read.{read_padded, sent_read, sent_read_plain}
use Rattle.theorems.proofs.Receiver.Conveyed.{sent_conveyed, conveys_key, all_valid, receive_all_with_padding, receive_to_all}
use Rattle.theorems.proofs.Receiver.Receiving.{on_none}
use Rattle.theorems.proofs.Bytes.Accepted.{accepted, starts_with}
use Rattle.senders.proofs.Bytes.Messages.{test_held, checked_valid, valid_checked}

module _ (other : Other) (st : State) (r : Receiver) (l : ChannelList) {old new : List ℕ} {n : ℕ} where
  -- ---- a message of a key's note

  module _ (kind : NoteMessage) (v : ℕ) (o : Option Place) (a : WriteMeets (key_rule kind (entries l) v o) old (value n) new) where
    low : v < 128
    low = ltb-true v 128 (test_held 8 (ltb v 128) _ (accepted a).rule_is).0

    sent_key : key_rule kind (entries l) v o ≡ sent (bytes_of (key_messages kind (entries l) v o))
    sent_key = rw (lt-ltb v 128 low)

    -- A reader finds the key's message, or none for an unknown key.
    pub key_read : read st (take n new) ≡ key_messages kind (entries l) v o
    key_read = sent_read_plain st (key_messages kind (entries l) v o) sent_key a (conveys_key other l kind v o low).plain

    -- The key's note is on, or off, or all is as it was.
    pub key_received : receive_bytes other st (take n new) r ≡ key_expected kind (entries l) v o r
    key_received = sent_conveyed other st (key_messages kind (entries l) v o) r (conveys_key other l kind v o low) sent_key a

  -- A pressure changes nothing of what a receiver has here.
  pub pressure_received :
      (v : ℕ) (o : Option Place) → WriteMeets (key_rule Pressure (entries l) v o) old (value n) new → receive_bytes other st (take n new) r ≡ r
  pressure_received v o a = key_received Pressure v o a ∙ nothing o
    where
      at : (o : Option ℕ) → on_listed o (λ x. x) r ≡ r
      at (some c) = sym (on_none c r)
      at none = refl

      nothing : (o : Option Place) → key_expected Pressure (entries l) v o r ≡ r
      nothing (some q) = at (get_elem? (entries l) q.channel)
      nothing none = refl

  -- ---- a message to all, whose kinds C and D have a padding

  module _ (kind : TuningKind) (m : ChannelMessageType) (a : WriteMeets (to_all_rule kind (entries l) m) old (value n) new) where
    abbrev all : List Message
    all = to_all kind (entries l) m

    valid : Valid (to_message 0 m)
    valid = checked_valid m (sent (bytes_of all)) (accepted a).rule_is 0 (omega arith)

    sent_all : to_all_rule kind (entries l) m ≡ sent (bytes_of all)
    sent_all = valid_checked 0 m (sent (bytes_of all)) valid

    valid_all : AllValid all
    valid_all = all_valid kind l m valid

    -- The padding dropped, a reader finds the message on each channel; with it, what `all_read_with_padding` says.
    pub global_read : read st (unpadded (take n new)) ≡ to_all kind (entries l) m
    global_read = sent_read st all sent_all a valid_all

    pub global_read_padded : read st (take n new) ≡ all_read_with_padding (to_all kind (entries l) m)
    global_read_padded =
        let starts : take n new ≡ bytes_of all = starts_with {bs = bytes_of all} sent_all a in
        ap (read st) starts ∙ read_padded st all valid_all

    -- Every channel receives it, or, of a bend by a tuner that tunes by bends, none: the padding changes nothing of what is kept here.
    pub global_received :
        receive_bytes other st (unpadded (take n new)) r
        ≡ cond (is_suppressed kind m) r (in_turn (λ ch. receive other (to_message ch m)) (entries l) r)
    global_received = ap (λ (l : List Message). receive_all other l r) global_read ∙ receive_to_all other kind (entries l) m r

    pub global_received_padded :
        receive_bytes other st (take n new) r ≡ cond (is_suppressed kind m) r (in_turn (λ ch. receive other (to_message ch m)) (entries l) r)
    global_received_padded =
        ap (λ (l : List Message). receive_all other l r) global_read_padded ∙ receive_all_with_padding other all r ∙ receive_to_all other kind (entries l) m r
