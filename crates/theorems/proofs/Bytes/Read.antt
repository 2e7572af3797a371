-- What a reader that follows the Specification makes of the bytes of messages, whatever it read before: with the padding of our records as it
-- stands, and with the padding dropped.
use Rattle.std.specs.Prelude.{flat_map}
use mathlib.Core.Path.{◌≡◌, refl, sym, ap, ◌∙◌}
use mathlib.Core.List.{List, [], ◌∷◌, ◌++◌, append-nil}
use Prim.Native.Nat.{ℕ}
use lib.Dec.{ltb}
use lib.ListN.{take}
use borrow.Author.Tests.{ltb-true}
use Rattle.channels.specs.Outcome.{Outcome, value}
use Rattle.channels.specs.Lists.{Each}
use Rattle.senders.specs.Buffer.{Effect, sent, sends, CallMeets, WriteMeets}
use Rattle.senders.specs.Message.{Message, Valid, AllValid}
use Rattle.senders.specs.Midi.{bytes, bytes_of, to_message, check_data, message_rule}
use Rattle.senders.specs.declared.midi.ChannelMessageType.{ChannelMessageType}
use Rattle.senders.proofs.Bytes.Messages.{test_held, checked_valid, message_accepted}
use Rattle.theorems.specs.Reader.{State, read}
use Rattle.theorems.specs.Padding.{read_with_padding, all_read_with_padding, unpadded, Plain, ReadAs}
use Rattle.theorems.proofs.Bytes.Accepted.{accepted, starts_with}
use Rattle.theorems.proofs.Bytes.Reading.{state_behind, message_padded, message_unpadded, all_append}

pub accepted_valid : (ch : ℕ) (m : ChannelMessageType) {f : Effect ℕ (Unit {0})} → message_rule ch m ≡ value f → Valid (to_message ch m)
accepted_valid ch m e =
    let p = test_held 6 (ltb ch 16) (check_data m (sent (bytes (to_message ch m)))) e in
    checked_valid m (sent (bytes (to_message ch m))) p.1 ch (ltb-true ch 16 p.0)

pub valid_append : (ms ns : List Message) → AllValid ms → AllValid ns → AllValid (ms ++ ns)
valid_append [] ns v w = w
valid_append (m ∷ ms) ns v w = (v.0, valid_append ms ns v.1 w)

pub each_valid : {A : Type 0} (messages : A → List Message) (xs : List A) → Each (λ x. AllValid (messages x)) xs → AllValid (flat_map messages xs)
each_valid messages [] v = tt
each_valid messages (x ∷ xs) v = valid_append (messages x) (flat_map messages xs) v.0 (each_valid messages xs v.1)

-- ---- every sequence of messages

-- The bytes as they stand: a reader finds each message, and behind each of kinds C and D one more of that kind with 00.
pub read_padded : (st : State) (ms : List Message) → AllValid ms → read st (bytes_of ms) ≡ all_read_with_padding ms
read_padded st [] v = refl
read_padded st (m ∷ ms) v =
    message_padded st m (bytes_of ms) v.0 ∙ ap (λ (l : List Message). read_with_padding m ++ l) (read_padded (state_behind m) ms v.1)

-- The padding dropped: a reader finds exactly the messages meant.
pub read_unpadded : (st : State) (ms : List Message) → AllValid ms → read st (unpadded (bytes_of ms)) ≡ ms
read_unpadded st [] v = refl
read_unpadded st (m ∷ ms) v =
    message_unpadded st m (bytes_of ms) v.0 ∙ ap (λ (l : List Message). m ∷ l) (read_unpadded (state_behind m) ms v.1)

pub read_plain : (st : State) (ms : List Message) → Plain ms → read st (bytes_of ms) ≡ ms
read_plain st ms p = read_padded st ms p.valid ∙ p.read_as_is

pub plain_append : {ms ns : List Message} → Plain ms → Plain ns → Plain (ms ++ ns)
plain_append {ms} {ns} p q =
    record { valid = valid_append ms ns p.valid q.valid; read_as_is = all_append ms ns ∙ rw (p.read_as_is, q.read_as_is) }

-- ---- every call that counts the bytes it sent

module _
    {S T : Type 0} {view : T → S} {rule : Outcome (Effect ℕ S)} {s back : T} {next : S} {old new : List ℕ} {n : ℕ}
    (st : State) (ms : List Message) (sent_is : rule ≡ sends (bytes_of ms) next) (call : CallMeets view rule s old (value n) back new) where
  written_is : take n new ≡ bytes_of ms
  written_is = starts_with {s = s} {back = back} {next = next} {old = old} sent_is call

  -- What it wrote to the buffer is read as the messages it sent, the padding dropped.
  pub sent_read : AllValid ms → read st (unpadded (take n new)) ≡ ms
  sent_read v = rw written_is (read_unpadded st ms v)

  -- And as it stands, where there is none.
  pub sent_read_plain : Plain ms → read st (take n new) ≡ ms
  sent_read_plain p = rw written_is (read_plain st ms p)

-- ---- `to_raw_message`

-- What the call wrote, as a reader finds it.
pub raw_message_read :
    (st : State) (ch : ℕ) (m : ChannelMessageType) {old new : List ℕ} {n : ℕ} → WriteMeets (message_rule ch m) old (value n) new
    → ReadAs st (to_message ch m) (take n new)
raw_message_read st ch m {new = new} {n = n} p =
    let v : Valid (to_message ch m) = accepted_valid ch m (accepted p).rule_is in
    let s : take n new ≡ bytes (to_message ch m) ++ [] = starts_with (message_accepted ch m v) p ∙ sym (append-nil (bytes (to_message ch m))) in
    rw s (
    record {
      unpadded_is = read_unpadded st (to_message ch m ∷ []) (v, tt);
      padded_is = read_padded st (to_message ch m ∷ []) (v, tt) ∙ append-nil (read_with_padding (to_message ch m));
    }
    )
