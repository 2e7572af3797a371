-- The tests of a message, and the bytes of messages.
use Rattle.std.specs.Prelude.{flat_map}
use Rattle.std.proofs.lemmas.Grind.{flat_map-append}
use mathlib.Core.Path.{◌≡◌, refl, sym, ap, ◌∙◌}
use mathlib.Core.Bool.{Bool, true, false, cond}
use mathlib.Core.List.{List, [], ◌∷◌, ◌++◌, append_assoc, append-nil}
use mathlib.Core.Option.{some}
use Prim.Native.Nat.{ℕ, zero, suc, ◌+◌, ◌<◌}
use native.Mathlib.Numerals.{add-one}
use native.Mathlib.Omega.{arith}
use lib.Dec.{ltb}
use lib.ListN.{take, get_elem?}
use borrow.Author.Tests.{lt-ltb, le-ltb, ltb-true}
use Rattle.channels.specs.Channel.{channel_rule}
use Rattle.channels.specs.Outcome.{Outcome, value, refused, refuse◌unless◌then◌}
use Rattle.channels.proofs.ChannelLists.{channel_of_number, refused_over}
use Rattle.senders.specs.Buffer.{sent}
use Rattle.arithmetic.proofs.Rules.Outcomes.{passed_of_value, refused_at}
use Rattle.channels.specs.Refusal.{channel_over15, data_byte_over127}
use Rattle.senders.specs.Message.{Message, Valid, is_channel, is_bend}
use Rattle.senders.specs.Midi.{bytes, bytes_of, to_message, data_rule, check_data, message_rule}
use Rattle.senders.specs.declared.midi.ChannelMessageType.{ChannelMessageType}
use Rattle.senders.specs.declared.midi.ChannelMessageType.TheVariants.{NoteOff, NoteOn, PolyphonicKeyPressure, ControlChange, ProgramChange, ChannelPressure, PitchBendChange}

-- ---- one test of a rule

-- a value was answered, so the test held, and what stands behind it answered the value
pub test_held : {A : Type 0} (n : ℕ) (test : Bool) (o : Outcome A) {a : A} → cond test o (refused n) ≡ value a → (test ≡ true) × (o ≡ value a)
test_held n true o e = (refl, e)
test_held n false o e = absurd (cc)

-- a refusal stays what it is, whatever would have been answered
one_test_refuses :
    {A B : Type 0} (m : ℕ) (test : Bool) {n : ℕ} (b : B) (o : Outcome A) → cond test (value b) (refused m) ≡ refused n
    → cond test o (refused m) ≡ refused n
one_test_refuses m test b o e = sym (refused_at m test b (sym e) o)

two_tests_refuse :
    {A B : Type 0} (m : ℕ) (t u : Bool) {n : ℕ} (b : B) (o : Outcome A)
    → cond t (cond u (value b) (refused m)) (refused m) ≡ refused n → cond t (cond u o (refused m)) (refused m) ≡ refused n
two_tests_refuse m true u b o e = one_test_refuses m u b o e
two_tests_refuse m false u {n} b o e = let s : m ≡ n = cc in ap refused s

-- ---- the tests of a message

two_tests_held :
    {A : Type 0} (a b : ℕ) (o : Outcome A) {x : A} → cond (ltb a 128) (cond (ltb b 128) o (refused 8)) (refused 8) ≡ value x
    → (a < 128) × (b < 128) × (o ≡ value x)
two_tests_held a b o e =
    let p = test_held 8 (ltb a 128) (cond (ltb b 128) o (refused 8)) e in
    let q = test_held 8 (ltb b 128) o p.1 in
    (ltb-true a 128 p.0, ltb-true b 128 q.0, q.1)

-- the data byte of a number is the number
pub data_passes : (n : ℕ) {b : ℕ} → value b ≡ data_rule n → (b ≡ n) × (n < 128)
data_passes n e = let p = passed_of_value data_byte_over127 (ltb n 128) n e in (p.1, ltb-true n 128 p.0)

-- A message that passes its tests is valid on each of the 16 channels.
pub checked_valid :
    {A : Type 0} (m : ChannelMessageType) (o : Outcome A) {x : A} → check_data m o ≡ value x → (ch : ℕ) → ch < 16 → Valid (to_message ch m)
checked_valid (NoteOff k v) o e ch h = let p = two_tests_held k v o e in (h, p.0, p.1)
checked_valid (NoteOn k v) o e ch h = let p = two_tests_held k v o e in (h, p.0, p.1)
checked_valid (PolyphonicKeyPressure k v) o e ch h = let p = two_tests_held k v o e in (h, p.0, p.1)
checked_valid (ControlChange k v) o e ch h = let p = two_tests_held k v o e in (h, p.0, p.1)
checked_valid (ProgramChange p) o e ch h = (h, ltb-true p 128 (test_held 8 (ltb p 128) o e).0)
checked_valid (ChannelPressure p) o e ch h = (h, ltb-true p 128 (test_held 8 (ltb p 128) o e).0)
checked_valid (PitchBendChange b) o e ch h = (h, (test_held 9 (is_bend b) o e).0)

-- A valid message passes its tests.
pub valid_checked : {A : Type 0} (ch : ℕ) (m : ChannelMessageType) (o : Outcome A) → Valid (to_message ch m) → check_data m o ≡ o
valid_checked ch (NoteOff k v) o h = simp (lt-ltb k 128 h.1, lt-ltb v 128 h.2)
valid_checked ch (NoteOn k v) o h = simp (lt-ltb k 128 h.1, lt-ltb v 128 h.2)
valid_checked ch (PolyphonicKeyPressure k v) o h = simp (lt-ltb k 128 h.1, lt-ltb v 128 h.2)
valid_checked ch (ControlChange k v) o h = simp (lt-ltb k 128 h.1, lt-ltb v 128 h.2)
valid_checked ch (ProgramChange p) o h = simp (lt-ltb p 128 h.1)
valid_checked ch (ChannelPressure p) o h = simp (lt-ltb p 128 h.1)
valid_checked ch (PitchBendChange b) o h = simp h.1

-- a message that passes its tests, and what its record says
module _ (m : ChannelMessageType) {f : ℕ → List ℕ} (e : value f ≡ check_data m (value (λ ch. bytes (to_message ch m)))) where
  pub checked_passes : {A : Type 0} (o : Outcome A) → check_data m o ≡ o
  checked_passes o = valid_checked 0 m o (checked_valid m _ (sym e) 0 (omega arith))

  pub checked_bytes : (ch : ℕ) → f ch ≡ bytes (to_message ch m)
  checked_bytes ch = ap (λ (o : Outcome (ℕ → List ℕ)). on o ch) (e ∙ checked_passes (value (λ ch. bytes (to_message ch m))))
    where
      on : Outcome (ℕ → List ℕ) → ℕ → List ℕ
      on (value g) c = g c
      on (refused k) c = []

-- A message that fails a test is refused whatever would have been answered.
pub checked_refused :
    {A B : Type 0} (m : ChannelMessageType) {n : ℕ} (b : B) (o : Outcome A) → check_data m (value b) ≡ refused n → check_data m o ≡ refused n
checked_refused (NoteOff k v) b o e = two_tests_refuse 8 (ltb k 128) (ltb v 128) b o e
checked_refused (NoteOn k v) b o e = two_tests_refuse 8 (ltb k 128) (ltb v 128) b o e
checked_refused (PolyphonicKeyPressure k v) b o e = two_tests_refuse 8 (ltb k 128) (ltb v 128) b o e
checked_refused (ControlChange k v) b o e = two_tests_refuse 8 (ltb k 128) (ltb v 128) b o e
checked_refused (ProgramChange p) b o e = one_test_refuses 8 (ltb p 128) b o e
checked_refused (ChannelPressure p) b o e = one_test_refuses 8 (ltb p 128) b o e
checked_refused (PitchBendChange z) b o e = one_test_refuses 9 (is_bend z) b o e

-- ---- the rule of a message

pub valid_channel : (ch : ℕ) (m : ChannelMessageType) → Valid (to_message ch m) → ch < 16
valid_channel ch (NoteOff k v) h = h.0
valid_channel ch (NoteOn k v) h = h.0
valid_channel ch (PolyphonicKeyPressure k p) h = h.0
valid_channel ch (ControlChange n v) h = h.0
valid_channel ch (ProgramChange p) h = h.0
valid_channel ch (ChannelPressure p) h = h.0
valid_channel ch (PitchBendChange b) h = h.0

-- A message is accepted exactly where it is valid, and sends its bytes.
pub message_accepted : (ch : ℕ) (m : ChannelMessageType) → Valid (to_message ch m) → message_rule ch m ≡ sent (bytes (to_message ch m))
message_accepted ch m h = rw (lt-ltb ch 16 (valid_channel ch m h)) (valid_checked ch m (sent (bytes (to_message ch m))) h)

-- ---- the test of a channel

module _ (n : ℕ) {A : Type 0} (o : Outcome A) where
  pub channel_passes : (ch : ℕ) → value ch ≡ channel_rule n → (refuse channel_over15 unless is_channel n then o) ≡ o
  channel_passes ch e = rw (lt-ltb n 16 (omega (arith, (channel_of_number n ch e).1))) refl

  pub channel_refuses : (k : ℕ) → refused k ≡ channel_rule n → (refuse channel_over15 unless is_channel n then o) ≡ refused k
  channel_refuses k e = let p = refused_over n k e in rw (le-ltb n 16 (omega (arith, p.0)), p.1) refl

-- ---- bytes

pub bytes_append : (ms ns : List Message) → bytes_of (ms ++ ns) ≡ bytes_of ms ++ bytes_of ns
bytes_append [] ns = refl
bytes_append (m ∷ ms) ns =
    ap (λ (l : List ℕ). bytes m ++ l) (bytes_append ms ns) ∙ sym (append_assoc (bytes m) (bytes_of ms) (bytes_of ns))

-- ---- messages for each of a list, one behind the other: their bytes as a loop over the list writes them

take_one_more : {A : Type 0} (xs : List A) (i : ℕ) {x : A} → get_elem? xs i ≡ some x → take (suc i) xs ≡ take i xs ++ (x ∷ [])
take_one_more [] i e = absurd (cc)
take_one_more {A} (y ∷ xs) zero {x} e = let s : y ≡ x = cc in ap (λ (z : A). z ∷ []) s
take_one_more {A} (y ∷ xs) (suc i) e = ap (λ (l : List A). y ∷ l) (take_one_more xs i e)

pub bytes_one_more :
    {A : Type 0} (messages : A → List Message) (xs : List A) (i : ℕ) {x : A} → get_elem? xs i ≡ some x
    → bytes_of (flat_map messages (take (i + 1) xs)) ≡ bytes_of (flat_map messages (take i xs)) ++ bytes_of (messages x)
bytes_one_more {A} messages xs i {x} e =
    ap (λ (l : List A). bytes_of (flat_map messages l)) (rw add-one (take_one_more xs i e))
    ∙ ap bytes_of (flat_map-append messages (take i xs) (x ∷ []))
    ∙ bytes_append (flat_map messages (take i xs)) (messages x ++ [])
    ∙ ap (λ (l : List Message). bytes_of (flat_map messages (take i xs)) ++ bytes_of l) (append-nil (messages x))
