-- Messages on the channels of a tuner's list: the message of a note, which MIDI channel it is sent on, and a message to each.
use Rattle.std.specs.Prelude.{flat_map}
use mathlib.Core.Path.{◌≡◌, ap, ◌∙◌}
use mathlib.Core.Bool.{cond}
use mathlib.Core.Option.{some, none}
use mathlib.Core.List.{List, [], ◌∷◌, ◌++◌, append-nil}
use Prim.Native.Nat.{ℕ, zero, suc, ◌+◌, ◌<◌}
use native.Mathlib.Omega.{arith}
use lib.IntN.{ℤ, pos, negsuc}
use lib.ListN.{length, take, get_or, get_elem?}
use Rattle.std.proofs.lemmas.Bool.Decides.{nat_tests}
use Rattle.arithmetic.specs.Note.{midi_number}
use Rattle.channels.specs.ChannelList.{entries}
use Rattle.channels.specs.declared.list.ChannelList.{ChannelList}
use Rattle.channels.proofs.ChannelLists.{entries_low}
use Rattle.channels.specs.Outcome.{value}
use Rattle.senders.specs.Message.{Valid, is_data}
use Rattle.senders.specs.Midi.{bytes, bytes_of, to_message}
use Rattle.senders.specs.Tuner.{note_type}
use Rattle.senders.specs.declared.midi.ChannelMessageType.{ChannelMessageType}
use Rattle.senders.specs.declared.tuner.NoteMessage.{NoteMessage}
use Rattle.senders.specs.declared.tuner.NoteMessage.TheVariants.{Off, On, Pressure}
use Rattle.senders.proofs.Bytes.Messages.{bytes_one_more, checked_valid, valid_checked}

-- ---- the message of a note

-- MIDI has a number for a note that is a data byte.
pub midi_number_data : (n : ℕ) → midi_number (pos n) ≡ cond (is_data n) (some n) none
unfolding midi_number
midi_number_data n = grind (arith, nat_tests)

pub midi_number_below : (z : ℤ) {n : ℕ} → some n ≡ midi_number z → n < 128
unfolding midi_number
midi_number_below (pos n) e = grind (arith, nat_tests)
midi_number_below (negsuc n) e = cc

pub note_valid : (kind : NoteMessage) {ch k v : ℕ} → ch < 16 → k < 128 → v < 128 → Valid (to_message ch (note_type kind k v))
note_valid Off c k v = (c, k, v)
note_valid On c k v = (c, k, v)
note_valid Pressure c k v = (c, k, v)

-- ---- entries

get_elem_below : (l : List ℕ) → ((i : ℕ) → i < length l → get_or l i 0 < 16) → (i : ℕ) {c : ℕ} → get_elem? l i ≡ some c → c < 16
get_elem_below [] h i {c} e = absurd (cc)
get_elem_below (x ∷ l) h zero {c} e = let s : x ≡ c = cc in let k : x < 16 = h 0 (omega arith) in omega arith
get_elem_below (x ∷ l) h (suc i) e = get_elem_below l (λ j k. h (suc j) (omega arith)) i e

-- every entry is one of the 16 channels
pub entry_low : (l : ChannelList) (i : ℕ) {c : ℕ} → get_elem? (entries l) i ≡ some c → c < 16
entry_low l i e = get_elem_below (entries l) (entries_low l) i e

-- a place in a list has an entry
pub has_entry : {X : Type 0} (l : List ℕ) (i : ℕ) → i < length l → get_elem? l i ≡ none → X
has_entry [] i h e = absurd (omega arith)
has_entry (x ∷ l) zero h e = absurd (cc)
has_entry (x ∷ l) (suc i) h e = has_entry l i (omega arith) e

-- ---- a message to each of a list

-- a message that is valid on one channel is on each
pub valid_on : (m : ChannelMessageType) → Valid (to_message 0 m) → (ch : ℕ) → ch < 16 → Valid (to_message ch m)
valid_on m v ch h = checked_valid m (value (tt {0})) (valid_checked 0 m (value tt) v) ch h

module _ (m : ChannelMessageType) (cs : List ℕ) (i : ℕ) {ch : ℕ} (e : get_elem? cs i ≡ some ch) where
  pub to_all_one_more :
      bytes_of (flat_map (λ c. to_message c m ∷ []) (take (i + 1) cs)) ≡ bytes_of (flat_map (λ c. to_message c m ∷ []) (take i cs)) ++ bytes (to_message ch m)
  to_all_one_more =
      bytes_one_more (λ c. to_message c m ∷ []) cs i e
      ∙ ap (λ (l : List ℕ). bytes_of (flat_map (λ c. to_message c m ∷ []) (take i cs)) ++ l) (append-nil (bytes (to_message ch m)))
