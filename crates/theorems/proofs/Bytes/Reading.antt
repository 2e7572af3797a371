-- What a reader that follows the Specification makes of one message's bytes, whatever it read before.
use mathlib.Core.Path.{◌≡◌, refl, sym, ap, ◌∙◌}
use mathlib.Core.Bool.{true, false}
use mathlib.Core.List.{List, [], ◌∷◌, ◌++◌, append_assoc}
use Prim.Native.Nat.{ℕ, ◌/◌, ◌%◌, ◌≤◌, ◌<◌}
use native.Mathlib.Omega.{arith}
use lib.Dec.{ltb, lit<, lit≤}
use lib.IntN.{ℤ}
use borrow.Author.Tests.{lt-ltb, le-ltb}
use Rattle.senders.specs.Message.{Message, note_off, note_on, key_pressure, control, program, channel_pressure, bend, is_bend, Valid}
use Rattle.senders.specs.Midi.{status, bytes, bend_low, bend_high}
use Rattle.theorems.specs.Reader.{State, due, has_one, of_one, of_two, read}
use Rattle.theorems.specs.Padding.{read_with_padding, all_read_with_padding, unpadded}
use Rattle.senders.proofs.Bytes.Bends.{low_small, high_small, bend_back}

-- ---- one record, whatever was read before

module _ (st : State) (kind ch : ℕ) (l : 8 ≤ kind) (h : kind < 15) (c : ch < 16) where
  not_data : ltb (status kind ch) 128 ≡ false
  not_data = le-ltb (status kind ch) 128 (omega arith)

  channel_status : ltb (status kind ch) 240 ≡ true
  channel_status = lt-ltb (status kind ch) 240 (omega arith)

  status_kind : status kind ch / 16 ≡ kind
  status_kind = omega arith

  status_channel : status kind ch % 16 ≡ ch
  status_channel = omega arith

  read_two :
      (a b : ℕ) (rest : List ℕ) → has_one kind ≡ false → a < 128 → b < 128
      → read st (status kind ch ∷ a ∷ b ∷ rest) ≡ of_two kind ch a b ∷ read (due (status kind ch)) rest
  read_two a b rest o p q = simp (not_data, channel_status, lt-ltb a 128 p, lt-ltb b 128 q, status_kind, status_channel, o)

  read_one :
      (a : ℕ) (rest : List ℕ) → has_one kind ≡ true → a < 128
      → read st (status kind ch ∷ a ∷ rest) ≡ of_one kind ch a ∷ read (due (status kind ch)) rest
  read_one a rest o p = simp (not_data, channel_status, lt-ltb a 128 p, status_kind, status_channel, o)

  -- The padding is one message more.
  read_padding :
      (a : ℕ) (rest : List ℕ) → has_one kind ≡ true → a < 128
      → read st (status kind ch ∷ a ∷ 0 ∷ rest) ≡ of_one kind ch a ∷ of_one kind ch 0 ∷ read (due (status kind ch)) rest
  read_padding a rest o p = read_one a (0 ∷ rest) o p ∙ simp (status_kind, status_channel, o)

  unpadded_two :
      (a b : ℕ) (rest : List ℕ) → has_one kind ≡ false → a < 128 → b < 128
      → read st (unpadded (status kind ch ∷ a ∷ b ∷ rest)) ≡ of_two kind ch a b ∷ read (due (status kind ch)) (unpadded rest)
  unpadded_two a b rest o p q = rw (status_kind, o) (read_two a b (unpadded rest) o p q)

  unpadded_one :
      (a : ℕ) (rest : List ℕ) → has_one kind ≡ true → a < 128
      → read st (unpadded (status kind ch ∷ a ∷ 0 ∷ rest)) ≡ of_one kind ch a ∷ read (due (status kind ch)) (unpadded rest)
  unpadded_one a rest o p = rw (status_kind, o) (read_one a (unpadded rest) o p)

  -- Running status: without a status byte the data bytes are a message of the kind before.
  pub running_status :
      (a b : ℕ) (rest : List ℕ) → has_one kind ≡ false → a < 128 → b < 128
      → read (due (status kind ch)) (a ∷ b ∷ rest) ≡ of_two kind ch a b ∷ read (due (status kind ch)) rest
  running_status a b rest o p q = simp (lt-ltb a 128 p, lt-ltb b 128 q, status_kind, status_channel, o)

-- Real-time bytes stand anywhere and change nothing.
pub real_time_passed : (st : State) (b : ℕ) (rest : List ℕ) → 0xf8 ≤ b → read st (b ∷ rest) ≡ read st rest
real_time_passed st b rest h = simp (le-ltb b 128 (omega arith), le-ltb b 240 (omega arith), le-ltb b 248 h)

-- ---- one message

-- Behind a message its status byte runs on.
abbrev pub state_behind : Message → State
state_behind (note_off ch k v) = due (status 0x8 ch)
state_behind (note_on ch k v) = due (status 0x9 ch)
state_behind (key_pressure ch k p) = due (status 0xa ch)
state_behind (control ch n v) = due (status 0xb ch)
state_behind (program ch p) = due (status 0xc ch)
state_behind (channel_pressure ch p) = due (status 0xd ch)
state_behind (bend ch b) = due (status 0xe ch)

bend_read : (ch : ℕ) (b : ℤ) {ms : List Message} → is_bend b ≡ true → of_two 0xe ch (bend_low b) (bend_high b) ∷ ms ≡ bend ch b ∷ ms
bend_read ch b {ms} h = ap (λ (z : ℤ). bend ch z ∷ ms) (bend_back b h)

pub message_padded : (st : State) (m : Message) (rest : List ℕ) → Valid m → read st (bytes m ++ rest) ≡ read_with_padding m ++ read (state_behind m) rest
message_padded st (note_off ch a b) rest v = read_two st 0x8 ch (lit≤ tt) (lit< tt) v.0 a b rest refl v.1 v.2
message_padded st (note_on ch a b) rest v = read_two st 0x9 ch (lit≤ tt) (lit< tt) v.0 a b rest refl v.1 v.2
message_padded st (key_pressure ch a b) rest v = read_two st 0xa ch (lit≤ tt) (lit< tt) v.0 a b rest refl v.1 v.2
message_padded st (control ch a b) rest v = read_two st 0xb ch (lit≤ tt) (lit< tt) v.0 a b rest refl v.1 v.2
message_padded st (program ch a) rest v = read_padding st 0xc ch (lit≤ tt) (lit< tt) v.0 a rest refl v.1
message_padded st (channel_pressure ch a) rest v = read_padding st 0xd ch (lit≤ tt) (lit< tt) v.0 a rest refl v.1
message_padded st (bend ch b) rest v =
    read_two st 0xe ch (lit≤ tt) (lit< tt) v.0 (bend_low b) (bend_high b) rest refl (low_small b v.1) (high_small b v.1)
    ∙ bend_read ch b v.1

pub message_unpadded :
    (st : State) (m : Message) (rest : List ℕ) → Valid m → read st (unpadded (bytes m ++ rest)) ≡ m ∷ read (state_behind m) (unpadded rest)
message_unpadded st (note_off ch a b) rest v = unpadded_two st 0x8 ch (lit≤ tt) (lit< tt) v.0 a b rest refl v.1 v.2
message_unpadded st (note_on ch a b) rest v = unpadded_two st 0x9 ch (lit≤ tt) (lit< tt) v.0 a b rest refl v.1 v.2
message_unpadded st (key_pressure ch a b) rest v = unpadded_two st 0xa ch (lit≤ tt) (lit< tt) v.0 a b rest refl v.1 v.2
message_unpadded st (control ch a b) rest v = unpadded_two st 0xb ch (lit≤ tt) (lit< tt) v.0 a b rest refl v.1 v.2
message_unpadded st (program ch a) rest v = unpadded_one st 0xc ch (lit≤ tt) (lit< tt) v.0 a rest refl v.1
message_unpadded st (channel_pressure ch a) rest v = unpadded_one st 0xd ch (lit≤ tt) (lit< tt) v.0 a rest refl v.1
message_unpadded st (bend ch b) rest v =
    unpadded_two st 0xe ch (lit≤ tt) (lit< tt) v.0 (bend_low b) (bend_high b) rest refl (low_small b v.1) (high_small b v.1)
    ∙ bend_read ch b v.1

-- ---- lists of messages with their padding

pub all_append : (ms ns : List Message) → all_read_with_padding (ms ++ ns) ≡ all_read_with_padding ms ++ all_read_with_padding ns
all_append [] ns = refl
all_append (m ∷ ms) ns =
    ap (λ (l : List Message). read_with_padding m ++ l) (all_append ms ns)
    ∙ sym (append_assoc (read_with_padding m) (all_read_with_padding ms) (all_read_with_padding ns))
