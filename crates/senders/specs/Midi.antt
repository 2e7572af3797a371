-- The bytes of a message, and the rule for a message that a caller asks for, SPEC 8.
use Rattle.std.specs.Prelude.{List, [], ◌∷◌, ◌++◌, ℕ, ◌+◌, ◌-◌, ◌*◌, ◌%◌, ℤ, pos, negsuc, nat_abs, ◌+ℤ◌}
use Rattle.std.specs.Int.Signed.{shr_z}
use Rattle.channels.specs.Outcome.{Outcome, value, refuse◌unless◌then◌}
use Rattle.channels.specs.Refusal.{channel_over15, data_byte_over127, bend_out_of_range}
use Rattle.senders.specs.Buffer.{WriteOutcome, sent}
use Rattle.senders.specs.Message.{Message, note_off, note_on, key_pressure, control, program, channel_pressure, bend, is_channel, is_data, is_bend}
use Rattle.senders.specs.declared.midi.ChannelMessageType.{ChannelMessageType}
use Rattle.senders.specs.declared.midi.ChannelMessageType.TheVariants.{NoteOff, NoteOn, PolyphonicKeyPressure, ControlChange, ProgramChange, ChannelPressure, PitchBendChange}

-- ---- SPEC 8.1, 8.2: bytes

abbrev pub status : ℕ → ℕ → ℕ
status kind channel = kind * 16 + channel

-- SPEC 8.2: the low byte of a bend is its remainder by 128. (`negsuc n` is -(n + 1).)
abbrev pub bend_low : ℤ → ℕ
bend_low (pos n) = n % 128
bend_low (negsuc n) = 127 - n % 128

-- SPEC 8.2: the high byte is the quotient by 128, rounded down, plus 64.
abbrev pub bend_high : ℤ → ℕ
bend_high b = nat_abs (shr_z b 128 +ℤ pos 64)

-- SPEC 8.1, 8.1a: every message is three bytes; those of kinds C and D end in 00.
abbrev pub bytes : Message → List ℕ
bytes (note_off ch k v) = status 0x8 ch ∷ k ∷ v ∷ []
bytes (note_on ch k v) = status 0x9 ch ∷ k ∷ v ∷ []
bytes (key_pressure ch k p) = status 0xa ch ∷ k ∷ p ∷ []
bytes (control ch n v) = status 0xb ch ∷ n ∷ v ∷ []
bytes (program ch p) = status 0xc ch ∷ p ∷ 0x00 ∷ []
bytes (channel_pressure ch p) = status 0xd ch ∷ p ∷ 0x00 ∷ []
bytes (bend ch b) = status 0xe ch ∷ bend_low b ∷ bend_high b ∷ []

-- The bytes of messages, one behind the other.
abbrev pub bytes_of : List Message → List ℕ
bytes_of [] = []
bytes_of (m ∷ ms) = bytes m ++ bytes_of ms

-- ---- SPEC 8.4: the rule of a message, refused by 6, 8 from the left, 9, 10

-- The message that a caller asks for on a channel.
abbrev pub to_message : ℕ → ChannelMessageType → Message
to_message ch (NoteOff k v) = note_off ch k v
to_message ch (NoteOn k v) = note_on ch k v
to_message ch (PolyphonicKeyPressure k p) = key_pressure ch k p
to_message ch (ControlChange n v) = control ch n v
to_message ch (ProgramChange p) = program ch p
to_message ch (ChannelPressure p) = channel_pressure ch p
to_message ch (PitchBendChange b) = bend ch b

-- SPEC 8.1: the data byte of a number, or refusal 8.
abbrev pub data_rule : ℕ → Outcome ℕ
data_rule b = refuse data_byte_over127 unless is_data b then value b

-- SPEC 2.2: 8 from the left, 9, and then what is left of the rule.
abbrev pub check_data : {A : Type 0} → ChannelMessageType → Outcome A → Outcome A
check_data (NoteOff k v) o = refuse data_byte_over127 unless is_data k then refuse data_byte_over127 unless is_data v then o
check_data (NoteOn k v) o = refuse data_byte_over127 unless is_data k then refuse data_byte_over127 unless is_data v then o
check_data (PolyphonicKeyPressure k p) o = refuse data_byte_over127 unless is_data k then refuse data_byte_over127 unless is_data p then o
check_data (ControlChange n v) o = refuse data_byte_over127 unless is_data n then refuse data_byte_over127 unless is_data v then o
check_data (ProgramChange p) o = refuse data_byte_over127 unless is_data p then o
check_data (ChannelPressure p) o = refuse data_byte_over127 unless is_data p then o
check_data (PitchBendChange b) o = refuse bend_out_of_range unless is_bend b then o

-- SPEC 8.4, but for 10, which is added where a contract cites it.
abbrev pub message_rule : ℕ → ChannelMessageType → WriteOutcome
message_rule ch m = refuse channel_over15 unless is_channel ch then check_data m (sent (bytes (to_message ch m)))
