-- Which channel messages a sequence of bytes is, by the MIDI 1.0 Detailed Specification 4.2.1 alone.
use Rattle.std.specs.Prelude.{Bool, true, cond, List, [], ◌∷◌, ◌++◌, ℕ, ◌+◌, ◌*◌, ◌/◌, ◌%◌, ltb, eqb, pos, ◌-ℤ◌}
use Rattle.senders.specs.Message.{Message, note_off, note_on, key_pressure, control, program, channel_pressure, bend}

-- Where a reader stands. After a status byte its data bytes are due, and when they have come they are due again: running status, by which a
-- sender leaves out a status byte that repeats.
pub data State : Type 0 where
  -- No channel message is begun, and a data byte belongs to none.
  idle : State
  -- The first data byte is due.
  due : (status : ℕ) → State
  -- The second data byte is due.
  half : (status first : ℕ) → State

-- Kinds C and D have one data byte, the other channel messages two.
abbrev pub has_one : ℕ → Bool
has_one kind = cond (eqb kind 0xc) true (eqb kind 0xd)

abbrev pub of_one : ℕ → ℕ → ℕ → Message
of_one kind ch a = cond (eqb kind 0xc) (program ch a) (channel_pressure ch a)

-- A bend has 14 bits, the least significant 7 first, around a centre of 8192.
abbrev pub of_two : ℕ → ℕ → ℕ → ℕ → Message
of_two kind ch a b =
    cond (eqb kind 0x8) (note_off ch a b)
    (cond (eqb kind 0x9) (note_on ch a b)
    (cond (eqb kind 0xa) (key_pressure ch a b)
    (cond (eqb kind 0xb) (control ch a b)
    (bend ch (pos (b * 128 + a) -ℤ pos 8192)))))

-- The high four bits of a status byte are the kind, the low four the channel.
abbrev pub read_data : State → ℕ → State
read_data idle a = idle
read_data (due s) a = cond (has_one (s / 16)) (due s) (half s a)
read_data (half s a) b = due s

abbrev pub completed : State → ℕ → List Message
completed idle a = []
completed (due s) a = cond (has_one (s / 16)) (of_one (s / 16) (s % 16) a ∷ []) []
completed (half s a) b = of_two (s / 16) (s % 16) a b ∷ []

-- Below 128 is a data byte, below F0 the status byte of a channel message. F0 to F7 end running status, and what follows them is no channel
-- message's; the real-time bytes F8 to FF may stand anywhere and change nothing.
abbrev pub read_byte : State → ℕ → State
read_byte s b = cond (ltb b 0x80) (read_data s b) (cond (ltb b 0xf0) (due b) (cond (ltb b 0xf8) idle s))

abbrev pub messages_at : State → ℕ → List Message
messages_at s b = cond (ltb b 0x80) (completed s b) []

abbrev pub read : State → List ℕ → List Message
read s [] = []
read s (b ∷ bs) = messages_at s b ++ read (read_byte s b) bs
