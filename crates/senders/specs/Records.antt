-- The bytes that private functions hand to one another. No public contract cites these words.
use Rattle.std.specs.Prelude.{List, [], ◌∷◌, ℕ, Some, None}
use Rattle.std.specs.Prelude.{Option as Optional}
use Rattle.std.proofs.Math.Option.{Option, some, none}
use Rattle.senders.specs.Midi.{status}
use Rattle.senders.specs.declared.record.Record.{Record}
use Rattle.senders.specs.declared.data_byte.DataByte.{DataByte}
use Rattle.senders.specs.declared.record.Kind.{Kind}
use Rattle.senders.specs.declared.record.Kind.TheVariants.{NoteOff, NoteOn, PolyphonicKeyPressure, ControlChange, ProgramChange, ChannelPressure, PitchBendChange}

-- SPEC 8.1: the kind is the high four bits of a status byte.
abbrev pub kind_number : Kind → ℕ
kind_number NoteOff = 0x8
kind_number NoteOn = 0x9
kind_number PolyphonicKeyPressure = 0xa
kind_number ControlChange = 0xb
kind_number ProgramChange = 0xc
kind_number ChannelPressure = 0xd
kind_number PitchBendChange = 0xe

-- SPEC 8.1: the bytes of a record on a channel.
abbrev pub bytes_on : Record → ℕ → List ℕ
bytes_on r ch = status (kind_number r.kind) ch ∷ r.first.number ∷ r.second.number ∷ []

-- The number of a data byte, if there is one.
abbrev pub number_in : Optional DataByte → Option ℕ
number_in (Some b) = some b.number
number_in None = none

-- The bytes of a message, if there is one.
abbrev pub bytes_in : Optional (List ℕ) → List ℕ
bytes_in (Some bs) = bs
bytes_in None = []
