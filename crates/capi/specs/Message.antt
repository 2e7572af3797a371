-- Messages and the records of numbers that stand for them, SPEC 12.2.
use Rattle.std.specs.Prelude.{cond, eqb, pos}
use Rattle.senders.specs.declared.midi.ChannelMessageType.{ChannelMessageType}
use Rattle.senders.specs.declared.midi.ChannelMessageType.TheVariants.{NoteOff, NoteOn, PolyphonicKeyPressure, ControlChange}
use Rattle.senders.specs.declared.midi.ChannelMessageType.TheVariants.{ProgramChange, ChannelPressure, PitchBendChange}
use Rattle.capi.specs.declared.message.Message.{Message}

-- SPEC 12.2: a kind that names none is read as 0, a note-off.
abbrev pub message_of : Message → ChannelMessageType
message_of m =
    cond (eqb m.kind 1) (NoteOn m.first m.second)
    (cond (eqb m.kind 2) (PolyphonicKeyPressure m.first m.second)
    (cond (eqb m.kind 3) (ControlChange m.first m.second)
    (cond (eqb m.kind 4) (ProgramChange m.first)
    (cond (eqb m.kind 5) (ChannelPressure m.first)
    (cond (eqb m.kind 6) (PitchBendChange m.bend) (NoteOff m.first m.second))))))

-- SPEC 12.3: what a kind has no use for is 0.
abbrev pub in_numbers : ChannelMessageType → Message
in_numbers (NoteOff k v) = record { kind = 0; first = k; second = v; bend = pos 0 }
in_numbers (NoteOn k v) = record { kind = 1; first = k; second = v; bend = pos 0 }
in_numbers (PolyphonicKeyPressure k p) = record { kind = 2; first = k; second = p; bend = pos 0 }
in_numbers (ControlChange n v) = record { kind = 3; first = n; second = v; bend = pos 0 }
in_numbers (ProgramChange p) = record { kind = 4; first = p; second = 0; bend = pos 0 }
in_numbers (ChannelPressure p) = record { kind = 5; first = p; second = 0; bend = pos 0 }
in_numbers (PitchBendChange b) = record { kind = 6; first = 0; second = 0; bend = b }
