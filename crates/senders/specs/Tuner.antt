-- The messages that a tuner sends on its channels, and the calls that a plan tuner and a pool tuner share, SPEC 9.
use Rattle.std.specs.Prelude.{Bool, true, false, cond, List, [], ◌∷◌, ◌++◌, ℕ, ℤ, flat_map}
use Rattle.std.proofs.Math.Option.{Option, some, none}
use Rattle.std.proofs.Math.ListN.{get_elem?}
use Rattle.arithmetic.specs.Note.{midi_number}
use Rattle.channels.specs.Outcome.{refuse◌unless◌then◌}
use Rattle.channels.specs.Refusal.{data_byte_over127}
use Rattle.channels.specs.Places.{Place}
use Rattle.senders.specs.Buffer.{WriteOutcome, sent}
use Rattle.senders.specs.Message.{Message, is_data}
use Rattle.senders.specs.Midi.{bytes_of, check_data, to_message}
use Rattle.senders.specs.Mts.{tuning_messages}
use Rattle.senders.specs.declared.midi.ChannelMessageType.{ChannelMessageType}
use Rattle.senders.specs.declared.midi.ChannelMessageType.TheVariants.{NoteOff, NoteOn, PolyphonicKeyPressure, ControlChange, ProgramChange, ChannelPressure, PitchBendChange}
use Rattle.channels.specs.declared.tuning_value.Tuning.{Tuning}
use Rattle.channels.specs.declared.tuning_value.TuningKind.{TuningKind}
use Rattle.channels.specs.declared.tuning_value.TuningKind.TheVariants.{FineTuning, Bend}
use Rattle.senders.specs.declared.tuner.NoteMessage.{NoteMessage}
use Rattle.senders.specs.declared.tuner.NoteMessage.TheVariants.{Off, On, Pressure}

-- A message of a note, with its velocity or pressure.
abbrev pub note_type : NoteMessage → ℕ → ℕ → ChannelMessageType
note_type Off k v = NoteOff k v
note_type On k v = NoteOn k v
note_type Pressure k v = PolyphonicKeyPressure k v

-- SPEC 9.5: a note without a MIDI number sends no note message.
abbrev pub numbered : (ℕ → Message) → Option ℕ → List Message
numbered message (some k) = message k ∷ []
numbered message none = []

abbrev pub note_messages : NoteMessage → ℕ → ℤ → ℕ → List Message
note_messages kind ch note v = numbered (λ k. to_message ch (note_type kind k v)) (midi_number note)

-- SPEC 9.2: the note-off of the note that a press stops, if there is one.
abbrev pub stop_messages : ℕ → Option ℤ → ℕ → List Message
stop_messages ch none v = []
stop_messages ch (some note) v = note_messages Off ch note v

-- SPEC 9.2: the note-off of the stopped note with the velocity of the new press, the tuning, the note-on.
abbrev pub press_messages : ℕ → Option ℤ → Tuning → ℤ → ℕ → List Message
press_messages ch stopped tuning note v = stop_messages ch stopped v ++ tuning_messages ch tuning ++ note_messages On ch note v

-- ---- channels

-- SPEC 1.6a: channel i is entry i of the channel list. A tuner that calls have led to has no channel past the list; for one, nothing
-- would be sent.
abbrev pub on_entry : (ℕ → List Message) → Option ℕ → List Message
on_entry messages (some ch) = messages ch
on_entry messages none = []

abbrev pub on_channel : List ℕ → ℕ → (ℕ → List Message) → List Message
on_channel channels i messages = on_entry messages (get_elem? channels i)

-- Where a key is, of a channel and a note, which may be any numbers.
abbrev pub place_from : Option (ℕ × ℤ) → Option Place
place_from (some x) = some (record { channel = x.0; note = x.1 })
place_from none = none

-- SPEC 9.5a: a message of a key's note on the key's channel, and nothing of a key that is not found.
abbrev pub key_messages : NoteMessage → List ℕ → ℕ → Option Place → List Message
key_messages kind channels v (some p) = on_channel channels p.channel (λ ch. note_messages kind ch p.note v)
key_messages kind channels v none = []

-- SPEC 9.4: a message goes to every channel, but a tuner that tunes by bends does not pass a bend on.
abbrev pub is_bend_message : ChannelMessageType → Bool
is_bend_message (NoteOff k v) = false
is_bend_message (NoteOn k v) = false
is_bend_message (PolyphonicKeyPressure k p) = false
is_bend_message (ControlChange n v) = false
is_bend_message (ProgramChange p) = false
is_bend_message (ChannelPressure p) = false
is_bend_message (PitchBendChange b) = true

abbrev pub is_suppressed : TuningKind → ChannelMessageType → Bool
is_suppressed FineTuning m = false
is_suppressed Bend m = is_bend_message m

abbrev pub to_all : TuningKind → List ℕ → ChannelMessageType → List Message
to_all kind channels m = cond (is_suppressed kind m) [] (flat_map (λ ch. to_message ch m ∷ []) channels)

-- ---- calls of both tuners

-- SPEC 9.2a, 9.2c, 9.3a: planned presses, releases and pressures are refused by 8, also where the key is unknown, and by 10.
abbrev pub key_rule : NoteMessage → List ℕ → ℕ → Option Place → WriteOutcome
key_rule kind channels v place = refuse data_byte_over127 unless is_data v then sent (bytes_of (key_messages kind channels v place))

-- SPEC 9.4: 8 and 9 are tested also where nothing is sent.
abbrev pub to_all_rule : TuningKind → List ℕ → ChannelMessageType → WriteOutcome
to_all_rule kind channels m = check_data m (sent (bytes_of (to_all kind channels m)))
