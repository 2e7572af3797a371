-- The refusals, each by its number, SPEC 2.1.
use Rattle.std.specs.Prelude.{ℕ}
use Rattle.arithmetic.specs.declared.refusal.Refusal.{Refusal}
use Rattle.arithmetic.specs.declared.refusal.Refusal.TheVariants.{PitchOutOfRange, NotMeasurable, DetuningOutOfRange, NoteOutOfRange, KeyTwice, ChannelOver15, ChannelTwice, DataByteOver127, BendOutOfRange, BufferTooShort, KeyHeld, ListsUnequal, LineMalformed}

-- The pitch is out of range or NaN.
abbrev pub pitch_out_of_range : ℕ
pitch_out_of_range = 1

-- A detuning that is measured is not positive and finite.
abbrev pub not_measurable : ℕ
not_measurable = 2

-- A detuning in a plan's list is outside 0.5 to 2 or NaN.
abbrev pub detuning_out_of_range : ℕ
detuning_out_of_range = 3

-- The note is outside -300 to 500.
abbrev pub note_out_of_range : ℕ
note_out_of_range = 4

-- The key comes twice in a list.
abbrev pub key_twice : ℕ
key_twice = 5

-- The MIDI channel is over 15.
abbrev pub channel_over15 : ℕ
channel_over15 = 6

-- The MIDI channel comes twice in a channel list.
abbrev pub channel_twice : ℕ
channel_twice = 7

-- The data byte is over 127.
abbrev pub data_byte_over127 : ℕ
data_byte_over127 = 8

-- The bend is outside -8192 to 8191.
abbrev pub bend_out_of_range : ℕ
bend_out_of_range = 9

-- The buffer is shorter than the bytes of this answer.
abbrev pub buffer_too_short : ℕ
buffer_too_short = 10

-- The key is held already.
abbrev pub key_held : ℕ
key_held = 11

-- The lists are of unequal length.
abbrev pub lists_unequal : ℕ
lists_unequal = 12

-- The line of the console is malformed.
abbrev pub line_malformed : ℕ
line_malformed = 13

-- The number of the code's refusal.
abbrev pub number : Refusal → ℕ
number PitchOutOfRange = pitch_out_of_range
number NotMeasurable = not_measurable
number DetuningOutOfRange = detuning_out_of_range
number NoteOutOfRange = note_out_of_range
number KeyTwice = key_twice
number ChannelOver15 = channel_over15
number ChannelTwice = channel_twice
number DataByteOver127 = data_byte_over127
number BendOutOfRange = bend_out_of_range
number BufferTooShort = buffer_too_short
number KeyHeld = key_held
number ListsUnequal = lists_unequal
number LineMalformed = line_malformed
