-- The byte 00 behind messages of kinds C and D, SPEC 8.1a, which the MIDI Specification does not have. This page is about our bytes: the reader knows nothing
-- of it.
use Rattle.std.specs.Prelude.{◌≡◌, cond, List, [], ◌∷◌, ◌++◌, ℕ, ◌/◌}
use Rattle.senders.specs.Message.{Message, note_off, note_on, key_pressure, control, program, channel_pressure, bend, AllValid}
use Rattle.theorems.specs.Reader.{State, has_one, read}

-- What a reader takes for a message with its padding: by running status the padding is the data byte of one message more, with 00.
abbrev pub read_with_padding : Message → List Message
read_with_padding (note_off ch k v) = note_off ch k v ∷ []
read_with_padding (note_on ch k v) = note_on ch k v ∷ []
read_with_padding (key_pressure ch k p) = key_pressure ch k p ∷ []
read_with_padding (control ch n v) = control ch n v ∷ []
read_with_padding (program ch p) = program ch p ∷ program ch 0 ∷ []
read_with_padding (channel_pressure ch p) = channel_pressure ch p ∷ channel_pressure ch 0 ∷ []
read_with_padding (bend ch b) = bend ch b ∷ []

abbrev pub all_read_with_padding : List Message → List Message
all_read_with_padding [] = []
all_read_with_padding (m ∷ ms) = read_with_padding m ++ all_read_with_padding ms

-- Our records of three bytes as they go to a receiver that must not take 00 for a message: the third byte of kinds C and D is dropped.
abbrev pub unpadded : List ℕ → List ℕ
unpadded [] = []
unpadded (a ∷ []) = a ∷ []
unpadded (a ∷ b ∷ []) = a ∷ b ∷ []
unpadded (a ∷ b ∷ c ∷ rest) = cond (has_one (a / 16)) (a ∷ b ∷ []) (a ∷ b ∷ c ∷ []) ++ unpadded rest

-- Messages that a reader finds as they are, with nothing dropped: valid ones, none of kind C or D. All that a tuner sends by itself is such.
pub record Plain (ms : List Message) : Type 0 where
  pub valid : AllValid ms
  pub read_as_is : all_read_with_padding ms ≡ ms

-- The bytes of one message as a reader finds them: the message, the padding dropped, and with the padding what `read_with_padding` says.
pub record ReadAs (st : State) (m : Message) (bs : List ℕ) : Type 0 where
  pub unpadded_is : read st (unpadded bs) ≡ m ∷ []
  pub padded_is : read st bs ≡ read_with_padding m
