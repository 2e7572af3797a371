-- Channel messages, SPEC 8.1, as the MIDI 1.0 Detailed Specification 4.2.1 has them.
use Rattle.std.specs.Prelude.{◌≡◌, Bool, true, ◌&&◌, List, [], ◌∷◌, ℕ, ◌<◌, ltb, ℤ, pos, negsuc}
use Rattle.std.specs.Int.Signed.{le_z}

-- The channel comes first, and then the data; a bend is counted from its centre.
pub data Message : Type 0 where
  note_off : (channel key velocity : ℕ) → Message
  note_on : (channel key velocity : ℕ) → Message
  key_pressure : (channel key pressure : ℕ) → Message
  control : (channel controller value : ℕ) → Message
  program : (channel program : ℕ) → Message
  channel_pressure : (channel pressure : ℕ) → Message
  bend : (channel : ℕ) (value : ℤ) → Message

abbrev pub is_channel : ℕ → Bool
is_channel ch = ltb ch 16

-- SPEC 8.1: a data byte has 7 bits.
abbrev pub is_data : ℕ → Bool
is_data b = ltb b 128

-- SPEC 8.2: a bend has 14 bits around its centre, -8192 to 8191.
abbrev pub is_bend : ℤ → Bool
is_bend b = le_z (negsuc 8191) b && le_z b (pos 8191)

-- The messages that there are.
abbrev pub Valid : Message → Type 0
Valid (note_off ch k v) = (ch < 16) × (k < 128) × (v < 128)
Valid (note_on ch k v) = (ch < 16) × (k < 128) × (v < 128)
Valid (key_pressure ch k p) = (ch < 16) × (k < 128) × (p < 128)
Valid (control ch n v) = (ch < 16) × (n < 128) × (v < 128)
Valid (program ch p) = (ch < 16) × (p < 128)
Valid (channel_pressure ch p) = (ch < 16) × (p < 128)
Valid (bend ch b) = (ch < 16) × (is_bend b ≡ true)

abbrev pub AllValid : List Message → Type 0
AllValid [] = Unit {0}
AllValid (m ∷ ms) = Valid m × AllValid ms
