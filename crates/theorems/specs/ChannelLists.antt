-- The channels of models and tuners.
use Rattle.std.specs.Prelude.{List, ℕ, ◌<◌, length, get_or}
use Rattle.channels.specs.Lists.{Distinct}

-- SPEC 1.6: MIDI channels, each of which stands once.
abbrev pub DistinctChannels : List ℕ → Type 0
DistinctChannels channels = Distinct channels × ((i : ℕ) → i < length channels → get_or channels i 0 < 16)
