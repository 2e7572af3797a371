-- The channel list with which a tuner or a model is opened, SPEC 1.6: it is refused by 6 or 7, entry by entry. Channel i of a plan or a pool is entry i, and
-- the channels present are the entries.
use Rattle.std.specs.Prelude.{◌≡◌, ◌≤◌, ℕ, false, not, List, [], ◌∷◌, ◌++◌, map, take, min, leb, Some, None}
use Rattle.std.specs.Prelude.{Option as Optional}
use Rattle.std.proofs.Math.Option.{Option, some, none}
use Rattle.arithmetic.specs.Refusal.{channel_over15, channel_twice}
use Rattle.arithmetic.specs.Outcome.{Outcome, value, refused, refuse◌unless◌then◌}
use Rattle.channels.specs.Lists.{member}
use Rattle.channels.specs.FirstRefusal.{one_by_one}
use Rattle.channels.specs.Places.{channel_of}
use Rattle.channels.specs.declared.list.ChannelList.{ChannelList}
use Rattle.channels.specs.declared.channel.Channel.{Channel}

-- SPEC 1.6: no MIDI channel is over 15 (6), and none comes twice (7). `before` are the entries before.
unfoldable pub entry_rule : List ℕ → ℕ → Outcome ℕ
entry_rule before c =
    refuse channel_over15 unless leb c 15 then
    refuse channel_twice unless not (member c before) then
    value c

-- SPEC 1.6, 2.2: the entries of a list, if none is refused.
unfoldable pub list_rule : List ℕ → Outcome (List ℕ)
list_rule cs = one_by_one entry_rule [] cs

-- What a listed list is: each entry is a MIDI channel, and none is among `before` or comes twice.
abbrev pub Channels : List ℕ → List ℕ → Type 0
Channels before [] = Unit {0}
Channels before (c ∷ cs) = (c ≤ 15) × (member c before ≡ false) × Channels (before ++ (c ∷ [])) cs

-- SPEC 1.6a, 6.2a: the channels present; a model or tuner that is opened with a refused list has none.
abbrev pub present : Outcome (List ℕ) → List ℕ
present (value cs) = cs
present (refused n) = []

-- SPEC 12.1: the entries as they are stored are the first places, at most sixteen, each read as a MIDI channel.
unfoldable pub entries : ChannelList → List ℕ
entries l = map channel_of (take (min l.count 16) l.channels)

-- The code's answer in these words: the channel's number, if there is one.
abbrev pub entry_number : Optional Channel → Option ℕ
entry_number (Some c) = some c.number
entry_number None = none
