-- What the private functions of a pool model yield. No public contract cites it.
use Rattle.std.specs.Prelude.{ℕ, ℤ, Float, Some, None}
use Rattle.std.specs.Prelude.{Option as Optional}
use Rattle.std.proofs.Math.Option.{Option, some, none}
use Rattle.channels.specs.Places.{Place}
use Rattle.channels.specs.declared.channel.Channel.{Channel}
use Rattle.arithmetic.specs.Refusal.{key_held}
use Rattle.arithmetic.specs.Outcome.{Outcome, value, refuse◌unless◌then◌}
use Rattle.pools.specs.Pool.{State, Held, Press, accepted, rejected, taken, freed, without_key, found, released, may_press}
use Rattle.pools.specs.declared.jit.allocation.Allocation.{Allocation}
use Rattle.pools.specs.declared.jit.allocation.Allocation.TheVariants.{Free, Stopped, Ignored}
use Rattle.pools.specs.declared.jit.allocation.Holder.{Holder}

-- ---- a key on its channel

abbrev pub held_place : Holder → Place
held_place h = record { channel = h.channel.number; note = h.note.number }

unfoldable pub held_by : Optional Holder → Option Held
held_by (Some h) = some (record { key = h.key; place = held_place h })
held_by None = none

-- SPEC 7.2d: the release that a press begins with.
abbrev pub release_rule : State → ℕ → Outcome (Option Place × State)
release_rule s key = refuse key_held unless may_press s key then value (found s key, released s key)

-- ---- SPEC 7.3: the channel for a press of a key that is not held, a free one, or that of the longest-held key, which is released or stays held

abbrev pub allocated_channel : Allocation → Channel
allocated_channel (Free c) = c
allocated_channel (Stopped h) = h.channel
allocated_channel (Ignored h) = h.channel

-- The state in which the channel is free.
abbrev pub with_channel_free : State → Allocation → State
with_channel_free s (Free c) = s
with_channel_free s (Stopped h) = without_key (freed s h.key (held_place h)) h.key
with_channel_free s (Ignored h) = freed s h.key (held_place h)

-- ---- the press that gets the channel, if there is one

abbrev pub press_of : Optional Allocation → ℤ → Float → Press
press_of (Some (Free c)) note d = accepted c.number none note d
press_of (Some (Stopped h)) note d = accepted h.channel.number (some h.note.number) note d
press_of (Some (Ignored h)) note d = accepted h.channel.number none note d
press_of None note d = rejected

abbrev pub committed : State → ℕ → ℤ → Optional Allocation → State
committed s key note (Some a) = taken (with_channel_free s a) key note (allocated_channel a).number
committed s key note None = s

abbrev pub press_and_state : State → ℕ → ℤ → Float → Optional Allocation → Press × State
press_and_state s key note d a = (press_of a note d, committed s key note a)
