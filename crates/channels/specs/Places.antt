-- Where a key is found (SPEC 6.5, 7.2): a channel and a note, and both in one number, the key's record.
use Rattle.std.specs.Prelude.{ℕ, ◌+◌, ◌*◌, ◌/◌, ◌%◌, Bool, true, false, cond, ℤ, pos, nat_abs, ◌+ℤ◌, ◌-ℤ◌, Some, None}
use Rattle.std.specs.Prelude.{Option as Optional}
use Rattle.std.proofs.Math.Option.{Option, some, none}
use Rattle.arithmetic.specs.Note.{is_note}
use Rattle.channels.specs.declared.keys.Place as C

-- The channel, counted from 0 in the channel list (SPEC 1.6a), and the note of a key that is found.
pub record Place : Type 0 where
  pub channel : ℕ
  pub note : ℤ

unfoldable pub is_held : Option Place → Bool
is_held (some p) = true
is_held none = false

-- ---- records, SPEC 12.1: any number is read as some record

-- A record is 0, or note + 301 + 1024 * channel.
unfoldable pub note_of : ℕ → ℤ
note_of raw = pos (raw % 1024) -ℤ pos 301

abbrev pub channel_of : ℕ → ℕ
channel_of n = n % 16

unfoldable pub place_of : ℕ → Option Place
place_of raw = cond (is_note (note_of raw)) (some (record { channel = channel_of (raw / 1024); note = note_of raw })) none

-- The record of a key that sounds a note on a channel, which is 0 where the number is no note.
unfoldable pub record_of : ℤ → ℕ → ℕ
record_of note channel = cond (is_note note) (nat_abs (note +ℤ pos 301) + 1024 * channel_of channel) 0

-- ---- the code's answer in these words

abbrev pub place_in : C.Place → Place
place_in p = record { channel = p.channel; note = p.note.number }

unfoldable pub place : Optional C.Place → Option Place
place (Some p) = some (place_in p)
place None = none
