-- A MIDI channel is a number up to 15, SPEC 1.6.
use Rattle.std.specs.Prelude.{ℕ, leb}
use Rattle.arithmetic.specs.Refusal.{channel_over15}
use Rattle.channels.specs.Outcome.{Outcome, value, refuse◌unless◌then◌}

-- SPEC 1.6: the channel of a number is the number; one over 15 is refused (6).
unfoldable pub channel_rule : ℕ → Outcome ℕ
channel_rule n = refuse channel_over15 unless leb n 15 then value n
