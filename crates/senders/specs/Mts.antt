-- The messages that tune a channel, a fine tuning or a bend (SPEC 8.3), and the rule of a detuning that a caller passes (SPEC 8.5).
use Rattle.std.specs.Prelude.{List, [], ◌∷◌, ℕ, ◌/◌, ◌%◌, pos, Float, length}
use Rattle.channels.specs.Outcome.{Outcome, value, refused, refuse◌unless◌then◌}
use Rattle.channels.specs.Refusal.{channel_over15}
use Rattle.channels.specs.TuningValue.{tuning_of, tuning_rule}
use Rattle.channels.specs.declared.tuning_value.TuningKind.{TuningKind}
use Rattle.senders.specs.Buffer.{WriteOutcome, sent}
use Rattle.senders.specs.Message.{Message, control, bend, is_channel}
use Rattle.senders.specs.Midi.{bytes_of}
use Rattle.channels.specs.declared.tuning_value.Tuning.{Tuning}
use Rattle.channels.specs.declared.tuning_value.Tuning.TheVariants.{Fine, Bend}

-- SPEC 8.3, 8.3a: a fine value is sent by four controllers, a bend value by a bend.
abbrev pub tuning_messages : ℕ → Tuning → List Message
tuning_messages ch (Fine v) = control ch 0x65 0x00 ∷ control ch 0x64 0x01 ∷ control ch 0x06 (v / 128) ∷ control ch 0x26 (v % 128) ∷ []
tuning_messages ch (Bend b) = bend ch b ∷ []

-- How many bytes a tuning of a kind takes, whatever its channel and value: here those of the measure 0.
unfoldable pub tuning_size : TuningKind → ℕ
tuning_size kind = length (bytes_of (tuning_messages 0 (tuning_of kind (pos 0))))

-- ---- SPEC 8.5: a detuning passed for a message, refused by 6, 2 and 10, which is added where a contract cites it

-- The bytes of a tuning that is not refused.
abbrev pub tuning_bytes : ℕ → Outcome Tuning → Outcome (List ℕ)
tuning_bytes ch (value t) = value (bytes_of (tuning_messages ch t))
tuning_bytes ch (refused n) = refused n

abbrev pub tuning_sent : ℕ → Outcome Tuning → WriteOutcome
tuning_sent ch (value t) = sent (bytes_of (tuning_messages ch t))
tuning_sent ch (refused n) = refused n

abbrev pub channel_tuning_rule : TuningKind → ℕ → Float → WriteOutcome
channel_tuning_rule kind ch v = refuse channel_over15 unless is_channel ch then tuning_sent ch (tuning_rule kind v)
