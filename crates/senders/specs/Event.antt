-- Events of a pool tuner as data, SPEC 9.8: each is the press, release or repitch that it names.
use Rattle.std.specs.Prelude.{ℕ, ◌≤◌, ◌≡◌, Float, length}
use Rattle.channels.specs.Outcome.{Outcome, value, refused}
use Rattle.senders.specs.Buffer.{Effect, WriteOutcome}
use Rattle.senders.specs.Jit.{Tuner, PressResult, press_sent, press_rejected, note_on_rule, note_off_rule, note_pitch_rule}
use Rattle.senders.specs.declared.event.Event.{Event}
use Rattle.senders.specs.declared.event.EventKind.{EventKind}
use Rattle.senders.specs.declared.event.EventKind.TheVariants.{Press, Release, Repitch}

-- A call that answers how many bytes it sent, in the words of a press.
abbrev pub as_press : Outcome (Effect ℕ Tuner) → Outcome (Effect PressResult Tuner)
as_press (value e) = value (record { result = press_sent e.result; bytes = e.bytes; next = e.next })
as_press (refused n) = refused n

-- The same of a call that leaves the tuner as it is.
abbrev pub with_same_tuner : Tuner → WriteOutcome → Outcome (Effect PressResult Tuner)
with_same_tuner t (value e) = value (record { result = press_sent e.result; bytes = e.bytes; next = t })
with_same_tuner t (refused n) = refused n

-- SPEC 9.8: the call of an event of a kind.
abbrev pub call_rule : EventKind → Tuner → ℕ → Float → ℕ → Outcome (Effect PressResult Tuner)
call_rule Press t key hz velocity = note_on_rule t key hz velocity
call_rule Release t key hz velocity = as_press (note_off_rule t key velocity)
call_rule Repitch t key hz velocity = with_same_tuner t (note_pitch_rule t key hz)

abbrev pub play_rule : Tuner → Event → Outcome (Effect PressResult Tuner)
play_rule t e = call_rule e.kind t e.key e.pitch.hz e.velocity

-- ---- SPEC 9.1b: how many bytes an event needs

-- How many bytes a press sent.
abbrev pub count : PressResult → ℕ
count (press_sent n) = n
count (press_rejected n) = n

-- An accepted call answers how many bytes it sends, and these are no more than 21: a note-off of the key released first, one of a stopped note, four messages
-- of a fine tuning and a note-on.
abbrev pub Counts : {R S : Type 0} → (R → ℕ) → Outcome (Effect R S) → Type 0
Counts of_result (value e) = (of_result e.result ≡ length e.bytes) × (length e.bytes ≤ 21)
Counts of_result (refused n) = Unit {0}
