-- Calls of a pool tuner one after the other, SPEC 9.2, each with a buffer of some length. The calls that are left out, `note_pitch`, `note_attr`,
-- `global_attr` and the lookup, change no tuner.
use Rattle.std.specs.Prelude.{List, [], ◌∷◌, ℕ, ◌<◌, Float}
use Rattle.pools.specs.Pool.{key_count}
use Rattle.theorems.specs.PoolCalls.{Call as Pool-as-Call, step as Pool·step}
use Rattle.senders.specs.Buffer.{check_room, state_after}
use Rattle.channels.specs.declared.tuning_value.TuningKind.{TuningKind}
use Rattle.pools.specs.declared.settings.PoolingMode.{PoolingMode}
use Rattle.pools.specs.declared.settings.Retrigger.{Retrigger}
use Rattle.senders.specs.Event.{play_rule}
use Rattle.senders.specs.declared.event.Event.{Event}
use Rattle.senders.specs.Jit.{Tuner, PressResult, press_sent, press_rejected, with_pool, start_rule, note_on_rule, note_off_rule, stop_rule}

-- Any key that there is, any f64, any velocity and any room may be passed: calls may be refused, and presses rejected. Any call of the pool model may be
-- made too, on the tuner's own model.
pub data Call : Type 0 where
  note_on : (key : ℕ) → key < key_count → (hz : Float) → (velocity room : ℕ) → Call
  note_off : (key velocity room : ℕ) → Call
  on_pool : (c : Pool-as-Call) → Call
  stop : (room : ℕ) → Call
  play : (e : Event) → e.key < key_count → (room : ℕ) → Call

unfoldable pub step : Tuner → Call → Tuner
step t (note_on key h hz velocity room) = state_after t (check_room room (note_on_rule t key hz velocity))
step t (note_off key velocity room) = state_after t (check_room room (note_off_rule t key velocity))
step t (on_pool c) = with_pool t (Pool·step t.pool c)
step t (stop room) = state_after t (check_room room (stop_rule t))
step t (play e h room) = state_after t (check_room room (play_rule t e))

unfoldable pub run : Tuner → List Call → Tuner
run t [] = t
run t (c ∷ cs) = run (step t c) cs

-- The tuner that any calls have led to, from one that was started.
abbrev pub reached : List ℕ → TuningKind → PoolingMode → Retrigger → List Call → Tuner
reached channels kind mode retrigger calls = run (start_rule channels kind mode retrigger).1 calls

-- The same answer of a press, with another count of bytes.
abbrev pub with_count : PressResult → ℕ → PressResult
with_count (press_sent n) count = press_sent count
with_count (press_rejected n) count = press_rejected count
