-- What holds of a pool model however it is played is said over its calls, in any order: where each channel of a pool stands, SPEC 7.8.
use Rattle.std.specs.Prelude.{◌≡◌, ℕ, suc, ◌+◌, ◌<◌, cond, List, [], ◌∷◌, eqb, ℤ, Float}
use Rattle.std.proofs.Math.Option.{Option, some, none}
use Rattle.channels.specs.Outcome.{value}
use Rattle.channels.specs.Places.{Place}
use Rattle.pools.specs.Pool.{key_count, Pool, State, open_rule, found, released, rejected, register_rule, outcome_and_state, stopped}
use Rattle.pools.specs.View.{register_note_rule}
use Rattle.pools.specs.declared.settings.PoolGroupBy.{PoolGroupBy}
use Rattle.pools.specs.declared.settings.PoolingMode.{PoolingMode}
use Rattle.pools.specs.declared.settings.Retrigger.{Retrigger}

-- A call, with any key that there is and any f64; presses and repitches may be refused, presses rejected. A press may also be for any note and detuning
-- (SPEC 7.2a).
pub data Call : Type 0 where
  press : (key : ℕ) → key < key_count → (hz : Float) → Call
  release : (key : ℕ) → Call
  lookup : (key : ℕ) → Call
  repitch : (key : ℕ) → (hz : Float) → Call
  press_note : (key : ℕ) → key < key_count → (note : ℤ) (detuning : Float) → Call
  stop : Call

unfoldable pub step : State → Call → State
step s (press key h hz) = (outcome_and_state s (register_rule s key hz)).1
step s (release key) = released s key
step s (lookup key) = s
step s (repitch key hz) = s
step s (press_note key h note detuning) = (outcome_and_state s (register_note_rule s key note detuning)).1
step s stop = stopped s

unfoldable pub run : State → List Call → State
run s [] = s
run s (c ∷ cs) = run (step s c) cs

-- The model that any calls have led to, from one that was opened.
abbrev pub reached : List ℕ → PoolGroupBy → PoolingMode → Retrigger → List Call → State
reached channels group mode retrigger calls = run (open_rule channels group mode retrigger).1 calls

-- SPEC 7.2d, 7.3d: the press is rejected, and the state is that of the release that it began with.
abbrev pub Rejects : State → (key : ℕ) (hz : Float) → Type 0
Rejects s key hz = register_rule s key hz ≡ value (record { released = found s key; press = rejected }, released s key)

-- ---- SPEC 7.8: where the channels of a pool stand

-- How often a number stands in a list.
unfoldable pub times : ℕ → List ℕ → ℕ
times n [] = 0
times n (x ∷ l) = let rest = times n l in cond (eqb x n) (suc rest) rest

-- The channel of a key that is found.
unfoldable pub channel_at : Option Place → List ℕ
channel_at (some p) = p.channel ∷ []
channel_at none = []

-- How many keys of a list are found on a channel.
unfoldable pub keys_on : State → ℕ → List ℕ → ℕ
keys_on s channel [] = 0
keys_on s channel (key ∷ keys) = times channel (channel_at (found s key)) + keys_on s channel keys

-- SPEC 7.8: how often a channel stands in a pool, free, or with a key that has not lost it.
unfoldable pub occurrences : State → Pool → ℕ → ℕ
occurrences s p channel = times channel p.free + keys_on s channel p.order
