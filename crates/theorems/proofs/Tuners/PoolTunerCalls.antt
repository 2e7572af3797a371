-- A pool tuner after any calls, refused ones included: its model is one that calls of a pool model have led to, so the invariant of pools holds of it, and
-- every channel that it sends on is an entry of its list.
use mathlib.Core.Path.{◌≡◌, refl, sym, ap, subst, ◌∙◌}
use mathlib.Core.Bool.{Bool, true, false, cond}
use mathlib.Core.Option.{Option, some}
use mathlib.Core.List.{List, [], ◌∷◌}
use Prim.Native.Nat.{ℕ, zero, suc, ◌<◌}
use native.Mathlib.Omega.{arith}
use lib.Dec.{ltb, leb}
use lib.IntN.{ℤ}
use lib.Ieee.{Float}
use lib.ListN.{length, get_elem?}
use Rattle.channels.specs.Outcome.{Outcome, value, refused}
use Rattle.channels.specs.ChannelList.{list_rule, present}
use Rattle.channels.specs.Places.{Place}
use Rattle.pools.specs.Pool.{key_count, State, Pressing, accepted, found, register_rule, outcome_and_state}
use Rattle.theorems.specs.PoolCalls as PoolCalls
use Rattle.channels.specs.declared.tuning_value.TuningKind.{TuningKind}
use Rattle.pools.specs.declared.settings.PoolingMode.{PoolingMode}
use Rattle.pools.specs.declared.settings.Retrigger.{Retrigger}
use Rattle.pools.specs.declared.settings.PoolGroupBy.TheVariants.{Channel}
use Rattle.theorems.specs.PoolInvariant.{Ok}
use Rattle.theorems.proofs.Pools.Invariant.{reached_ok as pool_reached_ok}
use Rattle.theorems.proofs.Pools.Answers.{accepted_channel}
use Rattle.theorems.proofs.Pools.Settings.{channels_kept, retrigger_kept}
use Rattle.senders.specs.Buffer.{Effect, WriteOutcome, check_room, state_after}
use Rattle.senders.specs.Jit.{Tuner, press_effect, note_on_rule, note_off_rule, note_pitch_rule, stop_rule, start_rule}
use Rattle.senders.specs.Event.{as_press, with_same_tuner, call_rule, play_rule}
use Rattle.senders.specs.declared.event.EventKind.{EventKind}
use Rattle.senders.specs.declared.event.EventKind.TheVariants.{Press as PressKind, Release, Repitch}
use Rattle.theorems.specs.PoolTunerCalls.{Call, note_on, note_off, on_pool, stop, play, step, run, reached}

-- ---- a call of a tuner is a call of its model, or none

data Moves (s u : State) : Type 0 where
  stays : u ≡ s → Moves s u
  moves : (c : PoolCalls.Call) → u ≡ PoolCalls.step s c → Moves s u

-- Want of room leaves the tuner as it was.
check_room_moves :
    {R : Type 0} (t : Tuner) (room : ℕ) (o : Outcome (Effect R Tuner)) → Moves t.pool (state_after t o).pool
    → Moves t.pool (state_after t (check_room room o)).pool
check_room_moves t room (value e) m = by (leb (length e.bytes) room)
  where
    by : (b : Bool) → Moves t.pool (state_after t (cond b (value e) (refused 10))).pool
    by true = m
    by false = stays refl
check_room_moves t room (refused n) m = m

-- And so does a test that fails.
tested_moves :
    {R : Type 0} (t : Tuner) (n : ℕ) (b : Bool) (o : Outcome (Effect R Tuner)) → Moves t.pool (state_after t o).pool
    → Moves t.pool (state_after t (cond b o (refused n))).pool
tested_moves t n true o m = m
tested_moves t n false o m = stays refl

press_moves :
    (t : Tuner) (v key : ℕ) (small : key < key_count) (hz : Float) (o : Outcome (Pressing × State)) → register_rule t.pool key hz ≡ o
    → Moves t.pool (state_after t (press_effect t v o)).pool
unfolding PoolCalls.step outcome_and_state
press_moves t v key small hz (value r) e =
    moves (PoolCalls.press key small hz) (sym (ap (λ (o : Outcome (Pressing × State)). (outcome_and_state t.pool o).1) e))
press_moves t v key small hz (refused n) e = stays refl

note_on_moves : (t : Tuner) (key : ℕ) → key < key_count → (hz : Float) (v : ℕ) → Moves t.pool (state_after t (note_on_rule t key hz v)).pool
note_on_moves t key small hz v =
    tested_moves t 8 (ltb v 128) (press_effect t v (register_rule t.pool key hz)) (press_moves t v key small hz (register_rule t.pool key hz) refl)

note_off_moves : (t : Tuner) (key v : ℕ) → Moves t.pool (state_after t (note_off_rule t key v)).pool
unfolding PoolCalls.step
note_off_moves t key v = tested_moves t 8 (ltb v 128) _ (moves (PoolCalls.release key) refl)

sounding_moves : (t : Tuner) (o : Outcome (Effect ℕ Tuner)) → Moves t.pool (state_after t o).pool → Moves t.pool (state_after t (as_press o)).pool
sounding_moves t (value e) m = m
sounding_moves t (refused n) m = m

keeping_moves : (t : Tuner) (o : WriteOutcome) → Moves t.pool (state_after t (with_same_tuner t o)).pool
keeping_moves t (value e) = stays refl
keeping_moves t (refused n) = stays refl

call_moves : (k : EventKind) (t : Tuner) (key : ℕ) → key < key_count → (hz : Float) (v : ℕ)
    → Moves t.pool (state_after t (call_rule k t key hz v)).pool
call_moves PressKind t key small hz v = note_on_moves t key small hz v
call_moves Release t key small hz v = sounding_moves t (note_off_rule t key v) (note_off_moves t key v)
call_moves Repitch t key small hz v = keeping_moves t (note_pitch_rule t key hz)

step_moves : (t : Tuner) (c : Call) → Moves t.pool (step t c).pool
unfolding step PoolCalls.step
step_moves t (note_on key small hz v room) = check_room_moves t room (note_on_rule t key hz v) (note_on_moves t key small hz v)
step_moves t (note_off key v room) = check_room_moves t room (note_off_rule t key v) (note_off_moves t key v)
step_moves t (on_pool c) = moves c refl
step_moves t (stop room) = check_room_moves t room (stop_rule t) (moves PoolCalls.stop refl)
step_moves t (play e small room) = check_room_moves t room (play_rule t e) (call_moves e.kind t e.key small e.pitch.hz e.velocity)

pub run_pool : (t : Tuner) (cs : List Call) → (ps : List PoolCalls.Call) × ((run t cs).pool ≡ PoolCalls.run t.pool ps)
unfolding run PoolCalls.run
run_pool t [] = ([], refl)
run_pool t (c ∷ cs) =
    let rest = run_pool (step t c) cs in
    elim (step_moves t c) [
      | stays e ↦ (rest.0, rest.1 ∙ ap (λ (s : State). PoolCalls.run s rest.0) e)
      | moves d e ↦ (d ∷ rest.0, rest.1 ∙ ap (λ (s : State). PoolCalls.run s rest.0) e)
    ]

-- ---- the theorems

-- A list that is long enough has the entry.
pub entry_of_length : (l : List ℕ) (i : ℕ) → i < length l → (ch : ℕ) × (get_elem? l i ≡ some ch)
entry_of_length [] i h = absurd (omega arith)
entry_of_length (x ∷ l) zero h = (x, refl)
entry_of_length (x ∷ l) (suc i) h = entry_of_length l i (omega arith)

module _ (channels : List ℕ) (kind : TuningKind) (mode : PoolingMode) (retrigger : Retrigger) (calls : List Call) where
  abbrev pool : State
  pool = (reached channels kind mode retrigger calls).pool

  -- The tuner's model is one that calls of a pool model have led to.
  pub reached_pool : (ps : List PoolCalls.Call) × (pool ≡ PoolCalls.reached channels Channel mode retrigger ps)
  reached_pool = run_pool (start_rule channels kind mode retrigger).1 calls

  -- The invariant of pools holds.
  pub reached_ok : Ok (length (present (list_rule channels))) pool
  reached_ok = let p = reached_pool in subst (Ok (length (present (list_rule channels)))) (sym p.1) (pool_reached_ok channels Channel mode retrigger p.0)

  -- The channels are those of the list that it was started with.
  pub reached_channels : pool.channels ≡ present (list_rule channels)
  reached_channels = let p = reached_pool in ap (λ (s : State). s.channels) p.1 ∙ channels_kept channels Channel mode retrigger p.0

  -- And so is the retrigger setting.
  pub reached_retrigger : pool.retrigger ≡ retrigger
  reached_retrigger = let p = reached_pool in ap (λ (s : State). s.retrigger) p.1 ∙ retrigger_kept channels Channel mode retrigger p.0

  -- A found key's channel is an entry of the list: no release, pressure, repitch or stop meets a channel past it.
  pub found_entry : (key : ℕ) (p : Place) → found pool key ≡ some p → (ch : ℕ) × (get_elem? pool.channels p.channel ≡ some ch)
  found_entry key p e =
      let ok = reached_ok in
      entry_of_length pool.channels p.channel (omega (arith, ok.low key p e, ok.channels))

  -- Nor does a press.
  pub pressed_entry :
      (key : ℕ) (hz : Float) {r : Pressing × State} {i : ℕ} {stopped : Option ℤ} {note : ℤ} {d : Float}
      → register_rule pool key hz ≡ value r → r.0.press ≡ accepted i stopped note d → (ch : ℕ) × (get_elem? pool.channels i ≡ some ch)
  pressed_entry key hz {r} {i} e a =
      let p = reached_pool in
      let f = subst (λ (s : State). register_rule s key hz ≡ value r) p.1 e in
      let small = accepted_channel channels Channel mode retrigger p.0 key hz f a in
      entry_of_length pool.channels i (subst (λ (s : State). i < length s.channels) (sym p.1) small)
