-- What presses and releases keep, every call keeps, refused ones and presses for any note included.
use Prim.Native.Nat.{ℕ, ◌<◌}
use mathlib.Core.Path.{◌≡◌}
use mathlib.Core.Bool.{Bool, true, false}
use mathlib.Core.List.{List, [], ◌∷◌}
use mathlib.Core.Option.{none}
use lib.IntN.{ℤ}
use lib.Ieee.{Float}
use Rattle.arithmetic.specs.Outcome.{value, refuse◌unless◌then◌}
use Rattle.arithmetic.specs.Note.{is_note}
use Rattle.arithmetic.specs.Pitch.{is_pitch, detuning_of}
use Rattle.arithmetic.specs.Nearest.{nearest_note}
use Rattle.pools.specs.Pool.{key_count, State, Held, found, released, released_all, stopped, pressed, repeated, may_press, unless_held, register_rule, outcome_and_state}
use Rattle.pools.specs.View.{register_note_rule}
use Rattle.theorems.specs.PoolCalls.{Call, press, release, lookup, repitch, press_note, stop, step, run}
use Rattle.theorems.proofs.Pools.Changes.{released_gone}

module _ (P : State → Type 0)
    (pressed_kept : (s : State) → P s → (key : ℕ) → key < key_count → found s key ≡ none → (note : ℤ) (d : Float) → P (pressed s key note d).1)
    (released_kept : (s : State) → P s → (key : ℕ) → P (released s key)) where
  -- A press is refused n by its test, or 11 where the key may not be pressed again, and else made: in the state that the release left the key is not found.
  press_kept : (n : ℕ) (s : State) → P s → (key : ℕ) → key < key_count → (note : ℤ) (d : Float) (test may : Bool)
      → P (outcome_and_state s (refuse n unless test then refuse 11 unless may then value (repeated s key note d))).1
  unfolding outcome_and_state repeated
  press_kept n s h key small note d false may = h
  press_kept n s h key small note d true false = h
  press_kept n s h key small note d true true = pressed_kept (released s key) (released_kept s h key) key small (released_gone s key) note d

  all_kept : (s : State) → P s → (hs : List Held) → P (released_all s hs)
  unfolding released_all
  all_kept s h [] = h
  all_kept s h (x ∷ hs) = all_kept (released s x.key) (released_kept s h x.key) hs

  pub step_kept : (s : State) → P s → (c : Call) → P (step s c)
  unfolding step stopped register_rule register_note_rule unless_held
  step_kept s h (press key small hz) = press_kept 1 s h key small (nearest_note hz) (detuning_of hz (nearest_note hz)) (is_pitch hz) (may_press s key)
  step_kept s h (release key) = released_kept s h key
  step_kept s h (lookup key) = h
  step_kept s h (repitch key hz) = h
  step_kept s h (press_note key small note d) = press_kept 4 s h key small note d (is_note note) (may_press s key)
  step_kept s h stop = all_kept s h _

  pub run_kept : (s : State) → P s → (cs : List Call) → P (run s cs)
  unfolding run
  run_kept s h [] = h
  run_kept s h (c ∷ cs) = run_kept (step s c) (step_kept s h c) cs
