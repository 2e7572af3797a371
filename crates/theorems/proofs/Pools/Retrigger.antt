-- Presses of held keys, SPEC 7.2d: without retrigger they are refused; with it a press is the release of its key, and then the press's own rule.
use Prim.Native.Nat.{ℕ}
use mathlib.Core.Path.{◌≡◌, refl, sym, ap, ◌∙◌}
use mathlib.Core.Bool.{Bool, true, false, not, ◌||◌, false≢true}
use mathlib.Core.Logic.{inl, inr}
use mathlib.Core.Option.{Option, some, none}
use lib.IntN.{ℤ}
use lib.Ieee.{Float}
use Rattle.arithmetic.specs.Outcome.{Outcome, value, refused, refuse◌unless◌then◌}
use Rattle.arithmetic.specs.Refusal.{pitch_out_of_range, key_held}
use Rattle.arithmetic.specs.Pitch.{is_pitch, detuning_of}
use Rattle.arithmetic.specs.Nearest.{nearest_note}
use Rattle.channels.specs.Places.{Place, is_held}
use Rattle.pools.specs.declared.settings.Retrigger.{Retrigger}
use Rattle.pools.specs.declared.settings.Retrigger.TheVariants.{Off, On}
use Rattle.pools.specs.Pool.{State, Pressing, found, released, pressed, is_on, may_press, repeated, unless_held, register_rule}
use Rattle.pools.proofs.Pools.Presses.{unless_held_new}
use Rattle.theorems.proofs.Pools.Answers.{register_pressed}
use Rattle.theorems.proofs.Pools.Changes.{released_gone}
use Rattle.theorems.proofs.Pools.Refusals.{register_refuses}

module _ (s : State) (key : ℕ) where
  may_by : {r : Retrigger} → s.retrigger ≡ r → may_press s key ≡ (is_on r || not (is_held (found s key)))
  unfolding may_press
  may_by is = ap (λ (q : Retrigger). is_on q || not (is_held (found s key))) is

  -- With retrigger every key may be pressed, held or not.
  pub on_may : s.retrigger ≡ On → may_press s key ≡ true
  unfolding is_on
  on_may on = may_by on

  -- Without it, the keys that are not held.
  pub off_may : s.retrigger ≡ Off → may_press s key ≡ not (is_held (found s key))
  unfolding is_on
  off_may off = may_by off

  -- So a key that may not be pressed says that retrigger is off.
  pub not_may_off : may_press s key ≡ false → s.retrigger ≡ Off
  not_may_off not_may = by s.retrigger refl
    where
      by : (r : Retrigger) → s.retrigger ≡ r → s.retrigger ≡ Off
      by Off e = e
      by On e = absurd (false≢true (sym not_may ∙ on_may e))

-- ---- without retrigger

module _ (s : State) (key : ℕ) (off : s.retrigger ≡ Off) where
  -- A press of a key that is not held is made, with nothing released.
  abbrev base : ℤ → Float → Outcome (Pressing × State)
  base note d = let r = pressed s key note d in value (record { released = none; press = r.0 }, r.1)

  off_unless_held : (note : ℤ) (d : Float) → unless_held s key note d ≡ (refuse key_held unless not (is_held (found s key)) then base note d)
  unfolding unless_held is_held
  off_unless_held note d = by (found s key) refl
    where
      by : (o : Option Place) → found s key ≡ o → unless_held s key note d ≡ (refuse key_held unless not (is_held (found s key)) then base note d)
      by (some p) e =
          let held : not (is_held (found s key)) ≡ false = ap (λ (o : Option Place). not (is_held o)) e in
          ap (λ (b : Bool). refuse key_held unless b then value (repeated s key note d)) (off_may s key off ∙ held)
          ∙ sym (ap (λ (b : Bool). refuse key_held unless b then base note d) held)
      by none e =
          let new : not (is_held (found s key)) ≡ true = ap (λ (o : Option Place). not (is_held o)) e in
          unless_held_new s key note d e ∙ sym (ap (λ (b : Bool). refuse key_held unless b then base note d) new)

  -- A press is refused 1, then 11 where the key is held, and else made, with nothing released.
  pub off_is_base : (hz : Float)
      → let note = nearest_note hz in
      let r = pressed s key note (detuning_of hz note) in
      register_rule s key hz
      ≡ (refuse pitch_out_of_range unless is_pitch hz then
      refuse key_held unless not (is_held (found s key)) then value (record { released = none; press = r.0 }, r.1))
  unfolding register_rule
  off_is_base hz =
      ap (λ (o : Outcome (Pressing × State)). refuse pitch_out_of_range unless is_pitch hz then o)
      (off_unless_held (nearest_note hz) (detuning_of hz (nearest_note hz)))

-- ---- with retrigger

module _ (s : State) (key : ℕ) (hz : Float) (on : s.retrigger ≡ On) where
  -- A press is the release of its key, and then the press of the state that this left, where the key is not held.
  pub composes : is_pitch hz ≡ true
      → let note = nearest_note hz in
      let r = pressed (released s key) key note (detuning_of hz note) in
      (register_rule (released s key) key hz ≡ value (record { released = none; press = r.0 }, r.1))
      × (register_rule s key hz ≡ value (record { released = found s key; press = r.0 }, r.1))
  unfolding register_rule repeated
  composes p =
      let note = nearest_note hz in (
        rw p (unless_held_new (released s key) key note (detuning_of hz note) (released_gone s key)),
        register_pressed s key hz p (on_may s key on),
      )

  -- It is refused 1 alone.
  pub never_11 : (n : ℕ) → register_rule s key hz ≡ refused n → n ≡ 1
  never_11 n e = elim ((register_refuses s key hz n).0 e) [ inl h ↦ h.1 | inr h ↦ absurd (false≢true (sym h.1.0 ∙ on_may s key on)) ]
