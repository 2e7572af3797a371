-- What an accepted press was made of: the nearest note of its pitch, and the detuning from it, which lies from 0.96 to 1.04.
use mathlib.Core.Path.{◌≡◌, sym, ap, subst, ◌∙◌}
use mathlib.Core.Option.{Option}
use Prim.Native.Nat.{ℕ}
use lib.Dec.{T}
use lib.IntN.{ℤ}
use lib.Ieee.{Float}
use Rattle.arithmetic.specs.Outcome.{value}
use Rattle.arithmetic.specs.Pitch.{is_pitch, detuning_of}
use Rattle.arithmetic.specs.Nearest.{nearest_note}
use Rattle.theorems.proofs.Numbers.NearestDetuning.{nearest_close}
use Rattle.arithmetic.proofs.Notes.Nearest.{nearest_detuning}
use Rattle.pools.specs.Pool.{State, Pressing, accepted, released, unless_held, register_rule}
use Rattle.channels.specs.TuningValue.{sent_as}
use Rattle.theorems.specs.Bounds.{value_of, StepBound}
use Rattle.channels.specs.declared.tuning_value.TuningKind.{TuningKind}
use Rattle.pools.proofs.Pools.Presses.{made_with, value_by, press_made}
use Rattle.theorems.proofs.Values.{sent_law}

module _
    (s : State) (key : ℕ) (hz : Float) {r : Pressing × State} {c : ℕ} {st : Option ℤ} {z : ℤ} {d : Float}
    (e : register_rule s key hz ≡ value r) (a : r.0.press ≡ accepted c st z d) where
  -- A press takes the nearest note of its pitch, and the pitch divided by that note's.
  pub press_pitch : T (is_pitch hz) × (z ≡ nearest_note hz) × (d ≡ detuning_of hz z)
  unfolding register_rule
  press_pitch =
      let note = nearest_note hz in
      let v = detuning_of hz note in
      let tested = value_by 1 r (is_pitch hz) (unless_held s key note v) (sym e) in
      let m = made_with (released s key) key note v (press_made s key hz e ∙ a) in
      (subst T (sym tested.0) tt, m.0, m.1 ∙ ap (detuning_of hz) (sym m.0))

  -- What is sent of it is not clamped, and so meets the bound itself.
  pub press_law : (kind : TuningKind) → StepBound kind (value_of (sent_as kind d)) d
  press_law kind =
      let p = press_pitch in
      let is : detuning_of hz (nearest_note hz) ≡ d = ap (detuning_of hz) (sym p.1) ∙ sym p.2 in
      let near = nearest_close hz p.0 in
      subst (λ (x : Float). StepBound kind (value_of (sent_as kind x)) x) is
      (sent_law (detuning_of hz (nearest_note hz)) (nearest_detuning hz p.0) near.0 near.1 kind)
