-- A repitch of an unknown key.
use mathlib.Core.Path.{◌≡◌, sym, ap, ◌∙◌}
use mathlib.Core.Option.{Option, none}
use Prim.Native.Nat.{ℕ}
use lib.Ieee.{Float}
use Rattle.arithmetic.specs.Outcome.{value}
use Rattle.arithmetic.specs.Pitch.{is_pitch}
use Rattle.channels.specs.Places.{Place}
use Rattle.pools.specs.Pool.{State, found, tuning, repitch_rule}
use Rattle.pools.proofs.Pools.Presses.{value_by}

-- A repitch of an unknown key answers nothing.
pub repitch_unknown : (s : State) (key : ℕ) (hz : Float) {r : Option (Place × Float)} → found s key ≡ none → repitch_rule s key hz ≡ value r → r ≡ none
unfolding repitch_rule tuning
repitch_unknown s key hz {r} e h =
    let f : value r ≡ value (tuning hz none) =
    (value_by 1 r (is_pitch hz) (value (tuning hz (found s key))) (sym h)).1 ∙ ap (λ (o : Option Place). value (tuning hz o)) e in
    cc
