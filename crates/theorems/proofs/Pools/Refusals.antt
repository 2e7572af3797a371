-- Refusals of pools: which numbers each entry gives, exactly when, and in which order; a refusal hands the state back as it was.
-- A release, a lookup, the next key and `stop` have no refusal.
use Prim.Native.Nat.{ℕ}
use mathlib.Core.Path.{◌≡◌, refl, ap}
use mathlib.Core.Bool.{true, false}
use mathlib.Core.List.{List, []}
use mathlib.Core.Logic.{◌⊎◌, ◌↔◌}
use lib.IntN.{ℤ}
use lib.Ieee.{Float}
use Rattle.arithmetic.specs.Refusal.{pitch_out_of_range, note_out_of_range, key_held}
use Rattle.arithmetic.specs.Outcome.{Outcome, value, refused}
use Rattle.arithmetic.specs.Note.{is_note}
use Rattle.arithmetic.specs.Pitch.{is_pitch, detuning_of}
use Rattle.arithmetic.specs.Nearest.{nearest_note}
use Rattle.arithmetic.proofs.Rules.Outcomes.{no_value, refuses_once, refuses_twice}
use Rattle.pools.specs.declared.settings.PoolGroupBy.{PoolGroupBy}
use Rattle.pools.specs.declared.settings.PoolingMode.{PoolingMode}
use Rattle.pools.specs.declared.settings.Retrigger.{Retrigger}
use Rattle.channels.specs.ChannelList.{present}
use Rattle.pools.specs.Pool.{State, found, fresh, open_rule, repeated, may_press, unless_held, register_rule, outcome_and_state, tuning, repitch_rule}
use Rattle.pools.specs.View.{register_note_rule}
use Rattle.channels.specs.FirstRefusal.{Offence}
use Rattle.channels.specs.ChannelList.{entry_rule}
use Rattle.theorems.proofs.ChannelLists.{channel_list_offence, channel_list_numbers}

-- ---- opening: 6, 7 entry by entry; the model has no channels then

pub open_offence : (channels : List ℕ) (group : PoolGroupBy) (mode : PoolingMode) (retrigger : Retrigger) (n : ℕ)
    → (open_rule channels group mode retrigger).0 ≡ refused n
    → ((n ≡ 6) ⊎ (n ≡ 7)) × Offence entry_rule [] channels n × ((open_rule channels group mode retrigger).1 ≡ fresh [] group mode retrigger)
unfolding open_rule
open_offence channels group mode retrigger n e =
    (channel_list_numbers channels n e, channel_list_offence channels n e, ap (λ (o : Outcome (List ℕ)). fresh (present o) group mode retrigger) e)

-- ---- a press: 1, then 11 where the key is held and retrigger is off

pub register_refuses : (s : State) (key : ℕ) (hz : Float) (n : ℕ)
    → (register_rule s key hz ≡ refused n)
    ↔ (((is_pitch hz ≡ false) × (n ≡ pitch_out_of_range)) ⊎ ((is_pitch hz ≡ true) × ((may_press s key ≡ false) × (n ≡ key_held))))
unfolding register_rule unless_held
register_refuses s key hz n =
    refuses_twice pitch_out_of_range key_held n (is_pitch hz) (may_press s key) (repeated s key (nearest_note hz) (detuning_of hz (nearest_note hz)))

-- A press for a note, in place, refuses 4, then 11.
pub register_note_refuses : (s : State) (key : ℕ) (note : ℤ) (d : Float) (n : ℕ)
    → (register_note_rule s key note d ≡ refused n)
    ↔ (((is_note note ≡ false) × (n ≡ note_out_of_range)) ⊎ ((is_note note ≡ true) × ((may_press s key ≡ false) × (n ≡ key_held))))
unfolding register_note_rule unless_held
register_note_refuses s key note d n = refuses_twice note_out_of_range key_held n (is_note note) (may_press s key) (repeated s key note d)

-- A refusal hands the state back as it was.
pub refused_unchanged : {A : Type 0} (s : State) (o : Outcome (A × State)) (n : ℕ) → (outcome_and_state s o).0 ≡ refused n → (outcome_and_state s o).1 ≡ s
unfolding outcome_and_state
refused_unchanged s (value r) n e = no_value r.0 n e
refused_unchanged s (refused m) n e = refl

-- ---- a repitch: 1, for unknown keys too; it changes nothing

pub repitch_refuses : (s : State) (key : ℕ) (hz : Float) (n : ℕ) → (repitch_rule s key hz ≡ refused n) ↔ ((is_pitch hz ≡ false) × (n ≡ pitch_out_of_range))
unfolding repitch_rule
repitch_refuses s key hz n = refuses_once pitch_out_of_range n (is_pitch hz) (tuning hz (found s key))
