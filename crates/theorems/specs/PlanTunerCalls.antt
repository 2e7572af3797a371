-- Tunings of a plan tuner one after the other, SPEC 9.3, each with a buffer of some length. The calls that are left out change no tuner.
use Rattle.std.specs.Prelude.{List, [], ◌∷◌, ℕ, ◌<◌, T, ℤ, Float}
use Rattle.std.specs.Float.{binary64}
use Rattle.std.specs.Float.Ieee.{fits}
use Rattle.channels.specs.Outcome.{Outcome}
use Rattle.channels.specs.Lists.{Each}
use Rattle.channels.specs.declared.tuning_value.TuningKind.{TuningKind}
use Rattle.plans.specs.PlanLine.{PlanLine}
use Rattle.plans.specs.PlanLists.{key_count, note_lists, pitch_lists}
use Rattle.senders.specs.Buffer.{Effect, check_room, state_after}
use Rattle.plan_tuner.specs.Aot.{Tuner, Planned, start_rule, set_tuning_rule, set_tuning_of_pitches_rule}

-- ---- the lists of a tuning, of either kind

pub data Lists : Type 0 where
  notes : (keys : List ℕ) (notes : List ℤ) (detunings : List Float) → Lists
  pitches : (keys : List ℕ) (hzs : List Float) → Lists

-- The rule of the call that takes them.
abbrev pub tune_rule : Tuner → Lists → Outcome (Effect Planned Tuner)
tune_rule t (notes ks ns ds) = set_tuning_rule t ks ns ds
tune_rule t (pitches ks hzs) = set_tuning_of_pitches_rule t ks hzs

-- SPEC 6.1a: their lines, or the refusal.
abbrev pub lines_of : Lists → Outcome (List PlanLine)
lines_of (notes ks ns ds) = note_lists ks ns ds
lines_of (pitches ks hzs) = pitch_lists ks hzs

-- What the types of a call's lists say: keys are bytes, detunings f64s.
abbrev pub Typed : Lists → Type 0
Typed (notes ks ns ds) = Each (λ (k : ℕ). k < key_count) ks × Each (λ (d : Float). T (fits binary64 d)) ds
Typed (pitches ks hzs) = Each (λ (k : ℕ). k < key_count) ks

-- ---- the calls

-- Any lists and any room may be passed: calls may be refused, and plans untuned.
pub data Call : Type 0 where
  tune : Lists → (room : ℕ) → Call

unfoldable pub step : Tuner → Call → Tuner
step t (tune lists room) = state_after t (check_room room (tune_rule t lists))

unfoldable pub run : Tuner → List Call → Tuner
run t [] = t
run t (c ∷ cs) = run (step t c) cs

-- The tuner that any tunings have led to, from one that was started.
abbrev pub reached : List ℕ → TuningKind → List Call → Tuner
reached channels kind calls = run (start_rule channels kind).1 calls
