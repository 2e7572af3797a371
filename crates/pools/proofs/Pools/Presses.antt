-- What a press or a repitch answers, by the tests of its rule: its detuning can be measured, since its note is a note and its pitch a pitch.
use mathlib.Core.Path.{◌≡◌, refl, sym, ap, subst, ◌∙◌}
use mathlib.Core.Bool.{Bool, true, false, not}
use mathlib.Core.Option.{Option, some, none}
use Prim.Native.Nat.{ℕ}
use lib.Dec.{T}
use lib.IntN.{ℤ}
use lib.Ieee.{Float}
use lib.Ieee.Positive.{positive}
use lib.Ieee.Bits.{is_true}
use Rattle.arithmetic.specs.Outcome.{Outcome, value, refused, refuse◌unless◌then◌}
use Rattle.arithmetic.specs.Refusal.{pitch_out_of_range, note_out_of_range, key_held}
use Rattle.arithmetic.specs.Note.{is_note, note_rule}
use Rattle.arithmetic.specs.Pitch.{is_pitch, detuning_of}
use Rattle.arithmetic.specs.Nearest.{nearest_note, nearest_rule}
use Rattle.arithmetic.proofs.Rules.Outcomes.{no_value, passed_of_value, refuses_once, refused_at}
use Rattle.arithmetic.proofs.Notes.Detunings.{detuning_positive}
use Rattle.arithmetic.proofs.Notes.Nearest.{nearest_is_note}
use Rattle.channels.specs.Lists.{first}
use Rattle.channels.specs.Places.{Place, is_held}
use Rattle.pools.specs.Pool.{State, Press, Pressing, accepted, rejected, pool, found, released, reclaim, pressed_on, pressed, repeated, may_press, unless_held, register_rule, tuning, repitch_rule, outcome_and_state}
use Rattle.pools.specs.View.{view, register_note_rule}
use Rattle.pools.specs.declared.jit.JitTuningModel.{JitTuningModel}
use Rattle.pools.proofs.Models.Views.{found_note}
use Rattle.pools.specs.PoolInternal.{release_rule}
use Rattle.pools.specs.Pool.{is_on, freed, without_key}
use Rattle.pools.specs.declared.settings.Retrigger.TheVariants.{Off, On}
use Rattle.pools.proofs.Pools.Releases.{released_none, released_found}
use mathlib.Core.Bool.{or-true, ◌||◌}
use Rattle.pools.specs.declared.settings.Retrigger.{Retrigger}

-- a value was answered, so the test held, and what stands behind it answered the value
pub value_by : {A : Type 0} (k : ℕ) (a : A) (test : Bool) (o : Outcome A) → value a ≡ (refuse k unless test then o) → (test ≡ true) × (value a ≡ o)
value_by k a true o e = (refl, e)
value_by k a false o e = no_value a k e

-- ---- the note and the detuning of a press

measurable : (hz : Float) (z : ℤ) → is_pitch hz ≡ true → is_note z ≡ true → positive (detuning_of hz z) ≡ true
measurable hz z p n = is_true (positive (detuning_of hz z)) (detuning_positive hz z (subst T (sym p) tt) n)

-- an accepted press answers the note and the detuning it was made with
pub made_with : (s : State) (key : ℕ) (note : ℤ) (v : Float) {c : ℕ} {st : Option ℤ} {z : ℤ} {d : Float}
    → (pressed s key note v).0 ≡ accepted c st z d → (z ≡ note) × (d ≡ v)
unfolding pressed pressed_on
made_with s key note v {c} {st} {z} {d} = go (first (pool (reclaim s note).state note).free)
  where
    go : (x : Option ℕ) → (pressed_on x (reclaim s note) s key note v).0 ≡ accepted c st z d → (z ≡ note) × (d ≡ v)
    go (some x) e = (let f : z ≡ note = cc in f, let f : d ≡ v = cc in f)
    go none e = absurd (cc)

-- What an accepted or a rejected press says of the tests and of the press that was made.
module _ (s : State) (key : ℕ) (hz : Float) {r : Pressing × State} (e : register_rule s key hz ≡ value r) where
  abbrev note : ℤ
  note = nearest_note hz

  abbrev v : Float
  v = detuning_of hz note

  abbrev made : Press × State
  made = pressed (released s key) key note v

  tested : (is_pitch hz ≡ true) × (value r ≡ unless_held s key note v)
  unfolding register_rule
  tested = value_by 1 r (is_pitch hz) (unless_held s key note v) (sym e)

  allowed : (may_press s key ≡ true) × (value r ≡ value (repeated s key note v))
  unfolding unless_held
  allowed = value_by 11 r (may_press s key) (value (repeated s key note v)) tested.1

  repeated_is : repeated s key note v ≡ r
  repeated_is = let f = allowed.1 in cc

  pub press_made : made.0 ≡ r.0.press
  unfolding repeated
  press_made = ap (λ (x : Pressing × State). x.0.press) repeated_is

  pub release_made : r.0.released ≡ found s key
  unfolding repeated
  release_made = sym (ap (λ (x : Pressing × State). x.0.released) repeated_is)

  pub state_made : made.1 ≡ r.1
  unfolding repeated
  state_made = ap (λ (x : Pressing × State). x.1) repeated_is

  module _ {c : ℕ} {st : Option ℤ} {z : ℤ} {d : Float} (a : r.0.press ≡ accepted c st z d) where
    with_these : (z ≡ note) × (d ≡ v)
    with_these = made_with (released s key) key note v (press_made ∙ a)

    pub press_measurable : positive d ≡ true
    press_measurable = rw with_these.1 (measurable hz note tested.0 (nearest_is_note hz (subst T (sym tested.0) tt)))

    -- an accepted press is the press for the note and the detuning that it answers
    pub register_again : register_note_rule s key z d ≡ value r
    unfolding register_note_rule unless_held
    register_again =
        let noted : is_note z ≡ true = rw with_these.0 (nearest_is_note hz (subst T (sym tested.0) tt)) in
        rw (noted, allowed.0)
        (ap (λ (n : ℤ). value (repeated s key n d)) with_these.0 ∙ ap (λ (x : Float). value (repeated s key note x)) with_these.1 ∙ ap value repeated_is)

  -- a rejected press leaves the state that the release left
  pub rejected_stays : r.0.press ≡ rejected → released s key ≡ r.1
  unfolding pressed pressed_on
  rejected_stays a = go (first (pool (reclaim (released s key) note).state note).free) press_made state_made
    where
      go : (x : Option ℕ) → (pressed_on x (reclaim (released s key) note) (released s key) key note v).0 ≡ r.0.press
          → (pressed_on x (reclaim (released s key) note) (released s key) key note v).1 ≡ r.1 → released s key ≡ r.1
      go (some x) f g = absurd (let h = f ∙ a in cc)
      go none f g = g

pub repitch_measurable :
    (m : JitTuningModel) (key : ℕ) (hz : Float) {p : Place} {d : Float} → repitch_rule (view m) key hz ≡ value (some (p, d)) → positive d ≡ true
unfolding repitch_rule tuning
repitch_measurable m key hz {p} {d} e = go (found (view m) key) refl tested.1
  where
    tested : (is_pitch hz ≡ true) × (value (some (p, d)) ≡ value (tuning hz (found (view m) key)))
    tested = value_by 1 (some (p, d)) (is_pitch hz) (value (tuning hz (found (view m) key))) (sym e)

    go : (o : Option Place) → found (view m) key ≡ o → value (some (p, d)) ≡ value (tuning hz o) → positive d ≡ true
    go (some q) f h =
        let same : ◌≡◌ {A = Place × Float} (p, d) (q, detuning_of hz q.note) = cc in
        rw (ap (λ (x : Place × Float). x.1) same) (measurable hz q.note tested.0 (found_note m key q f))
    go none f h = absurd (cc)

-- ---- a press for the nearest note of a pitch, by what `find_by_pitch` answers

module _ (hz : Float) (s : State) (key : ℕ) where
  pub register_found : (n : ℤ) (d : Float) → ◌≡◌ {A = Outcome (ℤ × Float)} (value (n, d)) (nearest_rule hz) → unless_held s key n d ≡ register_rule s key hz
  unfolding nearest_rule register_rule
  register_found n d e =
      let is = passed_of_value pitch_out_of_range (is_pitch hz) (nearest_note hz, detuning_of hz (nearest_note hz)) e in
      rw is.0 (ap (λ (x : ℤ × Float). unless_held s key x.0 x.1) is.1)

  pub register_refused : (n : ℕ) → ◌≡◌ {A = Outcome (ℤ × Float)} (refused n) (nearest_rule hz) → register_rule s key hz ≡ refused n
  unfolding nearest_rule register_rule
  register_refused n e =
      let note = nearest_note hz in
      sym (refused_at pitch_out_of_range (is_pitch hz) (note, detuning_of hz note) e (unless_held s key note (detuning_of hz note)))

-- ---- a press for a note, by whether a number is one

module _ (z : ℤ) where
  pub noted : (n : ℤ) → value n ≡ note_rule z → (s : State) (key : ℕ) (d : Float) → unless_held s key n d ≡ register_note_rule s key z d
  unfolding note_rule register_note_rule
  noted n e s key d = let is = passed_of_value note_out_of_range (is_note z) z e in rw (is.0, is.1)

  pub not_noted : (n : ℕ) → ◌≡◌ {A = Outcome ℤ} (refused n) (note_rule z) → (is_note z ≡ false) × (n ≡ 4)
  unfolding note_rule
  not_noted n e = (refuses_once note_out_of_range n (is_note z) z).0 (sym e)

-- ---- a press by the release that it begins with

module _ (s : State) (key : ℕ) (note : ℤ) (d : Float) where
  pub unless_held_refused : (n : ℕ) → ◌≡◌ {A = Outcome (Option Place × State)} (refused n) (release_rule s key) → unless_held s key note d ≡ refused n
  unfolding unless_held
  unless_held_refused n e = sym (refused_at key_held (may_press s key) (found s key, released s key) e (value (repeated s key note d)))

  pub unless_held_value : (p : Option Place) (t : State) → value (p, t) ≡ release_rule s key
      → unless_held s key note d ≡ value (record { released = p; press = (pressed t key note d).0 }, (pressed t key note d).1)
  unfolding unless_held repeated
  unless_held_value p t e =
      let is = passed_of_value key_held (may_press s key) (found s key, released s key) e in
      let same : (p, t) ≡ (found s key, released s key) = is.1 in
      rw is.0 (ap (λ (x : Option Place × State). value (record { released = x.0; press = (pressed x.1 key note d).0 }, (pressed x.1 key note d).1)) (sym same))

  -- of a key that is not held
  pub unless_held_new : found s key ≡ none
      → unless_held s key note d ≡ value (record { released = none; press = (pressed s key note d).0 }, (pressed s key note d).1)
  unfolding unless_held repeated may_press is_held
  unless_held_new e = rw (e, released_none s key e, or-true (is_on s.retrigger))

-- ---- the release that a press begins with, by whether the key is held

module _ (s : State) (key : ℕ) where
  pub release_rule_new : found s key ≡ none → release_rule s key ≡ value (none, s)
  unfolding may_press is_held
  release_rule_new e = rw (e, released_none s key e, or-true (is_on s.retrigger))

  module _ (p : Place) (e : found s key ≡ some p) where
    held_may : {r : Retrigger} → s.retrigger ≡ r → may_press s key ≡ (is_on r || false)
    unfolding may_press is_held
    held_may {r} is = ap (λ (q : Retrigger). is_on q || not (is_held (found s key))) is ∙ ap (λ (o : Option Place). is_on r || not (is_held o)) e

    pub release_rule_off : s.retrigger ≡ Off → release_rule s key ≡ refused 11
    unfolding is_on
    release_rule_off off = rw (held_may off) refl

    pub release_rule_on : s.retrigger ≡ On → release_rule s key ≡ value (some p, without_key (freed s key p) key)
    unfolding is_on
    release_rule_on on =
        let released_is = ap (λ (t : State). value (some p, t)) (released_found s key p e) in
        rw (held_may on) (ap (λ (o : Option Place). value (o, released s key)) e ∙ released_is)

-- ---- the rule's outcome by what a call answered

pub reply_value : {A : Type 0} (s : State) (o : Outcome (A × State)) {a : A} → value a ≡ (outcome_and_state s o).0 → o ≡ value (a, (outcome_and_state s o).1)
unfolding outcome_and_state
reply_value s (value r) {a} e = let h : a ≡ r.0 = cc in ap (λ x. value (x, r.1)) (sym h)
reply_value s (refused n) {a} e = absurd (cc)

pub reply_refused : {A : Type 0} (s : State) (o : Outcome (A × State)) {n : ℕ} → refused n ≡ (outcome_and_state s o).0 → o ≡ refused n
unfolding outcome_and_state
reply_refused s (value r) {n} e = absurd (cc)
reply_refused s (refused m) {n} e = let same : m ≡ n = cc in ap refused same
