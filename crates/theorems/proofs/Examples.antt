-- Twelve examples, joined in one theorem over one list, about the rules that the contracts cite; and the messages of the console's
-- sample.
use mathlib.Core.Path.{◌≡◌, refl, ap, ◌∙◌}
use mathlib.Core.Bool.{true}
use mathlib.Core.List.{[], ◌∷◌}
use mathlib.Core.Option.{some, none}
use Prim.Native.Nat.{ℕ}
use lib.IntN.{ℤ, pos}
use lib.Ieee.{Float, size, round, mul, div, le, lt}
use Rattle.arithmetic.specs.Division.{remainder}
use Rattle.arithmetic.specs.Measure.{square, digit, next as next_digit, digits, first32, measure, measure_rule}
use Rattle.arithmetic.specs.Pitch.{negligible, negligible_from, negligible_below, is_pitch, octave_pitch, significands, factor, pitch_of, detuning_of}
use Rattle.arithmetic.specs.Note.{midi_number}
use Rattle.arithmetic.specs.Nearest.{semitones, over_a4, nearest_note, nearest_rule}
use Rattle.channels.specs.Outcome.{Outcome}
use Rattle.channels.specs.FirstRefusal.{one_by_one}
use Rattle.channels.specs.ChannelList.{entry_rule, list_rule}
use Rattle.channels.specs.Lists.{without, upward, first}
use Rattle.channels.specs.TuningValue.{clamp, fine_step, fine_value, bend_step, bend_value, tuning_of, sent_as, tuning_rule}
use Rattle.channels.specs.declared.tuning_value.Tuning.TheVariants.{Fine}
use Rattle.plans.specs.PlanLine.{group, of_group, insert, rising, joins}
use Rattle.plans.specs.Walk.{latest, accepts, takes, next as next_channel, taken_keys, deferred_keys, channels, walk, count, note_of, assignment_from, assignment, replaced, entry_from, entry}
use Rattle.plans.specs.PlanLists.{is_planned, note_line, note_lines, line_rule, note_lists}
use Rattle.plans.specs.Plan.{planned}
use Rattle.pools.specs.declared.settings.PoolingMode.{PoolingMode}
use Rattle.pools.specs.declared.settings.PoolingMode.TheVariants.{Stop}
use Rattle.pools.specs.Pool.{State, pool_count, pool_of, pool, found, fresh, open_rule, with_pool, with_key, enqueue, taken_in, taken, freed_in, freed, without_key, released, released_from, held_at, oldest_of, oldest, reclaim_by_mode, reclaim_unless_free, reclaim, Pressing, accepted, pressed_on, pressed, register_rule, outcome_and_state}
use Rattle.senders.specs.Midi.{bytes_of}
use Rattle.senders.specs.Tuner.{note_messages, press_messages}
use Rattle.senders.specs.declared.tuner.NoteMessage.TheVariants.{Off}
use Rattle.theorems.specs.Examples.{Nine, Ten, two_channels, answer, next, without_release, accepted_on, Eleven, Twelve, All, examples}
use Rattle.pools.proofs.Pools.Presses.{unless_held_new}

-- ---- plans

pub example_9_10 : Nine × Ten
unfolding planned count walk channels taken_keys deferred_keys next_channel takes latest accepts joins negligible negligible_from negligible_below round div le lt rising insert of_group group is_planned note_line note_lines one_by_one line_rule note_lists note_of assignment_from assignment replaced entry_from entry
example_9_10 = ((refl, refl, refl), (refl, refl, refl))

-- ---- pools

-- What a press of a key that is not held answers and leaves, of a pitch.
answer_of_pressed : (s : State) (key : ℕ) (hz : Float) → is_pitch hz ≡ true → found s key ≡ none
    → let r = pressed s key (nearest_note hz) (detuning_of hz (nearest_note hz)) in
    ◌≡◌ {A = Outcome Pressing × State} (outcome_and_state s (register_rule s key hz)) (without_release r.0, r.1)
unfolding outcome_and_state register_rule
answer_of_pressed s key hz p new = rw (p, unless_held_new s key (nearest_note hz) (detuning_of hz (nearest_note hz)) new) refl

module _ (s : State) (key : ℕ) (hz : Float) (p : is_pitch hz ≡ true) (new : found s key ≡ none) where
  answer_is : answer s key hz ≡ without_release (pressed s key (nearest_note hz) (detuning_of hz (nearest_note hz))).0
  unfolding answer
  answer_is = ap (λ (x : Outcome Pressing × State). x.0) (answer_of_pressed s key hz p new)

  next_is : next s key hz ≡ (pressed s key (nearest_note hz) (detuning_of hz (nearest_note hz))).1
  unfolding next
  next_is = ap (λ (x : Outcome Pressing × State). x.1) (answer_of_pressed s key hz p new)

-- The same with notes and detunings in the place of pitches: the rules compute.

module _ (mode : PoolingMode) (a b : ℤ) (d e : Float) where
  first_press : (found (two_channels mode) 1 ≡ none) × ((pressed (two_channels mode) 1 a d).0 ≡ accepted 0 none a d)
  unfolding two_channels upward first one_by_one entry_rule list_rule pool_count pool_of pool found fresh open_rule reclaim_unless_free reclaim pressed_on pressed
  first_press = (refl, refl)

  second_press : let s = released (pressed (two_channels mode) 1 a d).1 1 in (found s 2 ≡ none) × ((pressed s 2 b e).0 ≡ accepted 1 none b e)
  unfolding two_channels without upward first one_by_one entry_rule list_rule pool_count pool_of pool found fresh open_rule with_pool with_key enqueue taken_in taken freed_in freed without_key released released_from reclaim_unless_free reclaim pressed_on pressed
  second_press = (refl, refl)

module _ (a b c : ℤ) (d e f : Float) where
  two_held : (found (pressed (two_channels Stop) 1 a d).1 2 ≡ none) × (found (pressed (pressed (two_channels Stop) 1 a d).1 2 b e).1 3 ≡ none)
  unfolding two_channels upward first one_by_one entry_rule list_rule pool_count pool_of pool found fresh open_rule with_pool with_key enqueue taken_in taken reclaim_unless_free reclaim pressed_on pressed
  two_held = (refl, refl)

  third_press : let r = pressed (pressed (pressed (two_channels Stop) 1 a d).1 2 b e).1 3 c f in (r.0 ≡ accepted 0 (some a) c f) × (found r.1 1 ≡ none)
  unfolding two_channels without upward first one_by_one entry_rule list_rule pool_count pool_of pool found fresh open_rule with_pool with_key enqueue taken_in taken freed_in freed without_key released released_from held_at oldest_of oldest reclaim_by_mode reclaim_unless_free reclaim pressed_on pressed
  third_press = (refl, refl)

pub example_11 : Eleven
unfolding accepted_on
example_11 mode x y p q =
    let one = first_press mode (nearest_note x) (nearest_note y) (detuning_of x (nearest_note x)) (detuning_of y (nearest_note y)) in
    let other = second_press mode (nearest_note x) (nearest_note y) (detuning_of x (nearest_note x)) (detuning_of y (nearest_note y)) in (
      answer_is (two_channels mode) 1 x p one.0 ∙ ap without_release one.1,
      rw (next_is (two_channels mode) 1 x p one.0) (answer_is _ 2 y q other.0 ∙ ap without_release other.1),
    )

pub example_12 : Twelve
example_12 x y z p q r =
    let one = first_press Stop (nearest_note x) (nearest_note y) (detuning_of x (nearest_note x)) (detuning_of y (nearest_note y)) in
    let a = nearest_note x in
    let b = nearest_note y in
    let c = nearest_note z in
    let held = two_held a b c (detuning_of x a) (detuning_of y b) (detuning_of z c) in
    let third = third_press a b c (detuning_of x a) (detuning_of y b) (detuning_of z c) in
    rw (next_is (two_channels Stop) 1 x p one.0, next_is _ 2 y q held.0)
    (answer_is _ 3 z r held.1 ∙ ap without_release third.0, ap (λ (s : State). found s 1) (next_is _ 3 z r held.1) ∙ third.1)

-- ---- all twelve

example_models : All (Nine ∷ Ten ∷ Eleven ∷ Twelve ∷ [])
example_models = (example_9_10.0, (example_9_10.1, (example_11, (example_12, tt))))

pub twelve_examples : All examples
unfolding round measure_rule measure digits digit next_digit square first32 size tuning_rule sent_as tuning_of fine_value fine_step bend_value bend_step clamp nearest_rule nearest_note over_a4 semitones is_pitch le div detuning_of pitch_of octave_pitch factor significands remainder mul
twelve_examples = (
  (refl, (refl, refl)),
  (
    (refl, (refl, refl), refl),
    (
      ((refl, refl), refl),
      (
        ((refl, refl), refl),
        (((refl, refl), refl), (refl, (refl, ((refl, refl), example_models)))),
      ),
    ),
  ),
)

-- ---- the console's sample

pub sample :
    (bytes_of (press_messages 0 none (Fine 8192) (pos 69) 100)
    ≡ 0xb0 ∷ 0x65 ∷ 0x00 ∷ 0xb0 ∷ 0x64 ∷ 0x01 ∷ 0xb0 ∷ 0x06 ∷ 0x40 ∷ 0xb0 ∷ 0x26 ∷ 0x00 ∷ 0x90 ∷ 0x45 ∷ 0x64 ∷ [])
    × (bytes_of (press_messages 1 none (Fine 8192) (pos 81) 90)
    ≡ 0xb1 ∷ 0x65 ∷ 0x00 ∷ 0xb1 ∷ 0x64 ∷ 0x01 ∷ 0xb1 ∷ 0x06 ∷ 0x40 ∷ 0xb1 ∷ 0x26 ∷ 0x00 ∷ 0x91 ∷ 0x51 ∷ 0x5a ∷ [])
    × (bytes_of (note_messages Off 0 (pos 69) 64) ≡ 0x80 ∷ 0x45 ∷ 0x40 ∷ [])
unfolding midi_number
sample = (refl, refl, refl)
