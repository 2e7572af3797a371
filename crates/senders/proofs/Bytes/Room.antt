-- How large a buffer an event of a pool tuner needs: what its call says counts the bytes that are sent, and these are no more than 21: a note-off of the key
-- that is released first, one of a stopped note, four messages of a fine tuning and a note-on.
use Prim.Native.Nat.{ℕ, ◌≤◌}
use native.Mathlib.Omega.{arith}
use mathlib.Core.Path.{◌≡◌, refl}
use mathlib.Core.Bool.{Bool, true, false, cond}
use mathlib.Core.List.{List}
use mathlib.Core.Option.{Option, some, none}
use lib.Ieee.{Float}
use lib.IntN.{ℤ}
use lib.ListN.{length, length-append, get_elem?}
use Rattle.channels.specs.Outcome.{Outcome, value, refused}
use Rattle.channels.specs.Refusal.{data_byte_over127}
use Rattle.channels.specs.Places.{Place}
use Rattle.pools.specs.Pool.{State, Press as PoolPress, Pressing, accepted, rejected, found, released, register_rule, repitch_rule}
use Rattle.channels.specs.TuningValue.{sent_as}
use Rattle.channels.specs.declared.tuning_value.Tuning.{Tuning}
use Rattle.senders.specs.Buffer.{Effect, sends, WriteOutcome}
use Rattle.senders.specs.Message.{Message, is_data}
use Rattle.senders.specs.Midi.{bytes_of}
use Rattle.senders.specs.Mts.{tuning_messages}
use Rattle.senders.specs.Tuner.{note_messages, press_messages, on_entry, key_messages}
use Rattle.senders.specs.Jit.{Tuner, with_pool, accepted_messages, press_bytes, press_result, press_effect, repitch_messages, repitch_effect, note_on_rule, note_off_rule, note_pitch_rule}
use Rattle.senders.specs.Event.{as_press, with_same_tuner, call_rule, play_rule, count, Counts}
use Rattle.senders.specs.declared.event.Event.{Event}
use Rattle.senders.specs.declared.event.EventKind.{EventKind}
use Rattle.senders.specs.declared.event.EventKind.TheVariants.{Press, Release, Repitch}
use Rattle.senders.specs.declared.tuner.NoteMessage.TheVariants.{Off, On}
use Rattle.senders.proofs.Bytes.Sizes.{length_press, note_small, stop_small, tuning_short}

-- ---- how many bytes the messages take

press_short : (ch : ℕ) (s : Option ℤ) (t : Tuning) (note : ℤ) (v : ℕ) → length (bytes_of (press_messages ch s t note v)) ≤ 18
press_short ch s t note v = omega (arith, length_press ch s t note v, stop_small ch s v, tuning_short ch t, note_small On ch note v)

entry_bytes : (most : ℕ) (messages : ℕ → List Message) → ((ch : ℕ) → length (bytes_of (messages ch)) ≤ most) → (o : Option ℕ)
    → length (bytes_of (on_entry messages o)) ≤ most
entry_bytes most messages h (some ch) = h ch
entry_bytes most messages h none = omega arith

key_bytes : (t : Tuner) (v : ℕ) (p : Option Place) → length (bytes_of (key_messages Off t.pool.channels v p)) ≤ 3
key_bytes t v (some p) =
    entry_bytes 3 (λ ch. note_messages Off ch p.note v) (λ ch. note_small Off ch p.note v) (get_elem? t.pool.channels p.channel)
key_bytes t v none = omega arith

accepted_bytes : (t : Tuner) (v : ℕ) (p : PoolPress) → length (bytes_of (accepted_messages t v p)) ≤ 18
accepted_bytes t v (accepted i s note d) =
    let tuning = sent_as t.tuning_kind d in
    entry_bytes 18 (λ ch. press_messages ch s tuning note v) (λ ch. press_short ch s tuning note v) (get_elem? t.pool.channels i)
accepted_bytes t v rejected = omega arith

-- ---- the rules

counts_unless : {R S : Type 0} (f : R → ℕ) (n : ℕ) (b : Bool) (rule : Outcome (Effect R S)) → Counts f rule → Counts f (cond b rule (refused n))
counts_unless f n true rule p = p
counts_unless f n false rule p = tt

press_result_counts : (p : PoolPress) (bs : List ℕ) → count (press_result p bs) ≡ length bs
press_result_counts (accepted i s note d) bs = refl
press_result_counts rejected bs = refl

press_effect_counts : (t : Tuner) (v : ℕ) (o : Outcome (Pressing × State)) → Counts count (press_effect t v o)
press_effect_counts t v (value r) =
    let p = r.0 in
    let before = bytes_of (key_messages Off t.pool.channels 0 p.released) in
    let bs = bytes_of (accepted_messages t v p.press) in (
      press_result_counts p.press (press_bytes t v p),
      omega (arith, length-append before bs, key_bytes t 0 p.released, accepted_bytes t v p.press),
    )
press_effect_counts t v (refused n) = tt

press_counts : (t : Tuner) (key : ℕ) (hz : Float) (v : ℕ) → Counts count (note_on_rule t key hz v)
press_counts t key hz v =
    counts_unless count data_byte_over127 (is_data v) (press_effect t v (register_rule t.pool key hz)) (press_effect_counts t v (register_rule t.pool key hz))

release_counts : (t : Tuner) (key v : ℕ) → Counts (λ n. n) (note_off_rule t key v)
release_counts t key v =
    let bs = bytes_of (key_messages Off t.pool.channels v (found t.pool key)) in
    counts_unless (λ (n : ℕ). n) data_byte_over127 (is_data v) (sends bs (with_pool t (released t.pool key)))
    (refl, omega (arith, key_bytes t v (found t.pool key)))

repitch_bytes : (t : Tuner) (r : Option (Place × Float)) → length (bytes_of (repitch_messages t r)) ≤ 18
repitch_bytes t (some r) =
    let tuning = sent_as t.tuning_kind r.1 in
    entry_bytes 18 (λ ch. tuning_messages ch tuning) (λ ch. omega (arith, tuning_short ch tuning)) (get_elem? t.pool.channels r.0.channel)
repitch_bytes t none = omega arith

repitch_effect_counts : (t : Tuner) (o : Outcome (Option (Place × Float))) → Counts (λ n. n) (repitch_effect t o)
repitch_effect_counts t (value r) = (refl, omega (arith, repitch_bytes t r))
repitch_effect_counts t (refused n) = tt

as_press_counts : (o : Outcome (Effect ℕ Tuner)) → Counts (λ n. n) o → Counts count (as_press o)
as_press_counts (value e) p = p
as_press_counts (refused n) p = tt

same_tuner_counts : (t : Tuner) (o : WriteOutcome) → Counts (λ n. n) o → Counts count (with_same_tuner t o)
same_tuner_counts t (value e) p = p
same_tuner_counts t (refused n) p = tt

call_counts : (k : EventKind) (t : Tuner) (key : ℕ) (hz : Float) (v : ℕ) → Counts count (call_rule k t key hz v)
call_counts Press t key hz v = press_counts t key hz v
call_counts Release t key hz v = as_press_counts (note_off_rule t key v) (release_counts t key v)
call_counts Repitch t key hz v = same_tuner_counts t (note_pitch_rule t key hz) (repitch_effect_counts t (repitch_rule t.pool key hz))

pub play_counts : (t : Tuner) (e : Event) → Counts count (play_rule t e)
play_counts t e = call_counts e.kind t e.key e.pitch.hz e.velocity
