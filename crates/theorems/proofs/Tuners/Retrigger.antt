-- Presses of held keys on a pool tuner, SPEC 9.2e: without retrigger they are refused; with it a press sends the bytes of the release, and then its own.
use mathlib.Core.Path.{◌≡◌, refl, sym, ap, subst, ◌∙◌}
use mathlib.Core.Bool.{Bool, true, false, not, false≢true}
use mathlib.Core.List.{List, [], ◌∷◌, ◌++◌}
use mathlib.Core.Logic.{inl, inr, ◌↔◌}
use mathlib.Core.Option.{Option, some, none}
use Prim.Native.Nat.{ℕ, ◌<◌}
use native.Mathlib.Omega.{arith}
use lib.Ieee.{Float}
use lib.ListN.{length}
use borrow.Author.Tests.{lt-leb}
use Rattle.arithmetic.specs.Nearest.{nearest_note}
use Rattle.arithmetic.specs.Pitch.{is_pitch, detuning_of}
use Rattle.channels.specs.Outcome.{Outcome, value, refused, refuse◌unless◌then◌}
use Rattle.channels.specs.Places.{Place, is_held}
use Rattle.arithmetic.specs.Refusal.{pitch_out_of_range, key_held}
use Rattle.channels.specs.Refusal.{data_byte_over127, buffer_too_short}
use Rattle.channels.specs.TuningValue.{sent_as}
use Rattle.pools.specs.Pool.{State, Press, Pressing, accepted, rejected, found, released, pressed, register_rule}
use Rattle.pools.specs.declared.settings.Retrigger.{Retrigger}
use Rattle.pools.specs.declared.settings.Retrigger.TheVariants.{Off, On}
use Rattle.senders.specs.Buffer.{Effect, check_room}
use Rattle.senders.specs.Message.{is_data}
use Rattle.senders.specs.Midi.{bytes_of}
use Rattle.senders.specs.Tuner.{key_messages, on_channel, press_messages}
use Rattle.senders.specs.Jit.{Tuner, with_pool, PressResult, press_result, pressing, press_bytes, press_effect, accepted_messages, note_on_rule, note_off_rule}
use Rattle.senders.specs.declared.tuner.NoteMessage.TheVariants.{Off as NoteOff}
use Rattle.senders.proofs.Tuners.Calls.{note_on_value, note_off_accepted}
use Rattle.theorems.specs.Entries.{Among, press_allowed}
use Rattle.theorems.specs.PoolTunerCalls.{with_count}
use Rattle.theorems.proofs.Pools.Retrigger.{off_may, off_is_base as model_off_is_base, composes as model_composes}
use Rattle.theorems.proofs.Pools.Refusals.{register_refuses}
use Rattle.theorems.proofs.Pools.Settings.{released_same}
use Rattle.theorems.proofs.Tuners.Refusals.{press_numbers, room_refuses, press_order}

-- What a press sends depends on the channels and the kind of the tuner alone.
accepted_same :
    (t : Tuner) (s : State) (v : ℕ) (p : Press) → s.channels ≡ t.pool.channels → accepted_messages (with_pool t s) v p ≡ accepted_messages t v p
accepted_same t s v (accepted i stopped note d) e =
    ap (λ (cs : List ℕ). on_channel cs i (λ ch. press_messages ch stopped (sent_as t.tuning_kind d) note v)) e
accepted_same t s v rejected e = refl

counted : (p : Press) (bs cs : List ℕ) → with_count (press_result p bs) (length cs) ≡ press_result p cs
counted (accepted i stopped note d) bs cs = refl
counted rejected bs cs = refl

-- ---- without retrigger

-- A press is refused 8, then 1, then 11 where the key is held, and else made, with nothing released.
pub off_is_base :
    (t : Tuner) (key : ℕ) (hz : Float) (v : ℕ) → t.pool.retrigger ≡ Off
    → let note = nearest_note hz in
    let r = pressed t.pool key note (detuning_of hz note) in
    note_on_rule t key hz v
    ≡ (refuse data_byte_over127 unless is_data v then
    press_effect t v
    (refuse pitch_out_of_range unless is_pitch hz then
    refuse key_held unless not (is_held (found t.pool key)) then value (pressing none r.0, r.1)))
off_is_base t key hz v off =
    ap (λ (o : Outcome (Pressing × State)). refuse data_byte_over127 unless is_data v then press_effect t v o) (model_off_is_base t.pool key off hz)

held_by : (o : Option Place) → not (is_held o) ≡ false → is_held o ≡ true
unfolding is_held
held_by (some p) e = refl
held_by none e = absurd (false≢true (sym e))

-- It is refused 11 exactly where the velocity is a data byte, the pitch in range and the key held, whatever room there is.
pub eleven_exactly :
    (t : Tuner) (key : ℕ) (hz : Float) (v room : ℕ) → t.pool.retrigger ≡ Off
    → (check_room room (note_on_rule t key hz v) ≡ refused 11)
    ↔ ((is_data v ≡ true) × (is_pitch hz ≡ true) × (is_held (found t.pool key) ≡ true))
eleven_exactly t key hz v room off = (λ h. by (is_data v) refl (sym (press_order t key hz v room) ∙ h), back)
  where
    rule : Outcome (Pressing × State)
    rule = register_rule t.pool key hz

    by_model : (o : Outcome (Pressing × State)) → rule ≡ o → check_room room (press_effect t v o) ≡ refused 11
        → (is_pitch hz ≡ true) × (is_held (found t.pool key) ≡ true)
    by_model (value r) e h = let ten = (room_refuses room _ h).1 in absurd (omega (arith, ten))
    by_model (refused n) e h =
        let eleven : n ≡ 11 = cc in
        elim ((register_refuses t.pool key hz n).0 e) [
          | inl x ↦ absurd (omega (arith, eleven, x.1))
          | inr x ↦ (x.0, held_by (found t.pool key) (sym (off_may t.pool key off) ∙ x.1.0))
        ]

    by : (b : Bool) → is_data v ≡ b → (refuse 8 unless b then check_room room (press_effect t v rule)) ≡ refused 11
        → (is_data v ≡ true) × (is_pitch hz ≡ true) × (is_held (found t.pool key) ≡ true)
    by true d h = let m = by_model rule refl h in (d, m.0, m.1)
    by false d h = absurd (let z : ◌≡◌ {A = ℕ} 8 11 = cc in omega arith)

    back : (is_data v ≡ true) × (is_pitch hz ≡ true) × (is_held (found t.pool key) ≡ true) → check_room room (note_on_rule t key hz v) ≡ refused 11
    back h =
        let refuses : rule ≡ refused 11 =
        (register_refuses t.pool key hz 11).1 (inr (h.1, (off_may t.pool key off ∙ ap not h.2, refl))) in
        press_order t key hz v room
        ∙ ap (λ (b : Bool). refuse 8 unless b then check_room room (press_effect t v rule)) h.0
        ∙ ap (λ (o : Outcome (Pressing × State)). check_room room (press_effect t v o)) refuses

-- ---- with retrigger

-- A press that is refused neither 8 nor 1 is the release of its key with velocity 0, and then the press of the tuner that this left: its bytes are theirs,
-- one after the other, its tuner is the last, and so is its answer, with the count of all.
pub composes :
    (t : Tuner) (key : ℕ) (hz : Float) (v : ℕ) → t.pool.retrigger ≡ On → v < 128 → is_pitch hz ≡ true
    → (a : Effect ℕ Tuner) × (b : Effect PressResult Tuner)
    × (note_off_rule t key 0 ≡ value a)
    × (note_on_rule a.next key hz v ≡ value b)
    × (note_on_rule t key hz v
    ≡ value (record { result = with_count b.result (length (a.bytes ++ b.bytes)); bytes = a.bytes ++ b.bytes; next = b.next }))
composes t key hz v on low pitch = (
  record { result = length off; bytes = off; next = between },
  record { result = press_result made.0 own; bytes = own; next = with_pool t made.1 },
  note_off_accepted t key 0 (omega arith),
  note_on_value between key hz v low both.0,
  note_on_value t key hz v low both.1
      ∙ ap (λ (bs : List ℕ). value (record { result = press_result made.0 (off ++ bs); bytes = off ++ bs; next = with_pool t made.1 })) (sym same)
      ∙ ap (λ (r : PressResult). value (record { result = r; bytes = off ++ own; next = with_pool t made.1 })) (sym (counted made.0 own (off ++ own))),
)
  where
    off : List ℕ
    off = bytes_of (key_messages NoteOff t.pool.channels 0 (found t.pool key))

    between : Tuner
    between = with_pool t (released t.pool key)

    made : Press × State
    made = pressed (released t.pool key) key (nearest_note hz) (detuning_of hz (nearest_note hz))

    own : List ℕ
    own = press_bytes (with_pool t (released t.pool key)) v (pressing none made.0)

    both : (register_rule (released t.pool key) key hz ≡ value (pressing none made.0, made.1))
        × (register_rule t.pool key hz ≡ value (pressing (found t.pool key) made.0, made.1))
    both = model_composes t.pool key hz on pitch

    same : own ≡ bytes_of (accepted_messages t v made.0)
    same = ap bytes_of (accepted_same t (released t.pool key) v made.0 (released_same t.pool key).channels)

-- It is refused 8, 1 or 10, and never 11.
pub never_11 :
    (t : Tuner) (key : ℕ) (hz : Float) (v room : ℕ) → t.pool.retrigger ≡ On → Among (8 ∷ 1 ∷ 10 ∷ []) (check_room room (note_on_rule t key hz v))
never_11 t key hz v room on =
    subst (λ (r : Retrigger). Among (press_allowed r) (check_room room (note_on_rule t key hz v))) on (press_numbers t key hz v room)

-- ---- the room

-- With or without retrigger, a press that the model does not refuse is refused 10 exactly where the bytes of its release and its own do not fit together;
-- a rejected press has those of the release alone.
pub ten_exactly :
    (t : Tuner) (key : ℕ) (hz : Float) (v room n : ℕ) {p : Pressing} {u : State} → v < 128 → register_rule t.pool key hz ≡ value (p, u)
    → (check_room room (note_on_rule t key hz v) ≡ refused n) ↔ ((room < length (press_bytes t v p)) × (n ≡ buffer_too_short))
ten_exactly t key hz v room n {p} {u} low e = (λ h. room_refuses room f (sym made ∙ h), back)
  where
    f : Effect PressResult Tuner
    f = let bs = press_bytes t v p in record { result = press_result p.press bs; bytes = bs; next = with_pool t u }

    made : check_room room (note_on_rule t key hz v) ≡ check_room room (value f)
    made = ap (check_room room) (note_on_value t key hz v low e)

    back : (room < length (press_bytes t v p)) × (n ≡ buffer_too_short) → check_room room (note_on_rule t key hz v) ≡ refused n
    back h = made ∙ rw (lt-leb (length (press_bytes t v p)) room h.0) (ap refused (sym h.1))
