-- Refusals of the calls of the tuners and of messages: a refused call alters neither the state nor one byte lent to it, its number is one of those that the
-- call is allowed, and the tests are met in their order.
use mathlib.Core.Path.{◌≡◌, refl, sym, ap, ◌∙◌}
use mathlib.Core.Logic.{◌⊎◌, inl, inr, ◌↔◌}
use mathlib.Core.Bool.{Bool, true, false, cond}
use mathlib.Core.List.{List, [], ◌∷◌}
use Prim.Native.Nat.{ℕ, ◌≤◌, ◌<◌}
use native.Mathlib.Omega.{arith}
use lib.Dec.{ltb, leb}
use lib.ListN.{length}
use borrow.Author.Tests.{le-ltb, lt-ltb, lt-leb, le-leb, ltb-true, ltb-false, leb-false}
use mathlib.Core.Option.{Option, none}
use lib.Ieee.{Float}
use lib.Ieee.Positive.{positive}
use Rattle.channels.specs.Outcome.{Outcome, value, refused, refuse◌unless◌then◌}
use Rattle.channels.specs.Refusal.{channel_over15, buffer_too_short}
use Rattle.plans.specs.Plan.{Model, untuned, planned}
use Rattle.channels.specs.Lists.{member}
use Rattle.channels.specs.Places.{Place}
use Rattle.pools.specs.Pool.{State, Pressing, rejected, fresh, found, register_rule, repitch_rule}
use Rattle.channels.specs.TuningValue.{sent_as, tuning_rule}
use Rattle.channels.specs.declared.tuning_value.Tuning.{Tuning}
use Rattle.channels.specs.declared.tuning_value.TuningKind.{TuningKind}
use Rattle.pools.specs.declared.settings.PoolingMode.{PoolingMode}
use Rattle.pools.specs.declared.settings.Retrigger.{Retrigger}
use Rattle.pools.specs.declared.settings.Retrigger.TheVariants.{Off, On}
use Rattle.pools.specs.declared.settings.PoolGroupBy.TheVariants.{Channel as PoolGroup}
use Rattle.theorems.proofs.Pools.Presses.{repitch_unknown}
use Rattle.theorems.proofs.Pools.Retrigger.{not_may_off}
use Rattle.theorems.proofs.Pools.Refusals.{open_offence, register_refuses, repitch_refuses}
use Rattle.senders.specs.Buffer.{Effect, WriteOutcome, sent, check_room, result_of, StateAfter, buffer_after, CallMeets}
use Rattle.senders.specs.Mts.{tuning_sent, channel_tuning_rule}
use Rattle.senders.specs.Tuner.{key_rule, to_all_rule}
use Rattle.senders.specs.Jit.{Tuner, with_pool, press_rejected, pressing, press_effect, start_rule, note_on_rule, note_off_rule, repitch_effect, note_pitch_rule, stop_rule}
use Rattle.plan_tuner.specs.Aot as Plan
use Rattle.theorems.specs.Entries.{Among, MessageRefused, press_allowed, event_allowed}
use Rattle.senders.specs.Message.{Valid, is_channel, is_data, is_bend}
use Rattle.senders.specs.Midi.{bytes, to_message, check_data, message_rule}
use Rattle.senders.specs.Event.{as_press, with_same_tuner, call_rule, play_rule}
use Rattle.senders.specs.declared.event.Event.{Event}
use Rattle.senders.specs.declared.event.EventKind.{EventKind}
use Rattle.senders.specs.declared.event.EventKind.TheVariants.{Press as PressKind, Release, Repitch}
use Rattle.senders.specs.declared.midi.ChannelMessageType.{ChannelMessageType}
use Rattle.senders.specs.declared.midi.ChannelMessageType.TheVariants.{NoteOff, NoteOn, PolyphonicKeyPressure, ControlChange, ProgramChange, ChannelPressure, PitchBendChange}
use Rattle.senders.specs.declared.tuner.NoteMessage.{NoteMessage}
use Rattle.senders.proofs.Bytes.Messages.{message_accepted, checked_valid, checked_refused}

-- ---- nothing is altered

unchanged_by :
    {R S T : Type 0} (view : T → S) (f : Outcome (Effect R S)) (s back : T) {old new : List ℕ} {n : ℕ} → refused n ≡ result_of f → StateAfter view f s back
    → new ≡ buffer_after f old → (back ≡ s) × (new ≡ old)
unchanged_by view (value e) s back t m l = let z : ◌≡◌ {A = ℕ} 0 1 = cc in absurd (omega arith)
unchanged_by view (refused k) s back t m l = (m, l)

pub refused_unchanged :
    {R S T : Type 0} {view : T → S} {rule : Outcome (Effect R S)} {s back : T} {old new : List ℕ} {n : ℕ}
    → CallMeets view rule s old (refused n) back new → (back ≡ s) × (new ≡ old)
refused_unchanged {view = view} {rule = rule} {s = s} {back = back} {old = old} p =
    unchanged_by view (check_room (length old) rule) s back p.result_is p.state_is p.buffer_is

-- ---- which numbers

pub among_test : {A : Type 0} (ns : List ℕ) (n : ℕ) (test : Bool) (o : Outcome A) → member n ns ≡ true → Among ns o → Among ns (cond test o (refused n))
among_test ns n true o h k = k
among_test ns n false o h k = h

pub among_check_room :
    {R S : Type 0} (ns : List ℕ) (room : ℕ) (rule : Outcome (Effect R S)) → member 10 ns ≡ true → Among ns rule → Among ns (check_room room rule)
among_check_room ns room (value e) h k = among_test ns 10 (leb (length e.bytes) room) (value e) h tt
among_check_room ns room (refused n) h k = k

among_two_tests :
    {A : Type 0} (ns : List ℕ) (a b : Bool) (o : Outcome A) → member 8 ns ≡ true → Among ns o
    → Among ns (cond a (cond b o (refused 8)) (refused 8))
among_two_tests ns a b o h k = among_test ns 8 a (cond b o (refused 8)) h (among_test ns 8 b o h k)

pub among_checked :
    {A : Type 0} (ns : List ℕ) (m : ChannelMessageType) (o : Outcome A) → member 8 ns ≡ true → member 9 ns ≡ true → Among ns o → Among ns (check_data m o)
among_checked ns (NoteOff k v) o h g t = among_two_tests ns (ltb k 128) (ltb v 128) o h t
among_checked ns (NoteOn k v) o h g t = among_two_tests ns (ltb k 128) (ltb v 128) o h t
among_checked ns (PolyphonicKeyPressure k p) o h g t = among_two_tests ns (ltb k 128) (ltb p 128) o h t
among_checked ns (ControlChange n v) o h g t = among_two_tests ns (ltb n 128) (ltb v 128) o h t
among_checked ns (ProgramChange p) o h g t = among_test ns 8 (ltb p 128) o h t
among_checked ns (ChannelPressure p) o h g t = among_test ns 8 (ltb p 128) o h t
among_checked ns (PitchBendChange b) o h g t = among_test ns 9 (is_bend b) o g t

-- A message is refused 6, 8, 9 or 10.
pub message_numbers : (ch : ℕ) (m : ChannelMessageType) (room : ℕ) → Among (6 ∷ 8 ∷ 9 ∷ 10 ∷ []) (check_room room (message_rule ch m))
message_numbers ch m room =
    let ns : List ℕ = 6 ∷ 8 ∷ 9 ∷ 10 ∷ [] in
    let o = check_data m (sent (bytes (to_message ch m))) in
    among_check_room ns room (message_rule ch m) refl
    (among_test ns 6 (ltb ch 16) o refl (among_checked ns m (sent (bytes (to_message ch m))) refl refl tt))

-- A fine tuning or a bend of a detuning is refused 6, 2 or 10.
tuning_among : (ns : List ℕ) (ch : ℕ) (b : Bool) (t : Tuning) → member 2 ns ≡ true → Among ns (tuning_sent ch (cond b (value t) (refused 2)))
tuning_among ns ch true t h = tt
tuning_among ns ch false t h = h

pub tuning_numbers : (kind : TuningKind) (ch : ℕ) (v : Float) (room : ℕ) → Among (6 ∷ 2 ∷ 10 ∷ []) (check_room room (channel_tuning_rule kind ch v))
unfolding tuning_rule
tuning_numbers kind ch v room =
    let ns : List ℕ = 6 ∷ 2 ∷ 10 ∷ [] in
    among_check_room ns room (channel_tuning_rule kind ch v) refl
    (among_test ns 6 (ltb ch 16) (tuning_sent ch (tuning_rule kind v)) refl (tuning_among ns ch (positive v) (sent_as kind v) refl))

-- ---- the tuners' calls

-- A start is refused 6 or 7, and the tuner then has no channels.
pub start_numbers :
    (channels : List ℕ) (kind : TuningKind) (mode : PoolingMode) (retrigger : Retrigger) (n : ℕ)
    → (start_rule channels kind mode retrigger).0 ≡ refused n
    → ((n ≡ 6) ⊎ (n ≡ 7)) × ((start_rule channels kind mode retrigger).1.pool ≡ fresh [] PoolGroup mode retrigger)
start_numbers channels kind mode retrigger n e = let o = open_offence channels PoolGroup mode retrigger n e in (o.0, o.2)

-- A press is refused 8, 1, 11 or 10, and 11 without retrigger alone.
pub among_press :
    (ns : List ℕ) (t : Tuner) (key : ℕ) (hz : Float) (v : ℕ) → member 8 ns ≡ true → member 1 ns ≡ true → (t.pool.retrigger ≡ Off → member 11 ns ≡ true)
    → Among ns (note_on_rule t key hz v)
among_press ns t key hz v eight one eleven =
    among_test ns 8 (ltb v 128) (press_effect t v (register_rule t.pool key hz)) eight (by (register_rule t.pool key hz) refl)
  where
    by : (o : Outcome (Pressing × State)) → register_rule t.pool key hz ≡ o → Among ns (press_effect t v o)
    by (value r) e = tt
    by (refused n) e =
        elim ((register_refuses t.pool key hz n).0 e) [
          | inl h ↦ ap (λ (k : ℕ). member k ns) h.1 ∙ one
          | inr h ↦ ap (λ (k : ℕ). member k ns) h.1.1 ∙ eleven (not_may_off t.pool key h.1.0)
        ]

pub press_numbers : (t : Tuner) (key : ℕ) (hz : Float) (v room : ℕ) → Among (press_allowed t.pool.retrigger) (check_room room (note_on_rule t key hz v))
press_numbers t key hz v room =
    let ns = press_allowed t.pool.retrigger in
    let has = all t.pool.retrigger in
    among_check_room ns room (note_on_rule t key hz v) has.2
    (among_press ns t key hz v has.0 has.1 (λ off. ap (λ (r : Retrigger). member 11 (press_allowed r)) off))
  where
    all : (r : Retrigger) → (member 8 (press_allowed r) ≡ true) × (member 1 (press_allowed r) ≡ true) × (member 10 (press_allowed r) ≡ true)
    all Off = (refl, refl, refl)
    all On = (refl, refl, refl)

-- A release is refused 8 or 10.
pub release_numbers : (t : Tuner) (key v room : ℕ) → Among (8 ∷ 10 ∷ []) (check_room room (note_off_rule t key v))
release_numbers t key v room =
    among_check_room (8 ∷ 10 ∷ []) room (note_off_rule t key v) refl (among_test (8 ∷ 10 ∷ []) 8 (ltb v 128) _ refl tt)

-- So are presses, releases and pressures of keys that keep their place.
pub key_numbers :
    (kind : NoteMessage) (channels : List ℕ) (v : ℕ) (o : Option Place) (room : ℕ)
    → Among (8 ∷ 10 ∷ []) (check_room room (key_rule kind channels v o))
key_numbers kind channels v o room =
    among_check_room (8 ∷ 10 ∷ []) room (key_rule kind channels v o) refl (among_test (8 ∷ 10 ∷ []) 8 (ltb v 128) _ refl tt)

-- A repitch is refused 1 or 10, that of an unknown key 1 alone.
pub among_repitch : (ns : List ℕ) (t : Tuner) (key : ℕ) (hz : Float) → member 1 ns ≡ true → Among ns (note_pitch_rule t key hz)
among_repitch ns t key hz h = by (repitch_rule t.pool key hz) refl
  where
    by : (o : Outcome (Option (Place × Float))) → repitch_rule t.pool key hz ≡ o → Among ns (repitch_effect t o)
    by (value r) e = tt
    by (refused n) e = ap (λ (k : ℕ). member k ns) ((repitch_refuses t.pool key hz n).0 e).1 ∙ h

pub repitch_numbers : (t : Tuner) (key : ℕ) (hz : Float) (room : ℕ) → Among (1 ∷ 10 ∷ []) (check_room room (note_pitch_rule t key hz))
repitch_numbers t key hz room = among_check_room (1 ∷ 10 ∷ []) room (note_pitch_rule t key hz) refl (among_repitch (1 ∷ 10 ∷ []) t key hz refl)

pub repitch_unknown_numbers :
    (t : Tuner) (key : ℕ) (hz : Float) (room : ℕ) → found t.pool key ≡ none → Among (1 ∷ []) (check_room room (note_pitch_rule t key hz))
repitch_unknown_numbers t key hz room e = by (repitch_rule t.pool key hz) refl
  where
    by : (o : Outcome (Option (Place × Float))) → repitch_rule t.pool key hz ≡ o → Among (1 ∷ []) (check_room room (repitch_effect t o))
    by (value r) h = rw (repitch_unknown t.pool key hz e h, le-leb 0 room (omega arith)) tt
    by (refused n) h = ap (λ (k : ℕ). member k (1 ∷ [])) ((repitch_refuses t.pool key hz n).0 h).1

-- An event refuses what the call of its kind refuses.
among_sounding : (ns : List ℕ) (o : Outcome (Effect ℕ Tuner)) → Among ns o → Among ns (as_press o)
among_sounding ns (value e) h = tt
among_sounding ns (refused n) h = h

among_keeping : (ns : List ℕ) (t : Tuner) (o : WriteOutcome) → Among ns o → Among ns (with_same_tuner t o)
among_keeping ns t (value e) h = tt
among_keeping ns t (refused n) h = h

among_call :
    (ns : List ℕ) (k : EventKind) (t : Tuner) (key : ℕ) (hz : Float) (v : ℕ) → member 8 ns ≡ true → member 1 ns ≡ true
    → (t.pool.retrigger ≡ Off → member 11 ns ≡ true)
    → Among ns (call_rule k t key hz v)
among_call ns PressKind t key hz v eight one eleven = among_press ns t key hz v eight one eleven
among_call ns Release t key hz v eight one eleven = among_sounding ns (note_off_rule t key v) (among_test ns 8 (ltb v 128) _ eight tt)
among_call ns Repitch t key hz v eight one eleven = among_keeping ns t (note_pitch_rule t key hz) (among_repitch ns t key hz one)

pub among_play :
    (ns : List ℕ) (t : Tuner) (e : Event) → member 8 ns ≡ true → member 1 ns ≡ true → (t.pool.retrigger ≡ Off → member 11 ns ≡ true)
    → Among ns (play_rule t e)
among_play ns t e eight one eleven = among_call ns e.kind t e.key e.pitch.hz e.velocity eight one eleven

call_numbers :
    (k : EventKind) (t : Tuner) (key : ℕ) (hz : Float) (v room : ℕ) → Among (event_allowed t.pool.retrigger k) (check_room room (call_rule k t key hz v))
call_numbers PressKind t key hz v room = press_numbers t key hz v room
call_numbers Release t key hz v room =
    let rule = note_off_rule t key v in
    among_check_room (8 ∷ 10 ∷ []) room (as_press rule) refl (among_sounding (8 ∷ 10 ∷ []) rule (among_test (8 ∷ 10 ∷ []) 8 (ltb v 128) _ refl tt))
call_numbers Repitch t key hz v room =
    let rule = note_pitch_rule t key hz in
    among_check_room (1 ∷ 10 ∷ []) room (with_same_tuner t rule) refl (among_keeping (1 ∷ 10 ∷ []) t rule (among_repitch (1 ∷ 10 ∷ []) t key hz refl))

pub play_numbers : (t : Tuner) (e : Event) (room : ℕ) → Among (event_allowed t.pool.retrigger e.kind) (check_room room (play_rule t e))
play_numbers t e room = call_numbers e.kind t e.key e.pitch.hz e.velocity room

-- A message to all: 8, 9, 10, also where nothing is sent.
pub global_numbers :
    (kind : TuningKind) (channels : List ℕ) (m : ChannelMessageType) (room : ℕ)
    → Among (8 ∷ 9 ∷ 10 ∷ []) (check_room room (to_all_rule kind channels m))
global_numbers kind channels m room =
    among_check_room (8 ∷ 9 ∷ 10 ∷ []) room (to_all_rule kind channels m) refl (among_checked (8 ∷ 9 ∷ 10 ∷ []) m _ refl refl tt)

-- `stop` is refused 10 alone.
pub stop_numbers : (t : Tuner) (room : ℕ) → Among (10 ∷ []) (check_room room (stop_rule t))
stop_numbers t room = among_check_room (10 ∷ []) room (stop_rule t) refl tt

-- ---- in which order

-- A test comes before the room.
pub test_first :
    {R S : Type 0} (room k : ℕ) (test : Bool) (o : Outcome (Effect R S))
    → check_room room (refuse k unless test then o) ≡ (refuse k unless test then check_room room o)
test_first room k true o = refl
test_first room k false o = refl

-- What is refused behind the tests is refused for want of room alone.
pub room_refuses :
    {R S : Type 0} (room : ℕ) (e : Effect R S) {n : ℕ} → check_room room (value e) ≡ refused n → (room < length e.bytes) × (n ≡ buffer_too_short)
room_refuses room e {n} h = by (leb (length e.bytes) room) refl h
  where
    by : (b : Bool) → leb (length e.bytes) room ≡ b → cond b (value e) (refused buffer_too_short) ≡ refused n → (room < length e.bytes) × (n ≡ buffer_too_short)
    by true l h = let z : ◌≡◌ {A = ℕ} 0 1 = cc in absurd (omega arith)
    by false l h = (leb-false (length e.bytes) room l, (cc))

-- A press: 8 before all else, then what the model refuses, 1 and then 11 by `register_refuses`, then 10 for the bytes of its release and its own together.
pub press_order :
    (t : Tuner) (key : ℕ) (hz : Float) (v room : ℕ)
    → check_room room (note_on_rule t key hz v) ≡ (refuse 8 unless is_data v then check_room room (press_effect t v (register_rule t.pool key hz)))
press_order t key hz v room = test_first room 8 (ltb v 128) (press_effect t v (register_rule t.pool key hz))

-- A rejected press that released nothing never meets 10.
pub rejected_fits :
    (t : Tuner) (v room : ℕ) (u : State)
    → check_room room (press_effect t v (value (pressing none rejected, u))) ≡ value (record { result = press_rejected 0; bytes = []; next = with_pool t u })
rejected_fits t v room u = rw (le-leb 0 room (omega arith))

-- A plan: what its lists are refused with comes before the room.
pub plan_order : (t : Plan.Tuner) (room n : ℕ) → check_room room (Plan.plan_effect t (planned t.plan (refused n))) ≡ refused n
unfolding planned
plan_order t room n = refl

-- A plan for which there are too few channels never meets 10.
pub untuned_fits :
    (t : Plan.Tuner) (room n : ℕ) (m : Model)
    → check_room room (Plan.plan_effect t (m, untuned n)) ≡ value (record { result = Plan.plan_untuned n; bytes = []; next = Plan.with_plan t m })
untuned_fits t room n m = rw (le-leb 0 room (omega arith))

module _ (ch : ℕ) (m : ChannelMessageType) (room : ℕ) where
  -- A channel over 15 is refused before all else.
  pub channel_first : 16 ≤ ch → check_room room (message_rule ch m) ≡ refused channel_over15
  channel_first h = rw (le-ltb ch 16 h)

  -- Then the data decide, whatever room there is.
  pub data_next : {n : ℕ} → ch < 16 → check_data m (value (tt {0})) ≡ refused n → check_room room (message_rule ch m) ≡ refused n
  data_next h e = rw (lt-ltb ch 16 h) (rw (checked_refused m tt (sent (bytes (to_message ch m))) e))

  -- A valid message is refused for want of room alone.
  pub room_last : Valid (to_message ch m) → room < length (bytes (to_message ch m)) → check_room room (message_rule ch m) ≡ refused buffer_too_short
  room_last v h = rw (message_accepted ch m v) (rw (lt-leb (length (bytes (to_message ch m))) room h))

-- When a message is refused, and with which number; nothing else is refused.
module _ (ch : ℕ) (m : ChannelMessageType) (room n : ℕ) where
  abbrev Refused : Type 0
  Refused = MessageRefused ch m room n

  by_data :
      (o : Outcome (Unit {0})) → check_data m (value tt) ≡ o → is_channel ch ≡ true → check_room room (message_rule ch m) ≡ refused n
      → (check_data m (value (tt {0})) ≡ refused n) ⊎ (Valid (to_message ch m) × (room < length (bytes (to_message ch m))) × (n ≡ buffer_too_short))
  by_data (value u) c e h =
      let v = checked_valid m (value tt) c ch (ltb-true ch 16 e) in
      let r = room_refuses room _ (rw (message_accepted ch m v) at h) in
      inr (v, r.0, r.1)
  by_data (refused k) c e h =
      let s = data_next ch m room (ltb-true ch 16 e) c in
      let q : k ≡ n = cc in
      inl (c ∙ ap refused q)

  by_channel : (t : Bool) → is_channel ch ≡ t → check_room room (message_rule ch m) ≡ refused n → Refused
  by_channel true e h = inr (e, by_data (check_data m (value tt)) refl e h)
  by_channel false e h =
      let s = channel_first ch m room (ltb-false ch 16 e) in
      inl (e, (cc))

  back : Refused → check_room room (message_rule ch m) ≡ refused n
  back (inl h) = channel_first ch m room (ltb-false ch 16 h.0) ∙ ap refused (sym h.1)
  back (inr h) = elim h.1 [ inl c ↦ data_next ch m room (ltb-true ch 16 h.0) c | inr r ↦ room_last ch m room r.0 r.1 ∙ ap refused (sym r.2) ]

  pub message_refuses : (check_room room (message_rule ch m) ≡ refused n) ↔ MessageRefused ch m room n
  message_refuses = (by_channel (is_channel ch) refl, back)
