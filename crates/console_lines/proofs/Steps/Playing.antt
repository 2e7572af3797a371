-- A line answered, from what the tuner's call did and what was shown.
use Prim.Native.Nat.{ℕ, ◌/◌, ◌≤◌, ◌<◌, min}
use native.Mathlib.Omega.{arith}
use mathlib.Core.Path.{◌≡◌, refl, sym, ◌∙◌, ap}
use mathlib.Core.Bool.{Bool, true, false, not}
use mathlib.Core.Option.{Option, some, none}
use mathlib.Core.List.{List, [], ◌∷◌, ◌++◌}
use lib.Dec.{leb, eqb}
use lib.Ieee.{Float}
use lib.ListN.{length, take, drop, length-append}
use lib.Seq.{take_at, take-append-le}
use borrow.Author.Tests.{le-leb}
use Rattle.arithmetic.proofs.Rules.Outcomes.{no_value}
use Rattle.arithmetic.specs.Refusal.{number}
use Rattle.arithmetic.specs.declared.refusal.Refusal.{Refusal}
use Rattle.arithmetic.specs.declared.refusal.Refusal.TheVariants.{PitchOutOfRange, NotMeasurable, DetuningOutOfRange, NoteOutOfRange, KeyTwice, ChannelOver15, ChannelTwice}
use Rattle.arithmetic.specs.declared.refusal.Refusal.TheVariants.{DataByteOver127, BendOutOfRange, BufferTooShort, KeyHeld, ListsUnequal, LineMalformed}
use Rattle.channels.specs.Outcome.{Outcome, value, refused, refuse◌unless◌then◌}
use Rattle.channels.specs.Refusal.{buffer_too_short}
use Rattle.arithmetic.specs.declared.pitch.Pitch.{Pitch}
use Rattle.arithmetic.specs.Pitch.{is_pitch, detuning_of}
use Rattle.arithmetic.specs.Nearest.{nearest_note}
use Rattle.channels.specs.Places.{Place}
use Rattle.pools.specs.Pool.{State, Pressing, found, released, may_press, repeated, unless_held, register_rule, tuning, repitch_rule}
use Rattle.senders.specs.Buffer.{Effect, sends, sent, CallMeets, WriteMeets}
use Rattle.senders.specs.Jit.{Tuner, with_pool, PressResult, press_effect, repitch_effect, note_off_rule}
use Rattle.senders.specs.Event.{as_press, with_same_tuner, call_rule, play_rule, count, Counts}
use Rattle.senders.specs.Message.{is_data}
use Rattle.senders.specs.Midi.{bytes_of}
use Rattle.senders.specs.Tuner.{key_messages}
use Rattle.senders.specs.declared.tuner.NoteMessage.TheVariants.{Off}
use Rattle.senders.proofs.Tuners.Buffer.{ends_short}
use Rattle.senders.proofs.Bytes.Room.{play_counts}
use Rattle.console_lines.specs.Split.{split}
use Rattle.console_lines.specs.Grammar.{allowed}
use Rattle.console_lines.specs.Line.{Event, event, kind_of, event_of, of_fields, meaning, parsed}
use Rattle.console_lines.specs.Line.{number as digits_number}
use Rattle.console_lines.specs.Show.{bytes_line, refusal_line}
use Rattle.console_lines.specs.Console.{bytes_alone, pitch_of, event_rule, shown, answer, next, line_rule}
use Rattle.console_lines.proofs.Text.Shows.{length_bytes_line}
use Rattle.console_lines.proofs.Text.Puts.{sent_all, sent_none}
use Rattle.console_lines.specs.declared.line.ParsedEvent.{ParsedEvent}
use Rattle.senders.specs.declared.event.Event.{Event as TunerEvent}
use Rattle.senders.specs.declared.event.EventKind.{EventKind}
use Rattle.senders.specs.declared.event.EventKind.TheVariants.{Press, Release, Repitch}

-- ---- an event in the words of `event_rule`

abbrev pub bytes_counted : Outcome PressResult → Outcome ℕ
bytes_counted (value p) = value (count p)
bytes_counted (refused n) = refused n

-- what was played, by the bytes it sends
played_meets : {T : Type 0} {view : T → Tuner} {t back : T} {old new : List ℕ} {a : Outcome PressResult} (rule : Outcome (Effect PressResult Tuner))
    → Counts count rule
    → CallMeets view rule t old a back new → CallMeets view (bytes_alone rule) t old (bytes_counted a) back new
unfolding bytes_alone
played_meets {view = view} {t = t} {back = back} {old = old} {new = new} {a = a} (value e) n s = go (leb (length e.bytes) (length old)) refl
  where
    go : (b : Bool) → leb (length e.bytes) (length old) ≡ b → CallMeets view (sends e.bytes e.next) t old (bytes_counted a) back new
    go true h =
        record {
          result_is = rw h (ap bytes_counted (rw h at s.result_is) ∙ ap value n.0);
          state_is = rw h (rw h at s.state_is);
          buffer_is = rw h (rw h at s.buffer_is);
        }
    go false h =
        record {
          result_is = rw h (ap bytes_counted (rw h at s.result_is));
          state_is = rw h (rw h at s.state_is);
          buffer_is = rw h (rw h at s.buffer_is);
        }
played_meets (refused k) n s = record { result_is = ap bytes_counted s.result_is; state_is = s.state_is; buffer_is = s.buffer_is }

-- the event of a line
pub event_meets : {T : Type 0} {view : T → Tuner} (u : Tuner) {t back : T} {old new : List ℕ} {o : Outcome Event} (e : ParsedEvent) → value (parsed e) ≡ o
    → (p : Pitch) → p.hz ≡ pitch_of e.millihertz → {a : Outcome PressResult} {r : Outcome ℕ}
    → CallMeets view (play_rule u (record { kind = e.kind; key = e.key; pitch = p; velocity = e.velocity })) t old a back new → r ≡ bytes_counted a
    → CallMeets view (event_rule u o) t old r back new
unfolding event_rule
event_meets u e w p h s q =
    let played : TunerEvent = record { kind = e.kind; key = e.key; pitch = p; velocity = e.velocity } in
    rw (q, ← w, ← h) (played_meets (play_rule u played) (play_counts u played) s)

-- no event
pub malformed_meets : {T : Type 0} {view : T → Tuner} (u : Tuner) {t : T} {old : List ℕ} {o : Outcome Event} {n : ℕ} {a : Outcome ℕ}
    → refused n ≡ o → a ≡ refused n
    → CallMeets view (event_rule u o) t old a t old
unfolding event_rule
malformed_meets u e h = rw (← e, h) (record { result_is = refl; state_is = refl; buffer_is = refl })

-- ---- an event's effect: bytes that are counted, and no more than 21; or a refusal

pub data Effected (o : Outcome (Effect ℕ Tuner)) : Type 0 where
  sending : (bs : List ℕ) (t : Tuner) → o ≡ sends bs t → length bs ≤ 21 → Effected o
  refusing : (n : ℕ) → o ≡ refused n → Effected o

played_effect : (o : Outcome (Effect PressResult Tuner)) → Counts count o → Effected (bytes_alone o)
unfolding bytes_alone
played_effect (value e) n = sending e.bytes e.next refl n.1
played_effect (refused k) n = refusing k refl

pub event_effected : (t : Tuner) (m : Outcome Event) → Effected (event_rule t m)
unfolding event_rule
event_effected t (value (event k key m v)) =
    let e : TunerEvent = record { kind = k; key = key; pitch = record { hz = pitch_of m }; velocity = v } in
    played_effect (play_rule t e) (play_counts t e)
event_effected t (refused n) = refusing n refl

-- ---- what a call answered

-- it sent n bytes, which stand at the buffer's start
pub record SentHere (o : Outcome (Effect ℕ Tuner)) (n : ℕ) (back : Tuner) (new : List ℕ) : Type 0 where
  pub effect_is : o ≡ sends (take n new) back
  pub within : n ≤ length new

-- also with more behind the buffer
pub sent_longer : {o : Outcome (Effect ℕ Tuner)} {n : ℕ} {back : Tuner} {new : List ℕ} → SentHere o n back new → (rest : List ℕ)
    → SentHere o n back (new ++ rest)
sent_longer {o} {n} {back} {new} w rest =
    record {
      effect_is = w.effect_is ∙ ap (λ (l : List ℕ). sends l back) (sym (take-append-le n new rest w.within));
      within = omega (arith, length-append new rest);
    }

-- it was refused: by its rule, or for want of room
pub data Unsent (o : Outcome (Effect ℕ Tuner)) (room n : ℕ) : Type 0 where
  by_rule : o ≡ refused n → Unsent o room n
  by_room : (bs : List ℕ) (t : Tuner) → o ≡ sends bs t → length bs ≤ 21 → room < length bs → n ≡ 10 → Unsent o room n

module _ {T : Type 0} {view : T → Tuner} {o : Outcome (Effect ℕ Tuner)} {t back : T} {old new : List ℕ} {n : ℕ} where
  pub value_sent : Effected o → CallMeets view o t old (value n) back new → SentHere o n (view back) new
  value_sent (refusing k e) s = no_value n k (rw e at s.result_is)
  value_sent (sending bs u e l) s =
      let a = sent_all (rw e at s) in
      let k : take n new ≡ bs = ap (take n) a.buffer_is ∙ take_at bs (drop (length bs) old) n (sym a.count_is) in
      record { effect_is = rw (k, a.next_is) e; within = rw (a.buffer_is, length-append) (omega (arith, a.count_is)) }

  pub refused_unsent : Effected o → CallMeets view o t old (refused n) back new → Unsent o (length old) n × (back ≡ t)
  refused_unsent (refusing k e) s =
      let v : refused n ≡ refused k = rw e at s.result_is in
      let i : k ≡ n = cc v in
      (by_rule (e ∙ ap refused i), rw e at s.state_is)
  refused_unsent (sending bs u e l) s = let a = sent_none (rw e at s) in (by_room bs u e l a.short a.number_is, a.back_is)

-- ---- no line's event is refused for want of room by its rule

abbrev pub roomy : {A : Type 0} → Outcome A → Bool
roomy (value a) = true
roomy (refused n) = not (eqb n buffer_too_short)

roomy_unless : {A : Type 0} (k : ℕ) (b : Bool) (o : Outcome A) → not (eqb k buffer_too_short) ≡ true → roomy o ≡ true → roomy (refuse k unless b then o) ≡ true
roomy_unless k true o h p = p
roomy_unless k false o h p = h

register_roomy : (s : State) (key : ℕ) (hz : Float) → roomy (register_rule s key hz) ≡ true
unfolding register_rule unless_held
register_roomy s key hz =
    let note = nearest_note hz in
    roomy_unless 1 (is_pitch hz) (unless_held s key note (detuning_of hz note)) refl
    (roomy_unless 11 (may_press s key) (value (repeated s key note (detuning_of hz note))) refl refl)

repitch_roomy : (s : State) (key : ℕ) (hz : Float) → roomy (repitch_rule s key hz) ≡ true
unfolding repitch_rule
repitch_roomy s key hz = roomy_unless 1 (is_pitch hz) (value (tuning hz (found s key))) refl refl

effect_roomy : (t : Tuner) (v : ℕ) (o : Outcome (Pressing × State)) → roomy o ≡ true → roomy (press_effect t v o) ≡ true
effect_roomy t v (value r) p = refl
effect_roomy t v (refused n) p = p

sounding_roomy : (o : Outcome (Effect ℕ Tuner)) → roomy o ≡ true → roomy (as_press o) ≡ true
sounding_roomy (value e) p = refl
sounding_roomy (refused n) p = p

keeping_roomy : (t : Tuner) (o : Outcome (Option (Place × Float))) → roomy o ≡ true → roomy (with_same_tuner t (repitch_effect t o)) ≡ true
keeping_roomy t (value e) p = refl
keeping_roomy t (refused n) p = p

call_roomy : (k : EventKind) (t : Tuner) (key : ℕ) (hz : Float) (v : ℕ) → roomy (call_rule k t key hz v) ≡ true
call_roomy Press t key hz v =
    let pressed = register_rule t.pool key hz in
    roomy_unless 8 (is_data v) (press_effect t v pressed) refl (effect_roomy t v pressed (register_roomy t.pool key hz))
call_roomy Release t key hz v =
    sounding_roomy (note_off_rule t key v)
    (roomy_unless 8 (is_data v) (sends (bytes_of (key_messages Off t.pool.channels v (found t.pool key))) (with_pool t (released t.pool key))) refl refl)
call_roomy Repitch t key hz v = keeping_roomy t (repitch_rule t.pool key hz) (repitch_roomy t.pool key hz)

bytes_alone_roomy : (o : Outcome (Effect PressResult Tuner)) → roomy o ≡ true → roomy (bytes_alone o) ≡ true
unfolding bytes_alone
bytes_alone_roomy (value e) p = refl
bytes_alone_roomy (refused n) p = p

event_roomy : (t : Tuner) (o : Outcome Event) → roomy o ≡ true → roomy (event_rule t o) ≡ true
unfolding event_rule
event_roomy t (value (event k key m v)) p =
    bytes_alone_roomy (play_rule t (record { kind = k; key = key; pitch = record { hz = pitch_of m }; velocity = v })) (call_roomy k t key (pitch_of m) v)
event_roomy t (refused n) p = p

four_roomy : (k : Option EventKind) (a m v : Option ℕ) → roomy (event_of k a m v) ≡ true
unfolding event_of
four_roomy none a m v = refl
four_roomy (some k) none m v = refl
four_roomy (some k) (some a) none v = refl
four_roomy (some k) (some a) (some m) none = refl
four_roomy (some k) (some a) (some m) (some v) = roomy_unless 13 (allowed k a m v) (value (event k a m v)) refl refl

fields_roomy : (fs : List (List ℕ)) → roomy (of_fields fs) ≡ true
unfolding of_fields
fields_roomy [] = refl
fields_roomy (k ∷ []) = refl
fields_roomy (k ∷ a ∷ []) = refl
fields_roomy (k ∷ a ∷ m ∷ []) = refl
fields_roomy (k ∷ a ∷ m ∷ v ∷ []) = four_roomy (kind_of k) (digits_number 3 a) (digits_number 9 m) (digits_number 3 v)
fields_roomy (k ∷ a ∷ m ∷ v ∷ f ∷ fs) = refl

line_roomy : (line : List ℕ) → roomy (meaning line) ≡ true
unfolding meaning
line_roomy line = roomy_unless 13 (leb (length line) 64) (of_fields (split 44 line)) refl (fields_roomy (split 44 line))

-- The tuner's own tests never answer 10, so that a 10 always means the room.
pub event_not_short : (t : Tuner) (o : Outcome Event) → roomy o ≡ true → {n : ℕ} → event_rule t o ≡ refused n → n ≡ 10 → ⊥
event_not_short t o p {n} e i = absurd (let z : true ≡ not (eqb 10 10) = sym (rw (e, i) at (event_roomy t o p)) in cc z)

-- 10 is the number of one refusal
pub too_short_of_number : (r : Refusal) → number r ≡ 10 → r ≡ BufferTooShort
too_short_of_number PitchOutOfRange e = absurd (omega arith)
too_short_of_number NotMeasurable e = absurd (omega arith)
too_short_of_number DetuningOutOfRange e = absurd (omega arith)
too_short_of_number NoteOutOfRange e = absurd (omega arith)
too_short_of_number KeyTwice e = absurd (omega arith)
too_short_of_number ChannelOver15 e = absurd (omega arith)
too_short_of_number ChannelTwice e = absurd (omega arith)
too_short_of_number DataByteOver127 e = absurd (omega arith)
too_short_of_number BendOutOfRange e = absurd (omega arith)
too_short_of_number BufferTooShort e = refl
too_short_of_number KeyHeld e = absurd (omega arith)
too_short_of_number ListsUnequal e = absurd (omega arith)
too_short_of_number LineMalformed e = absurd (omega arith)

-- ---- the answer's line

line_sent : (t : Tuner) (line : List ℕ) {n : ℕ} {back : Tuner} {bs : List ℕ} → SentHere (event_rule t (meaning line)) n back bs
    → (answer t line ≡ bytes_line (take n bs)) × (next t line ≡ back)
unfolding answer next shown
line_sent t line w = (rw w.effect_is, rw w.effect_is)

pub line_refused : (t : Tuner) (line : List ℕ) (n : ℕ) → event_rule t (meaning line) ≡ refused n → (answer t line ≡ refusal_line n) × (next t line ≡ t)
unfolding answer next shown
line_refused t line n e = (rw e, rw e)

module _ {T : Type 0} {view : T → Tuner} (u : Tuner) (line : List ℕ) where
  -- the line of what was sent, with room for it
  pub line_written : {t back : T} {out new bytes : List ℕ} {n : ℕ} {a : Outcome ℕ} → SentHere (event_rule u (meaning line)) n (view back) bytes
      → length (bytes_line (take n bytes)) ≤ length out → WriteMeets (sent (bytes_line (take n bytes))) out a new
      → CallMeets view (line_rule u line) t out a back new
  line_written {t} {back} {out} {new} {bytes} {n} {a} w fits p =
      let l = line_sent u line w in
      let text = bytes_line (take n bytes) in
      let h : leb (length text) (length out) ≡ true = le-leb (length text) (length out) fits in
      let s : CallMeets view (sends text (view back)) t out a back new =
      record { result_is = rw h (rw h at p.result_is); state_is = rw h refl; buffer_is = rw h (rw h at p.buffer_is) } in
      rw (l.0, l.1) s

  -- that of a refusal, which leaves the tuner
  line_kept : {t : T} {out new : List ℕ} {n : ℕ} {a : Outcome ℕ} → view t ≡ u → event_rule u (meaning line) ≡ refused n
      → WriteMeets (sent (refusal_line n)) out a new → CallMeets view (line_rule u line) t out a t new
  line_kept {t} {out} {new} {n} {a} same e p = rw (l.0, l.1) (go (leb (length (refusal_line n)) (length out)) refl)
    where
      l : (answer u line ≡ refusal_line n) × (next u line ≡ u)
      l = line_refused u line n e

      go : (b : Bool) → leb (length (refusal_line n)) (length out) ≡ b → CallMeets view (sends (refusal_line n) u) t out a t new
      go true h = record { result_is = rw h (rw h at p.result_is); state_is = rw h same; buffer_is = rw h (rw h at p.buffer_is) }
      go false h = record { result_is = rw h (rw h at p.result_is); state_is = rw h refl; buffer_is = rw h (rw h at p.buffer_is) }

  -- no room for the line of what would be sent
  line_short : {t : T} {out bs : List ℕ} {w : Tuner} → event_rule u (meaning line) ≡ sends bs w → length out < length (bytes_line bs)
      → CallMeets view (line_rule u line) t out (refused buffer_too_short) t out
  unfolding answer shown
  line_short {t} {out} {bs} {w} e h =
      let text : answer u line ≡ bytes_line bs = ap (λ (o : Outcome (Effect ℕ Tuner)). shown o) e in
      ends_short {view = view} {s = t} refl (rw text h)

  -- the tuner was refused for want of room: there is none for the answer's line
  pub unsent_short : {t back : T} {out : List ℕ} {room n : ℕ} → Unsent (event_rule u (meaning line)) room n × (back ≡ t)
      → n ≡ 10 → room ≡ min (length out / 3) 21
      → CallMeets view (line_rule u line) t out (refused n) back out
  unsent_short {t} {back} {out} {room} {n} h ten fits = rw (h.1, ten) (go h.0)
    where
      go : Unsent (event_rule u (meaning line)) room n → CallMeets view (line_rule u line) t out (refused 10) t out
      go (by_rule e) = absurd (event_not_short u (meaning line) (line_roomy line) e ten)
      go (by_room bs w e few more i) = line_short e (omega (arith, length_bytes_line bs (omega arith)))

  -- it was refused otherwise, which is shown
  pub unsent_shown : {t back : T} {out new : List ℕ} {room n : ℕ} {a : Outcome ℕ} → view t ≡ u → Unsent (event_rule u (meaning line)) room n × (back ≡ t)
      → (n ≡ 10 → ⊥) → WriteMeets (sent (refusal_line n)) out a new → CallMeets view (line_rule u line) t out a back new
  unsent_shown {t} {back} {out} {new} {room} {n} {a} same h other p = rw h.1 (go h.0)
    where
      go : Unsent (event_rule u (meaning line)) room n → CallMeets view (line_rule u line) t out a t new
      go (by_rule e) = line_kept same e p
      go (by_room bs w e few more i) = absurd (other i)
