-- What the calls of a pool tuner wrote, as a reader and a receiver by the Specification take it, from any state they were in: a press, a release, a
-- repitch and `stop`. BothTuners has pressures and messages to all.
use mathlib.Core.Path.{◌≡◌, refl, sym, ap, subst, ◌∙◌}
use mathlib.Core.Bool.{Bool, true, false, cond}
use mathlib.Core.Option.{Option, some, none}
use mathlib.Core.List.{List, [], ◌∷◌, ◌++◌, append-nil}
use Prim.Native.Nat.{ℕ, zero, suc, ◌<◌}
use native.Mathlib.Omega.{arith}
use lib.Dec.{ltb, eqb}
use lib.IntN.{ℤ, pos, negsuc}
use lib.Ieee.{Float}
use Rattle.std.proofs.Math.Option.{none-ne-some}
use lib.ListN.{length, take, drop, get_or, get_elem?}
use lib.Seq.{take_at}
use borrow.Author.Tests.{lt-ltb, ltb-true, eq-eqb}
use Rattle.arithmetic.specs.Nearest.{nearest_note}
use Rattle.arithmetic.specs.Pitch.{detuning_of}
use Rattle.channels.specs.Outcome.{Outcome, value}
use Rattle.channels.specs.Places.{Place}
use Rattle.pools.specs.Pool.{State as Pools, Held, accepted, rejected, found, register_rule, repitch_rule, held_from, held_keys}
use Rattle.channels.specs.TuningValue.{sent_as}
use Rattle.channels.specs.declared.tuning_value.TuningKind.{TuningKind}
use Rattle.theorems.specs.Bounds.{value_of, StepBound}
use Rattle.pools.specs.View.{view as pool_view, state_with}
use Rattle.theorems.proofs.Pools.Pitches.{press_pitch, press_law}
use Rattle.channels.proofs.Values.{sent_in_steps}
use Rattle.senders.specs.Buffer.{Effect, sent, CallMeets, WriteMeets, overwrite}
use Rattle.senders.specs.Message.{Message}
use Rattle.senders.specs.Midi.{bytes_of}
use Rattle.senders.specs.Event.{count}
use Rattle.senders.specs.Tuner.{key_messages, on_channel, press_messages}
use Rattle.senders.specs.Jit.{Tuner, view, with_pool, PressResult, press_sent, press_rejected, pressing, press_bytes, note_on_rule, note_off_rule, note_pitch_rule, repitch_messages, release_messages, stop_rule}
use Rattle.theorems.specs.Reader.{State, read}
use Rattle.theorems.specs.Receiver.{Channel, Receiver, Other, with_note, receive_all, receive_bytes}
use Rattle.theorems.specs.ExpectedEffect.{tuned, noted, pressed, on_listed, key_expected, in_turn, value_in}
use Rattle.senders.specs.declared.tuner.NoteMessage.TheVariants.{Off}
use Rattle.senders.specs.declared.jit.JitTuner.{JitTuner}
use Rattle.theorems.proofs.Bytes.Read.{read_plain, sent_read_plain}
use Rattle.senders.proofs.Tuners.Calls.{note_on_accepted, note_on_rejected, note_off_accepted}
use Rattle.theorems.proofs.Receiver.Conveyed.{Conveys, conveys_none, conveys_append, conveys_each, sent_conveyed, conveys_key, conveys_tuning, conveys_press}
use Rattle.theorems.proofs.Bytes.Accepted.{accepted as done}
use Rattle.senders.proofs.Bytes.Messages.{test_held, bytes_append}
use Rattle.theorems.proofs.Receiver.Received.{pressed_value}

-- What a press says it wrote, rejected or not, stands at the buffer's start.
pub press_starts :
    {T : Type 0} {view : T → Tuner} {rule : Outcome (Effect PressResult Tuner)} {s back : T} {next : Tuner} {bs old new : List ℕ} {answer result : PressResult}
    → count result ≡ length bs → rule ≡ value (record { result = result; bytes = bs; next = next }) → CallMeets view rule s old (value answer) back new
    → take (count answer) new ≡ bs
press_starts {bs = bs} {old = old} {new = new} {answer = answer} {result = result} counts e p =
    let a = done p in
    let f = sym e ∙ a.rule_is in
    let is : bs ≡ a.effect.bytes = cc in
    let says : answer ≡ result = cc in
    let k : count answer ≡ length bs = ap count says ∙ counts in
    ap (λ (l : List ℕ). take (count answer) l) a.new_is
    ∙ ap (λ (l : List ℕ). take (count answer) (overwrite l old)) (sym is)
    ∙ take_at bs (drop (length bs) old) (count answer) (sym k)

module _ (other : Other) (st : State) (r : Receiver) (self : JitTuner) where
  abbrev channels : List ℕ
  channels = (view self).pool.channels

  abbrev tuning_kind : TuningKind
  tuning_kind = (view self).tuning_kind

  module _ {back : JitTuner} {old new : List ℕ} {n : ℕ} where
    -- An accepted press: a reader finds the note-off of the key that was released first, and its own messages; the released key's note is off, then the
    -- stopped note, the channel tuned, and the new note on.
    module _
        (key : ℕ) (hz : Float) (v : ℕ) {q : Option Place} {i : ℕ} {stopped : Option ℤ} {note : ℤ} {d : Float} {u : Pools}
        (e : register_rule (view self).pool key hz ≡ value (pressing q (accepted i stopped note d), u))
        (p : CallMeets view (note_on_rule (view self) key hz v) self old (value (press_sent n)) back new) where
      abbrev press_sent_messages : List Message
      press_sent_messages = on_channel channels i (λ ch. press_messages ch stopped (sent_as tuning_kind d) note v)

      abbrev sent_messages : List Message
      sent_messages = key_messages Off channels 0 q ++ press_sent_messages

      low : v < 128
      low = ltb-true v 128 (test_held 8 (ltb v 128) _ (done p).rule_is).0

      press_conveyed :
          Conveys other sent_messages
          (λ (x : Receiver). on_listed (get_elem? channels i) (pressed stopped (sent_as tuning_kind d) note v) (key_expected Off channels 0 q x))
      unfolding pool_view state_with
      press_conveyed =
          conveys_append other (conveys_key other self.model.channels Off 0 q (omega arith))
          (conveys_press other self.model.channels i stopped (sent_as tuning_kind d) note v (sent_in_steps tuning_kind d) low)

      pub press_read :
          read st (take n new)
          ≡ key_messages Off channels 0 q ++ on_channel channels i (λ ch. press_messages ch stopped (sent_as tuning_kind d) note v)
      press_read =
          let starts : take n new ≡ press_bytes (view self) v (pressing q (accepted i stopped note d)) =
          press_starts {next = with_pool (view self) u} {bs = press_bytes (view self) v (pressing q (accepted i stopped note d))} {answer = press_sent n} refl
          (note_on_accepted (view self) key hz v low e) p in
          ap (read st) (starts ∙ sym (bytes_append (key_messages Off channels 0 q) press_sent_messages)) ∙ read_plain st sent_messages press_conveyed.plain

      pub press_received :
          receive_bytes other st (take n new) r
          ≡ on_listed (get_elem? channels i) (pressed stopped (sent_as tuning_kind d) note v) (key_expected Off channels 0 q r)
      press_received = ap (λ (l : List Message). receive_all other l r) press_read ∙ press_conveyed.received r

      -- An accepted press is received at its pitch: its note is the nearest one, and the channel has the value of the pitch's detuning from that note,
      -- unclamped and within the bound of its kind.
      pub press_near :
          (ch : ℕ) → get_elem? channels i ≡ some ch
          → (note ≡ nearest_note hz) × (d ≡ detuning_of hz note)
          × StepBound tuning_kind (value_in tuning_kind (receive_bytes other st (take n new) r ch)) d
      press_near ch f =
          let made = press_pitch (view self).pool key hz e refl in
          let value_is : value_in tuning_kind (receive_bytes other st (take n new) r ch) ≡ value_of (sent_as tuning_kind d) =
          ap (λ (x : Receiver). value_in tuning_kind (x ch)) press_received
          ∙ rw (f, eq-eqb ch ch refl) (pressed_value tuning_kind d stopped note v (key_expected Off channels 0 q r ch)) in
          (made.1, made.2, subst (λ (k : ℤ). StepBound tuning_kind k d) (sym value_is) (press_law (view self).pool key hz e refl tuning_kind))

    -- A rejected press: a reader finds the note-off of the key that was released first, whose note is off.
    module _
        (key : ℕ) (hz : Float) (v : ℕ) {q : Option Place} {u : Pools} (e : register_rule (view self).pool key hz ≡ value (pressing q rejected, u))
        (p : CallMeets view (note_on_rule (view self) key hz v) self old (value (press_rejected n)) back new) where
      rejected_conveyed : Conveys other (key_messages Off channels 0 q) (key_expected Off channels 0 q)
      unfolding pool_view state_with
      rejected_conveyed = conveys_key other self.model.channels Off 0 q (omega arith)

      pub rejected_read : read st (take n new) ≡ key_messages Off channels 0 q
      rejected_read =
          let small : v < 128 = ltb-true v 128 (test_held 8 (ltb v 128) _ (done p).rule_is).0 in
          let starts : take n new ≡ press_bytes (view self) v (pressing q rejected) =
          press_starts {next = with_pool (view self) u} {bs = press_bytes (view self) v (pressing q rejected)} {answer = press_rejected n} refl
          (note_on_rejected (view self) key hz v small e) p in
          ap (read st) (starts ∙ append-nil (bytes_of (key_messages Off channels 0 q)))
          ∙ read_plain st (key_messages Off channels 0 q) rejected_conveyed.plain

      pub rejected_received : receive_bytes other st (take n new) r ≡ key_expected Off channels 0 q r
      rejected_received = ap (λ (l : List Message). receive_all other l r) rejected_read ∙ rejected_conveyed.received r

    -- A release: a reader finds its message; the key's note is off.
    module _ (key v : ℕ) (p : CallMeets view (note_off_rule (view self) key v) self old (value n) back new) where
      abbrev release_sent : List Message
      release_sent = key_messages Off channels v (found (view self).pool key)

      release_low : v < 128
      release_low = ltb-true v 128 (test_held 8 (ltb v 128) _ (done p).rule_is).0

      release_conveyed : Conveys other release_sent (key_expected Off channels v (found (view self).pool key))
      unfolding pool_view state_with
      release_conveyed = conveys_key other self.model.channels Off v (found (view self).pool key) release_low

      pub release_read : read st (take n new) ≡ key_messages Off channels v (found (view self).pool key)
      release_read = sent_read_plain st release_sent (note_off_accepted (view self) key v release_low) p release_conveyed.plain

      pub release_received : receive_bytes other st (take n new) r ≡ key_expected Off channels v (found (view self).pool key) r
      release_received = sent_conveyed other st release_sent r release_conveyed (note_off_accepted (view self) key v release_low) p

    -- `stop`: a reader finds a release with velocity 0 for every key that was found, by rising key, and so a receiver takes it.
    module _ (p : CallMeets view (stop_rule (view self)) self old (value n) back new) where
      stop_conveyed :
          Conveys other (release_messages (view self))
          (in_turn (λ (h : Held). key_expected Off channels 0 (some h.place)) (held_keys (view self).pool 0))
      unfolding pool_view state_with
      stop_conveyed =
          conveys_each other (λ (h : Held). key_messages Off channels 0 (some h.place)) (λ (h : Held). key_expected Off channels 0 (some h.place))
          (held_keys (view self).pool 0) (λ h. conveys_key other self.model.channels Off 0 (some h.place) (omega arith))

      pub stop_read : read st (take n new) ≡ release_messages (view self)
      stop_read = sent_read_plain st (release_messages (view self)) refl p stop_conveyed.plain

      pub stop_received :
          receive_bytes other st (take n new) r
          ≡ in_turn (λ (h : Held). key_expected Off channels 0 (some h.place)) (held_keys (view self).pool 0) r
      stop_received = sent_conveyed other st (release_messages (view self)) r stop_conveyed refl p

  module _ {old new : List ℕ} {n : ℕ} where
    -- A repitch of a found key: a reader finds the tuning, and the key's channel is tuned; that of an unknown key changes nothing.
    module _
        (key : ℕ) (hz : Float) (p : Place) (d : Float) (e : repitch_rule (view self).pool key hz ≡ value (some (p, d)))
        (a : WriteMeets (note_pitch_rule (view self) key hz) old (value n) new) where
      abbrev repitch_sent : List Message
      repitch_sent = repitch_messages (view self) (some (p, d))

      repitch_conveyed : Conveys other repitch_sent (on_listed (get_elem? channels p.channel) (tuned (sent_as tuning_kind d)))
      unfolding pool_view state_with
      repitch_conveyed = conveys_tuning other self.model.channels p.channel (sent_as tuning_kind d) (sent_in_steps tuning_kind d)

      sent_repitch : note_pitch_rule (view self) key hz ≡ sent (bytes_of repitch_sent)
      sent_repitch = rw e

      pub repitch_read : read st (take n new) ≡ repitch_messages (view self) (some (p, d))
      repitch_read = sent_read_plain st repitch_sent sent_repitch a repitch_conveyed.plain

      pub repitch_received : receive_bytes other st (take n new) r ≡ on_listed (get_elem? channels p.channel) (tuned (sent_as tuning_kind d)) r
      repitch_received = sent_conveyed other st repitch_sent r repitch_conveyed sent_repitch a

    pub repitch_unknown :
        (key : ℕ) (hz : Float) → repitch_rule (view self).pool key hz ≡ value none → WriteMeets (note_pitch_rule (view self) key hz) old (value n) new
        → receive_bytes other st (take n new) r ≡ r
    repitch_unknown key hz e a =
        let s : note_pitch_rule (view self) key hz ≡ sent [] = rw e in
        sent_conveyed other st [] r (conveys_none other) s a

-- ---- what `stop` comes to: silence

-- A note-off leaves a note off that was off.
stays_off : (note : ℤ) (k : ℕ) (x : Channel) → x.sounds k ≡ false → (noted false note x).sounds k ≡ false
stays_off (pos n) k x h = by (ltb n 128)
  where
    at : (b : Bool) → cond b false (x.sounds k) ≡ false
    at true = refl
    at false = h

    by : (b : Bool) → (cond b (with_note n false x) x).sounds k ≡ false
    by true = at (eqb k n)
    by false = h
stays_off (negsuc n) k x h = h

off_elsewhere : (o : Option ℕ) (note : ℤ) (c k : ℕ) (r : Receiver) → (r c).sounds k ≡ false → (on_listed o (noted false note) r c).sounds k ≡ false
off_elsewhere (some ch) note c k r h = by (eqb c ch)
  where
    by : (b : Bool) → (cond b (noted false note (r c)) (r c)).sounds k ≡ false
    by true = stays_off note k (r c) h
    by false = h
off_elsewhere none note c k r h = h

module _ (channels : List ℕ) where
  abbrev all_off : List Held → Receiver → Receiver
  all_off hs r = in_turn (λ (h : Held). key_expected Off channels 0 (some h.place)) hs r

  stay_off : (hs : List Held) (c k : ℕ) (r : Receiver) → (r c).sounds k ≡ false → (all_off hs r c).sounds k ≡ false
  stay_off [] c k r h = h
  stay_off (g ∷ hs) c k r h =
      stay_off hs c k (on_listed (get_elem? channels g.place.channel) (noted false g.place.note) r)
      (off_elsewhere (get_elem? channels g.place.channel) g.place.note c k r h)

  -- Of every key that was found, on whatever channel, the note is off afterwards.
  all_off_ends :
      (l : List (Option Place)) (from key : ℕ) (p : Place) (c k : ℕ) (r : Receiver) → get_or l key none ≡ some p → get_elem? channels p.channel ≡ some c
      → p.note ≡ pos k → k < 128 → (all_off (held_from from l) r c).sounds k ≡ false
  unfolding held_from
  all_off_ends [] from key p c k r f e n low = absurd (none-ne-some p f)
  all_off_ends (some q ∷ l) from zero p c k r f e n low =
      let same : q ≡ p = cc in
      stay_off (held_from (suc from) l) c k (on_listed (get_elem? channels q.channel) (noted false q.note) r)
      (rw (same, e, n, eq-eqb c c refl, lt-ltb k 128 low, eq-eqb k k refl) refl)
  all_off_ends (none ∷ l) from zero p c k r f e n low = absurd (none-ne-some p f)
  all_off_ends (some q ∷ l) from (suc key) p c k r f e n low =
      all_off_ends l (suc from) key p c k (on_listed (get_elem? channels q.channel) (noted false q.note) r) f e n low
  all_off_ends (none ∷ l) from (suc key) p c k r f e n low = all_off_ends l (suc from) key p c k r f e n low

-- After `stop` the note of every key that was found is off on the key's channel.
pub stop_silences :
    (other : Other) (st : State) (r : Receiver) (self back : JitTuner) {old new : List ℕ} {n : ℕ}
    → CallMeets view (stop_rule (view self)) self old (value n) back new → (key : ℕ) (p : Place) (c k : ℕ) → found (view self).pool key ≡ some p
    → get_elem? (view self).pool.channels p.channel ≡ some c → p.note ≡ pos k → k < 128 → (receive_bytes other st (take n new) r c).sounds k ≡ false
unfolding found held_keys
stop_silences other st r self back {n = n} s key p c k f e note low =
    let chs = (view self).pool.channels in
    ap (λ (q : Receiver). (q c).sounds k) (stop_received other st r self {back = back} s) ∙ all_off_ends chs (view self).pool.keys 0 key p c k r f e note low
