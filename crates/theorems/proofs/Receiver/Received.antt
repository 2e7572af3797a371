-- What a receiver that follows the Specification ends up with, from any state, after each thing that a tuner sends: what the tuner means by it, on
-- the channel it is sent on, and every other channel as it was.
use mathlib.Core.Path.{◌≡◌, refl, ap, ◌∙◌}
use mathlib.Core.Bool.{Bool, true, false, cond}
use mathlib.Core.List.{List}
use mathlib.Core.Option.{Option}
use Prim.Native.Nat.{ℕ, ◌+◌, ◌*◌, ◌<◌}
use lib.Dec.{ltb}
use lib.IntN.{ℤ, pos, negsuc, ◌*ℤ◌}
use lib.Ieee.{Float}
use lib.ListN.{take}
use borrow.Author.Tests.{lt-ltb, eq-eqb}
use Rattle.channels.specs.Outcome.{Outcome, value}
use Rattle.senders.specs.Buffer.{Effect, sends, CallMeets}
use Rattle.senders.specs.Message.{Message, is_bend}
use Rattle.senders.specs.Midi.{bytes_of}
use Rattle.channels.specs.TuningValue.{tuning_of, sent_as, InSteps}
use Rattle.theorems.specs.Bounds.{value_of}
use Rattle.senders.specs.Mts.{tuning_messages}
use Rattle.senders.specs.Tuner.{note_messages, press_messages}
use Rattle.theorems.specs.Reader.{State}
use Rattle.theorems.specs.Padding.{Plain}
use Rattle.theorems.specs.Receiver.{Channel, Receiver, Other, on, with_fine, with_bend, with_sensitivity, with_note, parameter, receive_all, receive_bytes, usual_sensitivity, fine_shift, bend_shift}
use Rattle.theorems.specs.ExpectedEffect.{tuned, noted, note_expected, stopped, pressed, steps, step_size, shift, value_in, OnlyOn, Sounding}
use Rattle.channels.specs.declared.tuning_value.TuningKind.{TuningKind}
use Rattle.channels.specs.declared.tuning_value.TuningKind.TheVariants.{FineTuning, Bend as ByBend}
use Rattle.channels.specs.declared.tuning_value.Tuning.{Tuning}
use Rattle.channels.specs.declared.tuning_value.Tuning.TheVariants.{Fine, Bend}
use Rattle.senders.specs.declared.tuner.NoteMessage.{NoteMessage}
use Rattle.senders.specs.declared.tuner.NoteMessage.TheVariants.{Off, On}
use Rattle.theorems.proofs.Bytes.Read.{read_plain, sent_read_plain}
use Rattle.theorems.proofs.Receiver.Receiving.{on_here, on_elsewhere, receive_tuning, receive_note, receive_press, tuning_plain, note_plain, press_plain}

-- ---- the bytes of a tuner, received

module _ (other : Other) (st : State) where
  -- What is read as it is, is received as it is.
  pub plain_received : (ms : List Message) (r : Receiver) → Plain ms → receive_bytes other st (bytes_of ms) r ≡ receive_all other ms r
  plain_received ms r p = ap (λ (l : List Message). receive_all other l r) (read_plain st ms p)

  -- After the bytes of a tuning of either kind the channel is tuned.
  pub tuning_received :
      (ch : ℕ) (t : Tuning) (r : Receiver) → ch < 16 → InSteps t → receive_bytes other st (bytes_of (tuning_messages ch t)) r ≡ on ch (tuned t) r
  tuning_received ch t r c h = plain_received (tuning_messages ch t) r (tuning_plain ch t c h) ∙ receive_tuning other ch t r h

  -- After a note's message the note is off, or on, or all is as it was.
  pub note_received :
      (kind : NoteMessage) (ch : ℕ) (note : ℤ) (v : ℕ) (r : Receiver) → ch < 16 → v < 128
      → receive_bytes other st (bytes_of (note_messages kind ch note v)) r ≡ on ch (note_expected kind note v) r
  note_received kind ch note v r c h =
      plain_received (note_messages kind ch note v) r (note_plain kind ch note v c h) ∙ receive_note other kind ch note v r

  -- After a press the stopped note is off, the channel tuned, and the new note on.
  pub press_received :
      (ch : ℕ) (s : Option ℤ) (t : Tuning) (note : ℤ) (v : ℕ) (r : Receiver) → ch < 16 → InSteps t → v < 128
      → receive_bytes other st (bytes_of (press_messages ch s t note v)) r ≡ on ch (pressed s t note v) r
  press_received ch s t note v r c i h =
      plain_received (press_messages ch s t note v) r (press_plain ch s t note v c i h) ∙ receive_press other ch s t note v r i

-- What a call wrote to the buffer is received as the messages it sent.
pub sent_received :
    {S T : Type 0} {view : T → S} {rule : Outcome (Effect ℕ S)} {s back : T} {next : S} {old new : List ℕ} {n : ℕ}
    (other : Other) (st : State) (ms : List Message) (r : Receiver) → rule ≡ sends (bytes_of ms) next → CallMeets view rule s old (value n) back new
    → Plain ms → receive_bytes other st (take n new) r ≡ receive_all other ms r
sent_received other st ms r e c p = ap (λ (l : List Message). receive_all other l r) (sent_read_plain st ms e c p)

-- ---- what it comes to

-- A tuning of either kind moves its channel by its steps, each worth what the Specification says, in cents times 8192.
pub tuning_shift : (t : Tuning) (x : Channel) → shift t (tuned t x) ≡ steps t *ℤ pos (step_size t x)
tuning_shift (Fine v) x = refl
tuning_shift (Bend b) x = refl

-- An octave is 98304 steps of fine tuning, and 49152 of bend at the usual two semitones: the factors of the values that are sent.
pub octave_of_fine : (x : Channel) → fine_shift (with_fine (8192 + 98304) x) ≡ pos (1200 * 8192)
octave_of_fine x = refl

pub octave_of_bend : (x : Channel) → bend_shift (with_bend (pos 49152) (with_sensitivity usual_sensitivity x)) ≡ pos (1200 * 8192)
octave_of_bend x = refl

only_on :
    {ch : ℕ} (f : Channel → Channel) (Holds : Channel → Type 0) {r q : Receiver} → q ≡ on ch f r → Holds (f (r ch)) → OnlyOn ch Holds r q
only_on {ch} f Holds {r} e h =
    record {
      here = rw e (rw (on_here ch f r) h);
      elsewhere = λ c n. ap (λ (q : Receiver). q c) e ∙ on_elsewhere ch c f r n;
    }

tuned_note_sounds : (t : Tuning) (n v : ℕ) (x : Channel) → n < 128 → Sounding t n v (note_expected On (pos n) v (tuned t x))
tuned_note_sounds (Fine w) n v x k = rw (lt-ltb n 128 k) (record { sounds = simp (eq-eqb n n refl); moved = refl })
tuned_note_sounds (Bend b) n v x k = rw (lt-ltb n 128 k) (record { sounds = simp (eq-eqb n n refl); moved = refl })

module _ (other : Other) (st : State) (ch : ℕ) (r : Receiver) (low : ch < 16) where
  -- After the four controllers the fine tuning is the value, and its parameter is left chosen.
  pub fine_received :
      (v : ℕ) → v < 16384
      → OnlyOn ch (λ x. (x.fine ≡ v) × (x.choice ≡ parameter 0x00 0x01)) r (receive_bytes other st (bytes_of (tuning_messages ch (Fine v))) r)
  fine_received v h =
      only_on (tuned (Fine v)) (λ x. (x.fine ≡ v) × (x.choice ≡ parameter 0x00 0x01)) (tuning_received other st ch (Fine v) r low h) (refl, refl)

  -- After a bend the channel is bent so.
  pub bend_received :
      (b : ℤ) → is_bend b ≡ true → OnlyOn ch (λ x. x.bend ≡ b) r (receive_bytes other st (bytes_of (tuning_messages ch (Bend b))) r)
  bend_received b h = only_on (tuned (Bend b)) (λ x. x.bend ≡ b) (tuning_received other st ch (Bend b) r low h) refl

  -- After a note-on of a velocity above 0 the note is on, after one of velocity 0 and after a note-off it is off.
  pub on_received :
      (n v : ℕ) → n < 128 → v < 128 → OnlyOn ch (λ x. x.sounds n ≡ ltb 0 v) r (receive_bytes other st (bytes_of (note_messages On ch (pos n) v)) r)
  on_received n v k h =
      only_on (note_expected On (pos n) v) (λ x. x.sounds n ≡ ltb 0 v) (note_received other st On ch (pos n) v r low h)
      (simp (lt-ltb n 128 k, eq-eqb n n refl))

  pub off_received :
      (n v : ℕ) → n < 128 → v < 128 → OnlyOn ch (λ x. x.sounds n ≡ false) r (receive_bytes other st (bytes_of (note_messages Off ch (pos n) v)) r)
  off_received n v k h =
      only_on (note_expected Off (pos n) v) (λ x. x.sounds n ≡ false) (note_received other st Off ch (pos n) v r low h)
      (simp (lt-ltb n 128 k, eq-eqb n n refl))

  -- After a press the new note is on, at the pitch that its tuning gives, whatever was stopped.
  pub press_sounds :
      (s : Option ℤ) (t : Tuning) (n v : ℕ) → InSteps t → n < 128 → v < 128
      → OnlyOn ch (Sounding t n v) r (receive_bytes other st (bytes_of (press_messages ch s t (pos n) v)) r)
  press_sounds s t n v i k h =
      only_on (pressed s t (pos n) v) (Sounding t n v) (press_received other st ch s t (pos n) v r low i h) (tuned_note_sounds t n v (stopped s (r ch)) k)

-- ---- the value of a tuned channel

-- It is the number that was sent.
pub tuned_value : (kind : TuningKind) (d : Float) (x : Channel) → value_in kind (tuned (sent_as kind d) x) ≡ value_of (sent_as kind d)
unfolding sent_as tuning_of
tuned_value FineTuning d x = refl
tuned_value ByBend d x = refl

-- A note leaves it.
noted_value : (kind : TuningKind) (s : Bool) (note : ℤ) (x : Channel) → value_in kind (noted s note x) ≡ value_in kind x
noted_value kind s (pos n) x = by kind (ltb n 128)
  where
    by : (kind : TuningKind) (b : Bool) → value_in kind (cond b (with_note n s x) x) ≡ value_in kind x
    by FineTuning true = refl
    by FineTuning false = refl
    by ByBend true = refl
    by ByBend false = refl
noted_value kind s (negsuc n) x = refl

pub pressed_value :
    (kind : TuningKind) (d : Float) (s : Option ℤ) (note : ℤ) (v : ℕ) (x : Channel)
    → value_in kind (pressed s (sent_as kind d) note v x) ≡ value_of (sent_as kind d)
pressed_value kind d s note v x = noted_value kind (ltb 0 v) note (tuned (sent_as kind d) (stopped s x)) ∙ tuned_value kind d (stopped s x)
