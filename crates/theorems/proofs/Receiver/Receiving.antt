-- The messages of a tuner, received one by one: what each changes on its channel, and that a reader finds them as they are.
use mathlib.Core.Path.{◌≡◌, refl, ap, ◌∙◌, fun_ext}
use mathlib.Core.Bool.{Bool, true, false, cond}
use mathlib.Core.Option.{Option, some, none}
use mathlib.Core.List.{List, [], ◌∷◌, ◌++◌}
use Prim.Native.Nat.{ℕ, ◌/◌, ◌%◌, ◌<◌}
use native.Mathlib.Omega.{arith}
use lib.Dec.{ltb, eqb, lit<}
use lib.IntN.{ℤ, pos, negsuc}
use borrow.Author.Tests.{ltb-true, eq-eqb}
use Rattle.senders.specs.Message.{Message}
use Rattle.senders.specs.Midi.{to_message}
use Rattle.channels.specs.TuningValue.{InSteps}
use Rattle.senders.specs.Mts.{tuning_messages}
use Rattle.senders.specs.Tuner.{numbered, note_type, note_messages, stop_messages, press_messages}
use Rattle.theorems.specs.Padding.{Plain}
use Rattle.theorems.specs.Receiver.{Channel, Receiver, Other, on, controlled, with_note, with_fine, with_choice, parameter, receive, receive_all}
use Rattle.theorems.specs.ExpectedEffect.{tuned, note_expected, stopped, pressed}
use Rattle.channels.specs.declared.tuning_value.Tuning.{Tuning}
use Rattle.channels.specs.declared.tuning_value.Tuning.TheVariants.{Fine, Bend}
use Rattle.senders.specs.declared.tuner.NoteMessage.{NoteMessage}
use Rattle.senders.specs.declared.tuner.NoteMessage.TheVariants.{Off, On, Pressure}
use Rattle.theorems.proofs.Bytes.Read.{plain_append}
use Rattle.arithmetic.specs.Note.{midi_number}
use Rattle.senders.proofs.Tuners.Channels.{note_valid, midi_number_data}

-- ---- changes on one channel

cond_twice : (b : Bool) (f g : Channel → Channel) (x : Channel) → cond b (f (cond b (g x) x)) (cond b (g x) x) ≡ cond b (f (g x)) x
cond_twice true f g x = refl
cond_twice false f g x = refl

cond_same : (b : Bool) (x : Channel) → x ≡ cond b x x
cond_same true x = refl
cond_same false x = refl

pub on_twice : (ch : ℕ) (f g : Channel → Channel) (r : Receiver) → on ch f (on ch g r) ≡ on ch (λ x. f (g x)) r
on_twice ch f g r = fun_ext (λ c. cond_twice (eqb c ch) f g (r c))

pub on_none : (ch : ℕ) (r : Receiver) → r ≡ on ch (λ x. x) r
on_none ch r = fun_ext (λ c. cond_same (eqb c ch) (r c))

-- A change is of the channel itself, and the others stay.
pub on_here : (ch : ℕ) (f : Channel → Channel) (r : Receiver) → on ch f r ch ≡ f (r ch)
on_here ch f r = rw (eq-eqb ch ch refl)

pub on_elsewhere : (ch c : ℕ) (f : Channel → Channel) (r : Receiver) → eqb c ch ≡ false → on ch f r c ≡ r c
on_elsewhere ch c f r e = rw e

pub on_same : (ch : ℕ) (f g : Channel → Channel) (r : Receiver) → ((x : Channel) → f x ≡ g x) → on ch f r ≡ on ch g r
on_same ch f g r e = fun_ext (λ c. ap (λ (x : Channel). cond (eqb c ch) x (r c)) (e (r c)))

-- ---- the messages of a tuner, received

-- The four controllers choose parameter 00 01 and set both halves of its value.
controllers_tune :
    (v : ℕ) → v < 16384 → (x : Channel)
    → controlled 38 (v % 128) (controlled 6 (v / 128) (controlled 100 1 (controlled 101 0 x))) ≡ tuned (Fine v) x
controllers_tune v h x = ap (λ (k : ℕ). with_fine k (with_choice (parameter 0 1) x)) (omega arith)

-- What a note's message means, by the test of its number.
abbrev note_tested : NoteMessage → Bool → ℕ → ℕ → Channel → Channel
note_tested Off b n v x = cond b (with_note n false x) x
note_tested On b n v x = cond b (with_note n (ltb 0 v) x) x
note_tested Pressure b n v x = x

midi_number_negative : (n : ℕ) → midi_number (negsuc n) ≡ none
unfolding midi_number
midi_number_negative n = refl

module _ (other : Other) where
  pub receive_append : (ms ns : List Message) (r : Receiver) → receive_all other (ms ++ ns) r ≡ receive_all other ns (receive_all other ms r)
  receive_append [] ns r = refl
  receive_append (m ∷ ms) ns r = receive_append ms ns (receive other m r)

  pub receive_tuning : (ch : ℕ) (t : Tuning) (r : Receiver) → InSteps t → receive_all other (tuning_messages ch t) r ≡ on ch (tuned t) r
  receive_tuning ch (Fine v) r h =
      let a : Channel → Channel = controlled 101 0 in
      let b : Channel → Channel = controlled 100 1 in
      let c : Channel → Channel = controlled 6 (v / 128) in
      let d : Channel → Channel = controlled 38 (v % 128) in
      on_twice ch d c (on ch b (on ch a r))
      ∙ on_twice ch (λ x. d (c x)) b (on ch a r)
      ∙ on_twice ch (λ x. d (c (b x))) a r
      ∙ on_same ch (λ x. d (c (b (a x)))) (tuned (Fine v)) r (controllers_tune v h)
  receive_tuning ch (Bend b) r h = refl

  receive_numbered :
      (kind : NoteMessage) (ch n v : ℕ) (b : Bool) (r : Receiver)
      → receive_all other (numbered (λ k. to_message ch (note_type kind k v)) (cond b (some n) none)) r
      ≡ on ch (note_tested kind b n v) r
  receive_numbered Off ch n v true r = refl
  receive_numbered Off ch n v false r = on_none ch r
  receive_numbered On ch n v true r = refl
  receive_numbered On ch n v false r = on_none ch r
  receive_numbered Pressure ch n v true r = on_none ch r
  receive_numbered Pressure ch n v false r = on_none ch r

  pub receive_note :
      (kind : NoteMessage) (ch : ℕ) (note : ℤ) (v : ℕ) (r : Receiver) → receive_all other (note_messages kind ch note v) r ≡ on ch (note_expected kind note v) r
  receive_note Off ch (pos n) v r = rw (midi_number_data n) (receive_numbered Off ch n v (ltb n 128) r)
  receive_note On ch (pos n) v r = rw (midi_number_data n) (receive_numbered On ch n v (ltb n 128) r)
  receive_note Pressure ch (pos n) v r = rw (midi_number_data n) (receive_numbered Pressure ch n v (ltb n 128) r)
  receive_note Off ch (negsuc n) v r = rw (midi_number_negative n) (on_none ch r)
  receive_note On ch (negsuc n) v r = rw (midi_number_negative n) (on_none ch r)
  receive_note Pressure ch (negsuc n) v r = rw (midi_number_negative n) (on_none ch r)

  receive_stop : (ch : ℕ) (s : Option ℤ) (v : ℕ) (r : Receiver) → receive_all other (stop_messages ch s v) r ≡ on ch (stopped s) r
  receive_stop ch none v r = on_none ch r
  receive_stop ch (some note) v r = receive_note Off ch note v r

  pub receive_press :
      (ch : ℕ) (s : Option ℤ) (t : Tuning) (note : ℤ) (v : ℕ) (r : Receiver) → InSteps t
      → receive_all other (press_messages ch s t note v) r ≡ on ch (pressed s t note v) r
  receive_press ch s t note v r h =
      let stop : List Message = stop_messages ch s v in
      let tuning : List Message = tuning_messages ch t in
      let start : List Message = note_messages On ch note v in
      receive_append (stop ++ tuning) start r
      ∙ ap (λ (q : Receiver). receive_all other start q)
      (receive_append stop tuning r ∙ ap (λ (q : Receiver). receive_all other tuning q) (receive_stop ch s v r))
      ∙ ap (λ (q : Receiver). receive_all other start q) (receive_tuning ch t (on ch (stopped s) r) h ∙ on_twice ch (tuned t) (stopped s) r)
      ∙ receive_note On ch note v (on ch (λ x. tuned t (stopped s x)) r)
      ∙ on_twice ch (note_expected On note v) (λ x. tuned t (stopped s x)) r

-- ---- they are read as they are

pub tuning_plain : (ch : ℕ) (t : Tuning) → ch < 16 → InSteps t → Plain (tuning_messages ch t)
tuning_plain ch (Fine v) c h =
    record {
      valid = ((c, lit< tt, lit< tt), ((c, lit< tt, lit< tt), ((c, lit< tt, omega arith), ((c, lit< tt, omega arith), tt))));
      read_as_is = refl;
    }
tuning_plain ch (Bend b) c h = record { valid = ((c, h), tt); read_as_is = refl }

numbered_plain :
    (kind : NoteMessage) (ch n v : ℕ) (b : Bool) → ch < 16 → (b ≡ true → n < 128) → v < 128
    → Plain (numbered (λ k. to_message ch (note_type kind k v)) (cond b (some n) none))
numbered_plain Off ch n v true c k h = record { valid = (note_valid Off c (k refl) h, tt); read_as_is = refl }
numbered_plain On ch n v true c k h = record { valid = (note_valid On c (k refl) h, tt); read_as_is = refl }
numbered_plain Pressure ch n v true c k h = record { valid = (note_valid Pressure c (k refl) h, tt); read_as_is = refl }
numbered_plain kind ch n v false c k h = record { valid = tt; read_as_is = refl }

pub note_plain : (kind : NoteMessage) (ch : ℕ) (note : ℤ) (v : ℕ) → ch < 16 → v < 128 → Plain (note_messages kind ch note v)
note_plain kind ch (pos n) v c h = rw (midi_number_data n) (numbered_plain kind ch n v (ltb n 128) c (ltb-true n 128) h)
note_plain kind ch (negsuc n) v c h = rw (midi_number_negative n) (record { valid = tt; read_as_is = refl })

stop_plain : (ch : ℕ) (s : Option ℤ) (v : ℕ) → ch < 16 → v < 128 → Plain (stop_messages ch s v)
stop_plain ch none v c h = record { valid = tt; read_as_is = refl }
stop_plain ch (some note) v c h = note_plain Off ch note v c h

pub press_plain :
    (ch : ℕ) (s : Option ℤ) (t : Tuning) (note : ℤ) (v : ℕ) → ch < 16 → InSteps t → v < 128 → Plain (press_messages ch s t note v)
press_plain ch s t note v c i h = plain_append (plain_append (stop_plain ch s v c h) (tuning_plain ch t c i)) (note_plain On ch note v c h)
