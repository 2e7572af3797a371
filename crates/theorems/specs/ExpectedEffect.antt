-- What a tuner means by the messages that it sends (SPEC 9), as a change of the channel that they are sent on.
use Rattle.std.specs.Prelude.{◌≡◌, Bool, false, cond, List, [], ◌∷◌, ℕ, eqb, ltb, ℤ, pos, negsuc, ◌-ℤ◌, ◌*ℤ◌, Float}
use Rattle.std.proofs.Math.Option.{Option, some, none}
use Rattle.std.proofs.Math.ListN.{get_elem?}
use Rattle.plans.specs.Plan.{Model}
use Rattle.channels.specs.Lists.{upward}
use Rattle.channels.specs.Places.{Place}
use Rattle.channels.specs.TuningValue.{sent_as}
use Rattle.senders.specs.Message.{is_data}
use Rattle.theorems.specs.Receiver.{Channel, Receiver, on, with_choice, with_fine, with_bend, with_note, parameter, fine_shift, bend_shift, sensitivity_cents}
use Rattle.channels.specs.declared.tuning_value.TuningKind.{TuningKind}
use Rattle.channels.specs.declared.tuning_value.TuningKind.TheVariants.{FineTuning, Bend as ByBend}
use Rattle.channels.specs.declared.tuning_value.Tuning.{Tuning}
use Rattle.channels.specs.declared.tuning_value.Tuning.TheVariants.{Fine, Bend}
use Rattle.senders.specs.declared.tuner.NoteMessage.{NoteMessage}
use Rattle.senders.specs.declared.tuner.NoteMessage.TheVariants.{Off, On, Pressure}

-- SPEC 8.3: a fine tuning leaves parameter 00 01 chosen.
abbrev pub tuned : Tuning → Channel → Channel
tuned (Fine v) x = with_fine v (with_choice (parameter 0x00 0x01) x)
tuned (Bend b) x = with_bend b x

-- SPEC 9.5: a note is on, or off; one without a MIDI number is on no channel.
abbrev pub noted : Bool → ℤ → Channel → Channel
noted s (pos n) x = cond (is_data n) (with_note n s x) x
noted s (negsuc n) x = x

-- The messages of a note turn it off, or on unless the velocity is 0; a pressure changes nothing of this.
abbrev pub note_expected : NoteMessage → ℤ → ℕ → Channel → Channel
note_expected Off note v x = noted false note x
note_expected On note v x = noted (ltb 0 v) note x
note_expected Pressure note v x = x

abbrev pub stopped : Option ℤ → Channel → Channel
stopped none x = x
stopped (some note) x = noted false note x

-- SPEC 9.2: the stopped note is off, the channel tuned, and then the new note is on.
abbrev pub pressed : Option ℤ → Tuning → ℤ → ℕ → Channel → Channel
pressed s t note v x = note_expected On note v (tuned t (stopped s x))

-- SPEC 1.6a: a change of channel i of a list; no channel changes where the list is shorter.
abbrev pub on_listed : Option ℕ → (Channel → Channel) → Receiver → Receiver
on_listed (some ch) change r = on ch change r
on_listed none change r = r

-- SPEC 9.5a: a message of a found key's note changes the key's channel, that of an unknown key nothing.
abbrev pub key_expected : NoteMessage → List ℕ → ℕ → Option Place → Receiver → Receiver
key_expected kind channels v (some p) r = on_listed (get_elem? channels p.channel) (note_expected kind p.note v) r
key_expected kind channels v none r = r

-- One change after the other.
abbrev pub in_turn : {A : Type 0} → (A → Receiver → Receiver) → List A → Receiver → Receiver
in_turn change [] r = r
in_turn change (x ∷ xs) r = in_turn change xs (change x r)

-- ---- how far a tuning moves its channel, in cents times 8192

-- The value counted from its centre, and what a step is worth.
abbrev pub steps : Tuning → ℤ
steps (Fine v) = pos v -ℤ pos 8192
steps (Bend b) = b

abbrev pub step_size : Tuning → Channel → ℕ
step_size (Fine v) x = 100
step_size (Bend b) x = sensitivity_cents x.sensitivity

abbrev pub shift : Tuning → Channel → ℤ
shift (Fine v) x = fine_shift x
shift (Bend b) x = bend_shift x

-- The value that a channel has of a kind of tuning.
abbrev pub value_in : TuningKind → Channel → ℤ
value_in FineTuning x = pos x.fine
value_in ByBend x = x.bend

-- ---- one channel changes

-- Something holds of the channel `ch` afterwards, and the other channels are as they were.
pub record OnlyOn (ch : ℕ) (Holds : Channel → Type 0) (before after : Receiver) : Type 0 where
  pub here : Holds (after ch)
  pub elsewhere : (c : ℕ) → eqb c ch ≡ false → after c ≡ before c

-- A note is on, or off after a velocity of 0, and its channel is moved as its tuning says.
pub record Sounding (t : Tuning) (n v : ℕ) (x : Channel) : Type 0 where
  pub sounds : x.sounds n ≡ ltb 0 v
  pub moved : shift t x ≡ steps t *ℤ pos (step_size t x)

-- ---- SPEC 9.3: the tunings of a plan

-- SPEC 9.3: channel i is tuned by its detuning.
abbrev pub channel_expected : TuningKind → List ℕ → ℕ → Option Float → Receiver → Receiver
channel_expected kind channels i (some d) r = on_listed (get_elem? channels i) (tuned (sent_as kind d)) r
channel_expected kind channels i none r = r

abbrev pub plan_expected : TuningKind → Model → Receiver → Receiver
plan_expected kind m r = in_turn (λ i. channel_expected kind m.channels i (m.detunings i (pos 0))) (upward 0 m.num_channels) r
