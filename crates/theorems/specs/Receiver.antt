-- What a receiver that follows the MIDI 1.0 Detailed Specification 4.2.1 has on each channel: the chosen parameter, the bend sensitivity, the
-- fine tuning, the bend and the notes that are on.
use Rattle.std.specs.Prelude.{Bool, true, false, cond, ◌&&◌, ◌||◌, List, [], ◌∷◌, ℕ, ◌+◌, ◌*◌, ◌/◌, ◌%◌, leb, ltb, eqb, ℤ, pos, ◌-ℤ◌, ◌*ℤ◌}
use Rattle.senders.specs.Message.{Message, note_off, note_on, key_pressure, control, program, channel_pressure, bend}
use Rattle.theorems.specs.Reader.{State, read}

-- The parameter that was chosen last: whether it is a registered one, and the registered one's most and least significant 7 bits.
pub record Choice : Type 0 where
  pub registered : Bool
  pub high : ℕ
  pub low : ℕ

pub record Channel : Type 0 where
  pub choice : Choice
  -- Parameter 00 00, 14 bits, of which the high 7 are semitones, the low 7 cents.
  pub sensitivity : ℕ
  -- Parameter 00 01, 14 bits around a centre of 8192.
  pub fine : ℕ
  -- The bend, from -8192 to 8191.
  pub bend : ℤ
  -- The notes that are on.
  pub sounds : ℕ → Bool

abbrev pub Receiver : Type 0
Receiver = ℕ → Channel

-- ---- changes of a channel, and of a receiver on one channel

abbrev pub with_choice : Choice → Channel → Channel
with_choice c x = record { choice = c; sensitivity = x.sensitivity; fine = x.fine; bend = x.bend; sounds = x.sounds }

abbrev pub with_sensitivity : ℕ → Channel → Channel
with_sensitivity v x = record { choice = x.choice; sensitivity = v; fine = x.fine; bend = x.bend; sounds = x.sounds }

abbrev pub with_fine : ℕ → Channel → Channel
with_fine v x = record { choice = x.choice; sensitivity = x.sensitivity; fine = v; bend = x.bend; sounds = x.sounds }

abbrev pub with_bend : ℤ → Channel → Channel
with_bend b x = record { choice = x.choice; sensitivity = x.sensitivity; fine = x.fine; bend = b; sounds = x.sounds }

abbrev pub with_note : ℕ → Bool → Channel → Channel
with_note k s x =
    record {
      choice = x.choice;
      sensitivity = x.sensitivity;
      fine = x.fine;
      bend = x.bend;
      sounds = λ j. cond (eqb j k) s (x.sounds j);
    }

abbrev pub on : ℕ → (Channel → Channel) → Receiver → Receiver
on ch f r = λ c. cond (eqb c ch) (f (r c)) (r c)

-- ---- the parameters' controllers

-- A registered parameter by its two halves.
abbrev pub parameter : ℕ → ℕ → Choice
parameter h l = record { registered = true; high = h; low = l }

abbrev pub unregistered : Choice → Choice
unregistered c = record { registered = false; high = c.high; low = c.low }

abbrev pub is_chosen : ℕ → ℕ → Choice → Bool
is_chosen h l c = c.registered && eqb c.high h && eqb c.low l

-- Data entry changes the chosen parameter's value; of the parameters only 00 00 and 00 01 are kept here.
abbrev pub entered : (ℕ → ℕ) → Channel → Channel
entered f x =
    cond (is_chosen 0x00 0x00 x.choice) (with_sensitivity (f x.sensitivity) x)
    (cond (is_chosen 0x00 0x01 x.choice) (with_fine (f x.fine) x) x)

abbrev pub set_high : ℕ → ℕ → ℕ
set_high v old = v * 128 + old % 128

abbrev pub set_low : ℕ → ℕ → ℕ
set_low v old = old / 128 * 128 + v

-- Controllers 6 and 38 set the high and the low 7 bits of the chosen parameter's value, 100 and 101 choose a registered parameter by its low and
-- high 7 bits, 98 and 99 one that is not registered, which is not kept here. A choice lasts until another is made.
abbrev pub of_parameters : ℕ → Bool
of_parameters n = eqb n 6 || eqb n 38 || leb 98 n && leb n 101

abbrev pub controlled : ℕ → ℕ → Channel → Channel
controlled n v x =
    cond (eqb n 6) (entered (set_high v) x)
    (cond (eqb n 38) (entered (set_low v) x)
    (cond (eqb n 100) (with_choice (parameter x.choice.high v) x)
    (cond (eqb n 101) (with_choice (parameter v x.choice.low) x)
    (with_choice (unregistered x.choice) x))))

-- ---- messages

-- What a receiver does at the other controllers, the mode messages 120 to 127 and the steps 96 and 97 of data among them, is left open: `other`
-- is any rule for them.
abbrev pub Other : Type 0
Other = (channel controller value : ℕ) → Receiver → Receiver

-- A note-on of velocity 0 means note off.
abbrev pub receive : Other → Message → Receiver → Receiver
receive other (note_off ch k v) r = on ch (with_note k false) r
receive other (note_on ch k v) r = on ch (with_note k (ltb 0 v)) r
receive other (key_pressure ch k p) r = r
receive other (control ch n v) r = cond (of_parameters n) (on ch (controlled n v) r) (other ch n v r)
receive other (program ch p) r = r
receive other (channel_pressure ch p) r = r
receive other (bend ch b) r = on ch (with_bend b) r

abbrev pub receive_all : Other → List Message → Receiver → Receiver
receive_all other [] r = r
receive_all other (m ∷ ms) r = receive_all other ms (receive other m r)

-- A receiver that is sent bytes, wherever its reader stood.
abbrev pub receive_bytes : Other → State → List ℕ → Receiver → Receiver
receive_bytes other st bs r = receive_all other (read st bs) r

-- ---- how far a channel is moved, in cents times 8192

-- A step of fine tuning is 100/8192 cent, and 8192 is the centre.
abbrev pub fine_shift : Channel → ℤ
fine_shift x = (pos x.fine -ℤ pos 8192) *ℤ pos 100

-- At a sensitivity of s semitones a bend of b moves the channel by s × b / 8192 semitones.
abbrev pub sensitivity_cents : ℕ → ℕ
sensitivity_cents s = s / 128 * 100 + s % 128

abbrev pub bend_shift : Channel → ℤ
bend_shift x = x.bend *ℤ pos (sensitivity_cents x.sensitivity)

-- The usual default is two semitones either way.
abbrev pub usual_sensitivity : ℕ
usual_sensitivity = 2 * 128
