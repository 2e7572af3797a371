-- How many bytes the messages of a tuner take.
use mathlib.Core.Path.{◌≡◌, refl, ap, ◌∙◌}
use mathlib.Core.Option.{Option, some, none}
use mathlib.Core.List.{List, ◌++◌}
use Prim.Native.Nat.{ℕ, ◌+◌, ◌≤◌}
use native.Mathlib.Omega.{arith}
use lib.IntN.{ℤ}
use lib.Ieee.{Float}
use lib.ListN.{length, length-append}
use Rattle.arithmetic.specs.Note.{midi_number}
use Rattle.senders.specs.Message.{Message}
use Rattle.senders.specs.Midi.{bytes_of, to_message}
use Rattle.senders.specs.Mts.{tuning_messages, tuning_size}
use Rattle.senders.specs.Tuner.{numbered, note_type, note_messages, stop_messages, press_messages}
use Rattle.channels.specs.TuningValue.{tuning_of, sent_as}
use Rattle.channels.specs.declared.tuning_value.TuningKind.{TuningKind}
use Rattle.channels.specs.declared.tuning_value.TuningKind.TheVariants.{FineTuning, Bend as Bends}
use Rattle.channels.specs.declared.tuning_value.Tuning.{Tuning}
use Rattle.channels.specs.declared.tuning_value.Tuning.TheVariants.{Fine, Bend}
use Rattle.senders.specs.declared.tuner.NoteMessage.{NoteMessage}
use Rattle.senders.specs.declared.tuner.NoteMessage.TheVariants.{Off, On, Pressure}
use Rattle.senders.proofs.Bytes.Messages.{bytes_append}

abbrev size : List Message → ℕ
size ms = length (bytes_of ms)

-- ---- at most so many

numbered_small : (kind : NoteMessage) (ch v : ℕ) (k : Option ℕ) → size (numbered (λ k. to_message ch (note_type kind k v)) k) ≤ 3
numbered_small Off ch v (some k) = omega arith
numbered_small On ch v (some k) = omega arith
numbered_small Pressure ch v (some k) = omega arith
numbered_small kind ch v none = omega arith

pub note_small : (kind : NoteMessage) (ch : ℕ) (note : ℤ) (v : ℕ) → length (bytes_of (note_messages kind ch note v)) ≤ 3
note_small kind ch note v = numbered_small kind ch v (midi_number note)

pub stop_small : (ch : ℕ) (s : Option ℤ) (v : ℕ) → length (bytes_of (stop_messages ch s v)) ≤ 3
stop_small ch none v = omega arith
stop_small ch (some note) v = note_small Off ch note v

pub tuning_short : (ch : ℕ) (t : Tuning) → length (bytes_of (tuning_messages ch t)) ≤ 12
tuning_short ch (Fine v) = omega arith
tuning_short ch (Bend b) = omega arith

-- ---- a tuning, on every channel and by any detuning the same

pub sent_size : (kind : TuningKind) (ch : ℕ) (v : Float) → length (bytes_of (tuning_messages ch (sent_as kind v))) ≡ tuning_size kind
unfolding sent_as tuning_of tuning_size
sent_size FineTuning ch v = refl
sent_size Bends ch v = refl

-- ---- a press takes what its parts take

module _ (ch : ℕ) (s : Option ℤ) (t : Tuning) (note : ℤ) (v : ℕ) where
  pub bytes_press :
      bytes_of (press_messages ch s t note v)
      ≡ (bytes_of (stop_messages ch s v) ++ bytes_of (tuning_messages ch t)) ++ bytes_of (note_messages On ch note v)
  bytes_press =
      bytes_append (stop_messages ch s v ++ tuning_messages ch t) (note_messages On ch note v)
      ∙ ap (λ (l : List ℕ). l ++ bytes_of (note_messages On ch note v)) (bytes_append (stop_messages ch s v) (tuning_messages ch t))

  pub length_press :
      length (bytes_of (press_messages ch s t note v))
      ≡ length (bytes_of (stop_messages ch s v)) + length (bytes_of (tuning_messages ch t)) + length (bytes_of (note_messages On ch note v))
  length_press = ap length bytes_press ∙ simp length-append
