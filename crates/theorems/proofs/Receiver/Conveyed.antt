-- Messages on the channels of a list as a reader finds them and a receiver takes them: what they convey.
use Rattle.std.specs.Prelude.{flat_map}
use mathlib.Core.Path.{◌≡◌, refl, ap, ◌∙◌}
use mathlib.Core.Bool.{Bool, true, false, cond}
use mathlib.Core.Option.{Option, some, none}
use mathlib.Core.List.{List, [], ◌∷◌, ◌++◌}
use Prim.Native.Nat.{ℕ, suc, ◌<◌}
use native.Mathlib.Omega.{arith}
use lib.IntN.{ℤ}
use lib.ListN.{length, take, get_or, get_elem?}
use Rattle.channels.specs.Outcome.{Outcome, value}
use Rattle.channels.specs.ChannelList.{entries}
use Rattle.channels.specs.Places.{Place}
use Rattle.channels.specs.TuningValue.{InSteps}
use Rattle.channels.specs.declared.list.ChannelList.{ChannelList}
use Rattle.channels.specs.declared.tuning_value.Tuning.{Tuning}
use Rattle.channels.specs.declared.tuning_value.TuningKind.{TuningKind}
use Rattle.channels.proofs.ChannelLists.{entries_low}
use Rattle.senders.specs.Buffer.{Effect, sends, CallMeets}
use Rattle.senders.specs.Message.{Message, note_off, note_on, key_pressure, control, program, channel_pressure, bend, Valid, AllValid}
use Rattle.senders.specs.Midi.{bytes_of, to_message}
use Rattle.senders.specs.Mts.{tuning_messages}
use Rattle.senders.specs.Tuner.{note_messages, press_messages, on_entry, key_messages, is_suppressed, to_all}
use Rattle.theorems.specs.Reader.{State}
use Rattle.theorems.specs.Padding.{read_with_padding, all_read_with_padding, Plain}
use Rattle.theorems.specs.Receiver.{Channel, Receiver, Other, on, receive, receive_all, receive_bytes}
use Rattle.theorems.specs.ExpectedEffect.{tuned, note_expected, pressed, on_listed, key_expected, in_turn}
use Rattle.senders.specs.declared.midi.ChannelMessageType.{ChannelMessageType}
use Rattle.senders.specs.declared.tuner.NoteMessage.{NoteMessage}
use Rattle.theorems.proofs.Bytes.Read.{each_valid, plain_append}
use Rattle.senders.proofs.Tuners.Channels.{entry_low, valid_on}
use Rattle.channels.specs.Lists.{Each}
use Rattle.channels.proofs.Lists.Laws.{Each-map}
use Rattle.theorems.proofs.Receiver.Receiving.{receive_append, receive_tuning, receive_note, receive_press, tuning_plain, note_plain, press_plain}
use Rattle.theorems.proofs.Receiver.Received.{sent_received}

module _ (other : Other) where
  -- Messages that a reader finds as they are, and by which a receiver changes so.
  pub record Conveys (ms : List Message) (change : Receiver → Receiver) : Type 0 where
    pub plain : Plain ms
    pub received : (r : Receiver) → receive_all other ms r ≡ change r

  pub conveys_none : Conveys [] (λ r. r)
  conveys_none = record { plain = record { valid = tt; read_as_is = refl }; received = λ r. refl }

  -- One after the other.
  pub conveys_append :
      {ms ns : List Message} {one next : Receiver → Receiver} → Conveys ms one → Conveys ns next → Conveys (ms ++ ns) (λ r. next (one r))
  conveys_append {ms} {ns} {one} {next} a b =
      record {
        plain = plain_append a.plain b.plain;
        received = λ r. receive_append other ms ns r ∙ ap (receive_all other ns) (a.received r) ∙ b.received (one r);
      }

  -- On channel i of a list.
  pub conveys_listed :
      (o : Option ℕ) (messages : ℕ → List Message) (change : Channel → Channel) → ((c : ℕ) → o ≡ some c → Conveys (messages c) (on c change))
      → Conveys (on_entry messages o) (on_listed o change)
  conveys_listed (some c) messages change h = record { plain = (h c refl).plain; received = (h c refl).received }
  conveys_listed none messages change h = record { plain = record { valid = tt; read_as_is = refl }; received = λ r. refl }

  -- Changes follow one another as their messages do.
  pub conveys_each :
      {A : Type 0} (messages : A → List Message) (change : A → Receiver → Receiver) (xs : List A) → ((x : A) → Conveys (messages x) (change x))
      → Conveys (flat_map messages xs) (in_turn change xs)
  conveys_each messages change [] h = record { plain = record { valid = tt; read_as_is = refl }; received = λ r. refl }
  conveys_each messages change (x ∷ xs) h = conveys_append (h x) (conveys_each messages change xs h)

  -- So it is with what a call that counts its bytes wrote.
  pub sent_conveyed :
      {S T : Type 0} {view : T → S} {rule : Outcome (Effect ℕ S)} {s back : T} {next : S} {old new : List ℕ} {n : ℕ} {change : Receiver → Receiver}
      (st : State) (ms : List Message) (r : Receiver) → Conveys ms change → rule ≡ sends (bytes_of ms) next
      → CallMeets view rule s old (value n) back new → receive_bytes other st (take n new) r ≡ change r
  sent_conveyed st ms r c e p = sent_received other st ms r e p c.plain ∙ c.received r

  -- ---- on the channels of a stored list

  module _ (l : ChannelList) (i : ℕ) where
    pub conveys_note :
        (kind : NoteMessage) (note : ℤ) (v : ℕ) → v < 128
        → Conveys (on_entry (λ ch. note_messages kind ch note v) (get_elem? (entries l) i)) (on_listed (get_elem? (entries l) i) (note_expected kind note v))
    conveys_note kind note v h =
        conveys_listed (get_elem? (entries l) i) (λ ch. note_messages kind ch note v) (note_expected kind note v)
        (λ c e. record { plain = note_plain kind c note v (entry_low l i e) h; received = λ r. receive_note other kind c note v r })

    pub conveys_tuning :
        (t : Tuning) → InSteps t → Conveys (on_entry (λ ch. tuning_messages ch t) (get_elem? (entries l) i)) (on_listed (get_elem? (entries l) i) (tuned t))
    conveys_tuning t h =
        conveys_listed (get_elem? (entries l) i) (λ ch. tuning_messages ch t) (tuned t)
        (λ c e. record { plain = tuning_plain c t (entry_low l i e) h; received = λ r. receive_tuning other c t r h })

    pub conveys_press :
        (stopped : Option ℤ) (t : Tuning) (note : ℤ) (v : ℕ) → InSteps t → v < 128
        → Conveys (on_entry (λ ch. press_messages ch stopped t note v) (get_elem? (entries l) i))
        (on_listed (get_elem? (entries l) i) (pressed stopped t note v))
    conveys_press stopped t note v k h =
        conveys_listed (get_elem? (entries l) i) (λ ch. press_messages ch stopped t note v) (pressed stopped t note v)
        (λ c e. record { plain = press_plain c stopped t note v (entry_low l i e) k h; received = λ r. receive_press other c stopped t note v r k })

  pub conveys_key :
      (l : ChannelList) (kind : NoteMessage) (v : ℕ) (o : Option Place) → v < 128
      → Conveys (key_messages kind (entries l) v o) (key_expected kind (entries l) v o)
  conveys_key l kind v (some p) h = let c = conveys_note l p.channel kind p.note v h in record { plain = c.plain; received = c.received }
  conveys_key l kind v none h = record { plain = record { valid = tt; read_as_is = refl }; received = λ r. refl }

-- ---- a message to all, which may have a padding

each_low : (l : List ℕ) → ((i : ℕ) → i < length l → get_or l i 0 < 16) → Each (λ c. c < 16) l
each_low [] h = tt
each_low (x ∷ l) h = (h 0 (omega arith), each_low l (λ i k. h (suc i) (omega arith)))

valid_each : (m : ChannelMessageType) → Valid (to_message 0 m) → (l : List ℕ) → Each (λ c. c < 16) l → Each (λ c. AllValid (to_message c m ∷ [])) l
valid_each m v l h = Each-map (λ c low. (valid_on m v c low, tt)) l h

pub all_valid : (kind : TuningKind) (l : ChannelList) (m : ChannelMessageType) → Valid (to_message 0 m) → AllValid (to_all kind (entries l) m)
all_valid kind l m v = by (is_suppressed kind m)
  where
    by : (b : Bool) → AllValid (cond b [] (flat_map (λ ch. to_message ch m ∷ []) (entries l)))
    by true = tt
    by false = each_valid (λ ch. to_message ch m ∷ []) (entries l) (valid_each m v (entries l) (each_low (entries l) (entries_low l)))

module _ (other : Other) where
  -- What a reader takes a padding for changes nothing that is kept of a receiver here.
  receive_with_padding : (m : Message) (r : Receiver) → receive_all other (read_with_padding m) r ≡ receive other m r
  receive_with_padding (note_off ch k v) r = refl
  receive_with_padding (note_on ch k v) r = refl
  receive_with_padding (key_pressure ch k p) r = refl
  receive_with_padding (control ch n v) r = refl
  receive_with_padding (program ch p) r = refl
  receive_with_padding (channel_pressure ch p) r = refl
  receive_with_padding (bend ch b) r = refl

  pub receive_all_with_padding : (ms : List Message) (r : Receiver) → receive_all other (all_read_with_padding ms) r ≡ receive_all other ms r
  receive_all_with_padding [] r = refl
  receive_all_with_padding (m ∷ ms) r =
      receive_append other (read_with_padding m) (all_read_with_padding ms) r
      ∙ ap (receive_all other (all_read_with_padding ms)) (receive_with_padding m r)
      ∙ receive_all_with_padding ms (receive other m r)

  receive_each :
      (m : ChannelMessageType) (cs : List ℕ) (r : Receiver)
      → receive_all other (flat_map (λ ch. to_message ch m ∷ []) cs) r ≡ in_turn (λ ch. receive other (to_message ch m)) cs r
  receive_each m [] r = refl
  receive_each m (c ∷ cs) r = receive_each m cs (receive other (to_message c m) r)

  -- Every channel receives the message, or none does.
  pub receive_to_all :
      (kind : TuningKind) (cs : List ℕ) (m : ChannelMessageType) (r : Receiver)
      → receive_all other (to_all kind cs m) r ≡ cond (is_suppressed kind m) r (in_turn (λ ch. receive other (to_message ch m)) cs r)
  receive_to_all kind cs m r = by (is_suppressed kind m)
    where
      by :
          (b : Bool)
          → receive_all other (cond b [] (flat_map (λ ch. to_message ch m ∷ []) cs)) r ≡ cond b r (in_turn (λ ch. receive other (to_message ch m)) cs r)
      by true = refl
      by false = receive_each m cs r
