-- The tunings of a plan, channel after channel: their bytes as a loop writes them.
use Rattle.std.specs.Prelude.{flat_map}
use mathlib.Core.Path.{◌≡◌, refl, sym, ap, ◌∙◌}
use mathlib.Core.Bool.{Bool, true, false}
use mathlib.Core.Option.{Option, some, none}
use mathlib.Core.List.{List, [], ◌∷◌, ◌++◌, append-nil}
use Prim.Native.Nat.{ℕ, zero, suc, min, ◌+◌, ◌*◌, ◌≤◌}
use native.Mathlib.Nat.{add-zero, zero-add}
use native.Mathlib.Numerals.{add-one}
use native.Mathlib.Omega.{arith}
use borrow.Author.Tests.{leb-true, leb-false}
use lib.Dec.{leb}
use lib.Ieee.{Float}
use lib.ListN.{length, get_elem?}
use Rattle.channels.specs.ChannelList.{entries}
use Rattle.channels.specs.declared.list.ChannelList.{ChannelList}
use Rattle.channels.specs.Lists.{upward}
use Rattle.channels.specs.TuningValue.{sent_as}
use Rattle.channels.specs.declared.tuning_value.TuningKind.{TuningKind}
use Rattle.senders.specs.Message.{Message}
use Rattle.senders.specs.Midi.{bytes_of}
use Rattle.senders.specs.Mts.{tuning_messages}
use Rattle.senders.specs.Tuner.{on_entry}
use Rattle.plan_tuner.specs.Aot.{channel_messages}
use Rattle.channels.proofs.ChannelLists.{entries_few, entry_past}
use Rattle.std.proofs.lemmas.Grind.{flat_map-append}
use Rattle.senders.proofs.Bytes.Messages.{bytes_append}
use Rattle.senders.proofs.Bytes.Sizes.{tuning_short}

-- one number more
pub upward_push : (a n : ℕ) → upward a (suc n) ≡ upward a n ++ ((a + n) ∷ [])
unfolding upward
upward_push a zero = ap (λ (k : ℕ). k ∷ []) (sym (add-zero a))
upward_push a (suc n) =
    let e : suc a + n ≡ a + suc n = omega arith in
    ap (λ (l : List ℕ). a ∷ l) (upward_push (suc a) n ∙ ap (λ (k : ℕ). upward (suc a) n ++ (k ∷ [])) e)

module _ (messages : ℕ → List Message) where
  -- the bytes of the first channels
  abbrev pub up_to : ℕ → List ℕ
  up_to i = bytes_of (flat_map messages (upward 0 i))

  pub up_to_none : up_to 0 ≡ []
  unfolding upward
  up_to_none = refl

  -- one channel more
  pub up_to_next : (i : ℕ) → up_to (i + 1) ≡ up_to i ++ bytes_of (messages i)
  up_to_next i =
      ap up_to (add-one i)
      ∙ ap (λ (l : List ℕ). bytes_of (flat_map messages l)) (upward_push 0 i ∙ ap (λ (k : ℕ). upward 0 i ++ (k ∷ [])) (zero-add i))
      ∙ ap bytes_of (flat_map-append messages (upward 0 i) (i ∷ []))
      ∙ bytes_append (flat_map messages (upward 0 i)) (messages i ++ [])
      ∙ ap (λ (l : List Message). up_to i ++ bytes_of l) (append-nil (messages i))

module _ (kind : TuningKind) (channels : List ℕ) (i : ℕ) where
  -- a channel that is not on the list
  pub channel_past : (o : Option Float) → none ≡ get_elem? channels i → channel_messages kind channels i o ≡ []
  channel_past none e = refl
  channel_past (some d) e = rw (← e) refl

  pub channel_small : (o : Option Float) → length (bytes_of (channel_messages kind channels i o)) ≤ 12
  channel_small none = omega arith
  channel_small (some d) = go (get_elem? channels i)
    where
      go : (o : Option ℕ) → length (bytes_of (on_entry (λ ch. tuning_messages ch (sent_as kind d)) o)) ≤ 12
      go (some ch) = tuning_short ch (sent_as kind d)
      go none = omega arith

-- ---- sixteen channels at most

module _ (kind : TuningKind) (l : ChannelList) (i : ℕ) (o : Option Float) where
  -- so the tuning of the next channel has room
  pub channel_room : length (bytes_of (channel_messages kind (entries l) i o)) + 12 * min i 16 ≤ 12 * min (i + 1) 16
  channel_room = go (leb 16 i) refl
    where
      go : (b : Bool) → leb 16 i ≡ b → length (bytes_of (channel_messages kind (entries l) i o)) + 12 * min i 16 ≤ 12 * min (i + 1) 16
      go true e =
          let past = entry_past l i (omega (arith, leb-true 16 i e, entries_few l)) in
          rw (channel_past kind (entries l) i o past) (omega (arith, leb-true 16 i e))
      go false e = omega (arith, leb-false 16 i e, channel_small kind (entries l) i o)
