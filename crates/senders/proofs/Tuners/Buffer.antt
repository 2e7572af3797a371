-- Laws of lent buffers and of `CallMeets`: the three ways a call ends, and what a call hands back.
use mathlib.Core.Path.{◌≡◌, refl, ap}
use mathlib.Core.List.{List, ◌++◌, append-nil}
use Prim.Native.Nat.{ℕ, ◌-◌, ◌≤◌, ◌<◌}
use native.Mathlib.Nat.{le_of_eq}
use lib.Dec.{leb}
use lib.ListN.{length, take, drop, length-drop, drop_of_length-le}
use borrow.Author.Tests.{lt-leb, le-leb}
use mathlib.Core.Bool.{Bool, true, false, cond}
use Rattle.std.specs.Prelude.{Result}
use Rattle.std.specs.Result.{IsErrAnd}
use Rattle.arithmetic.specs.Answers.{outcome}
use Rattle.arithmetic.specs.Refusal.{number}
use Rattle.arithmetic.specs.declared.refusal.Refusal.{Refusal}
use Rattle.arithmetic.proofs.Rules.Outcomes.{hands_on}
use Rattle.channels.specs.Outcome.{Outcome, value, refused}
use Rattle.channels.specs.Refusal.{buffer_too_short}
use Rattle.senders.specs.Buffer.{Effect, sent, result_of, overwrite, buffer_after, check_room, StateAfter, CallMeets, WriteMeets, state_after}

-- a buffer whose part `&mut s[w..]` has come back
pub tail_back : (l ys : List ℕ) (w : ℕ) → take w l ++ (ys ++ drop (length l - w) (drop w l)) ≡ take w l ++ ys
tail_back l ys w = rw (drop_of_length-le (drop w l) {i = length l - w} (le_of_eq (length-drop w l)), append-nil)

-- ---- the three ways a call ends

module _ {R S T : Type 0} {view : T → S} {rule : Outcome (Effect R S)} {s : T} {old : List ℕ} where
  -- refused by a test of its rule
  pub ends_refused : {n : ℕ} → rule ≡ refused n → CallMeets view rule s old (refused n) s old
  ends_refused e = record { result_is = simp e; state_is = rw e refl; buffer_is = simp e }

  -- refused by what another call answered
  pub ends_handed : (r : Result R Refusal) (d : Refusal) → IsErrAnd r (λ x. x ≡ d) → rule ≡ refused (number d) → CallMeets view rule s old (outcome r) s old
  ends_handed r d h e = rw (hands_on r d h refl) (ends_refused e)

  -- refused for want of room
  pub ends_short : {f : Effect R S} → rule ≡ value f → length old < length f.bytes → CallMeets view rule s old (refused buffer_too_short) s old
  ends_short {f} e h =
      let t : leb (length f.bytes) (length old) ≡ false = lt-leb (length f.bytes) (length old) h in
      record { result_is = simp (e, t); state_is = rw (e, t) refl; buffer_is = simp (e, t) }

  -- sent
  pub ends_sent :
      {f : Effect R S} {back : T} → rule ≡ value f → length f.bytes ≤ length old → view back ≡ f.next
      → CallMeets view rule s old (value f.result) back (overwrite f.bytes old)
  ends_sent {f} e h m =
      let t : leb (length f.bytes) (length old) ≡ true = le-leb (length f.bytes) (length old) h in
      record { result_is = simp (e, t); state_is = rw (e, t) m; buffer_is = rw (e, t) refl }

-- ---- a call whose bytes another writes: it ends as that one does

-- the answer of a call that counts its bytes
pub written_count : {bs old new : List ℕ} {n : ℕ} → WriteMeets (sent bs) old (value n) new → n ≡ length bs
written_count {bs} {old} {new} {n} p = by (leb (length bs) (length old)) p.result_is
  where
    by : (t : Bool) → value n ≡ result_of (cond t (sent bs) (refused buffer_too_short)) → n ≡ length bs
    by true a = cc
    by false a = absurd (cc)

module _ {R S T : Type 0} {view : T → S} {rule : Outcome (Effect R S)} {s : T} {old new : List ℕ} where
  pub ends_written :
      {f : Effect R S} {n : ℕ} {back : T} → rule ≡ value f → WriteMeets (sent f.bytes) old (value n) new → view back ≡ f.next
      → CallMeets view rule s old (value f.result) back new
  ends_written {f} {n} {back} e p m = by (leb (length f.bytes) (length old)) refl p.result_is p.buffer_is
    where
      by :
          (t : Bool) → leb (length f.bytes) (length old) ≡ t → value n ≡ result_of (cond t (sent f.bytes) (refused buffer_too_short))
          → new ≡ buffer_after (cond t (sent f.bytes) (refused buffer_too_short)) old → CallMeets view rule s old (value f.result) back new
      by true h a l = record { result_is = simp (e, h); state_is = rw (e, h) m; buffer_is = rw (e, h) l }
      by false h a l = absurd (cc)

  pub ends_unwritten :
      {f : Effect R S} {n : ℕ} → rule ≡ value f → WriteMeets (sent f.bytes) old (refused n) new → CallMeets view rule s old (refused n) s new
  ends_unwritten {f} {n} e p = by (leb (length f.bytes) (length old)) refl p.result_is p.buffer_is
    where
      by :
          (t : Bool) → leb (length f.bytes) (length old) ≡ t → refused n ≡ result_of (cond t (sent f.bytes) (refused buffer_too_short))
          → new ≡ buffer_after (cond t (sent f.bytes) (refused buffer_too_short)) old → CallMeets view rule s old (refused n) s new
      by true h a l = absurd (cc)
      by false h a l =
          let k : buffer_too_short ≡ n = cc in
          record { result_is = simp (e, h, k); state_is = rw (e, h) refl; buffer_is = rw (e, h) l }

-- the tuner that a call hands back is the one that its rule goes on to
pub handed_back :
    {R S T : Type 0} {view : T → S} {rule : Outcome (Effect R S)} {s back : T} {old new : List ℕ} {result : Outcome R}
    → CallMeets view rule s old result back new → view back ≡ state_after (view s) (check_room (length old) rule)
handed_back {R} {S} {view = view} {rule = rule} {s = s} {back = back} {old = old} p = go (check_room (length old) rule) p.state_is
  where
    go : (f : Outcome (Effect R S)) → StateAfter view f s back → view back ≡ state_after (view s) f
    go (value e) m = m
    go (refused n) m = ap view m
