-- Of an accepted call: its bytes stand at the buffer's start.
use mathlib.Core.Path.{◌≡◌, refl, sym, ap, ◌∙◌}
use mathlib.Core.List.{List}
use Prim.Native.Nat.{ℕ}
use native.Mathlib.Omega.{arith}
use lib.Dec.{leb}
use lib.ListN.{length, take, drop}
use lib.Seq.{take_at}
use mathlib.Core.Bool.{Bool, true, false, cond}
use Rattle.channels.specs.Outcome.{Outcome, value, refused}
use Rattle.channels.specs.Refusal.{buffer_too_short}
use Rattle.senders.specs.Buffer.{Effect, sends, check_room, result_of, StateAfter, buffer_after, overwrite, CallMeets}

-- ---- what a call that was accepted did

pub record Accepted {R S : Type 0} (rule : Outcome (Effect R S)) (old : List ℕ) (answer : R) (next : S) (new : List ℕ) : Type 0 where
  pub effect : Effect R S
  pub rule_is : rule ≡ value effect
  pub answer_is : answer ≡ effect.result
  pub next_is : next ≡ effect.next
  pub new_is : new ≡ overwrite effect.bytes old

-- What fits is what the rule has.
value_of_check_room : {R S : Type 0} (room : ℕ) (rule : Outcome (Effect R S)) {e : Effect R S} → check_room room rule ≡ value e → rule ≡ value e
value_of_check_room room (value f) {e} h = by (leb (length f.bytes) room) h
  where
    by : (t : Bool) → cond t (value f) (refused buffer_too_short) ≡ value e → value f ≡ value e
    by true h = h
    by false h = let z : ◌≡◌ {A = ℕ} 0 1 = cc in absurd (omega arith)
value_of_check_room room (refused n) h = h

accepted_by :
    {R S T : Type 0} (view : T → S) {rule : Outcome (Effect R S)} (s back : T) {old new : List ℕ} {answer : R} (f : Outcome (Effect R S))
    → f ≡ check_room (length old) rule → value answer ≡ result_of f → StateAfter view f s back → new ≡ buffer_after f old
    → Accepted rule old answer (view back) new
accepted_by view {rule = rule} s back {old = old} (value e) i t m l =
    record { effect = e; rule_is = value_of_check_room (length old) rule (sym i); answer_is = (cc); next_is = m; new_is = l }
accepted_by view s back (refused n) i t m l = let z : ◌≡◌ {A = ℕ} 0 1 = cc in absurd (omega arith)

pub accepted :
    {R S T : Type 0} {view : T → S} {rule : Outcome (Effect R S)} {s back : T} {old new : List ℕ} {answer : R}
    → CallMeets view rule s old (value answer) back new → Accepted rule old answer (view back) new
accepted {view = view} {rule = rule} {s = s} {back = back} {old = old} p =
    accepted_by view s back (check_room (length old) rule) refl p.result_is p.state_is p.buffer_is

-- What a call that counts its bytes says it sent stands at the buffer's start.
pub starts_with :
    {S T : Type 0} {view : T → S} {rule : Outcome (Effect ℕ S)} {s back : T} {next : S} {bs old new : List ℕ} {n : ℕ} → rule ≡ sends bs next
    → CallMeets view rule s old (value n) back new → take n new ≡ bs
starts_with {next = next} {bs = bs} {old = old} {new = new} {n = n} e p =
    by (leb (length bs) (length old)) (rw e at p.result_is) (rw e at p.buffer_is)
  where
    by :
        (t : Bool) → let f = cond t (sends bs next) (refused buffer_too_short) in
        value n ≡ result_of f → new ≡ buffer_after f old → take n new ≡ bs
    by true h l =
        let k : n ≡ length bs = cc in
        ap (λ (x : List ℕ). take n x) l ∙ take_at bs (drop (length bs) old) n (sym k)
    by false h l = let z : ◌≡◌ {A = ℕ} 0 1 = cc in absurd (omega arith)
