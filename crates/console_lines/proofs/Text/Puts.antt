-- A text at the start of a buffer.
use Prim.Native.Nat.{ℕ, ◌≤◌, ◌<◌}
use mathlib.Core.Path.{◌≡◌, refl, sym, ap}
use mathlib.Core.Bool.{Bool, true, false}
use mathlib.Core.List.{List}
use lib.ListN.{length}
use lib.Dec.{leb}
use borrow.Author.Tests.{le-leb, leb-true, leb-false}
use Rattle.channels.specs.Outcome.{value, refused}
use Rattle.channels.specs.Refusal.{buffer_too_short}
use Rattle.arithmetic.proofs.Rules.Outcomes.{no_value}
use Rattle.senders.specs.Buffer.{CallMeets, sends, WriteMeets, sent, overwrite}

pub puts : {text old new : List ℕ} {n : ℕ} → n ≡ length text → length text ≤ length old → new ≡ overwrite text old → WriteMeets (sent text) old (value n) new
puts {text} {old} {n = n} e h w =
    let t = le-leb (length text) (length old) h in
    record { result_is = rw t (ap value e); state_is = rw t refl; buffer_is = rw t w }

-- ---- what the answer of a call that sends a text says

-- all of it was sent
pub record SentAll {S : Type 0} (text : List ℕ) (next s : S) (old new : List ℕ) (n : ℕ) : Type 0 where
  pub count_is : n ≡ length text
  pub fits : length text ≤ length old
  pub buffer_is : new ≡ overwrite text old
  pub next_is : s ≡ next

pub sent_all : {S T : Type 0} {view : T → S} {text : List ℕ} {next : S} {t back : T} {old new : List ℕ} {n : ℕ}
    → CallMeets view (sends text next) t old (value n) back new → SentAll text next (view back) old new n
sent_all {view = view} {text = text} {next = next} {back = back} {old = old} {new = new} {n = n} s = go (leb (length text) (length old)) refl
  where
    go : (b : Bool) → leb (length text) (length old) ≡ b → SentAll text next (view back) old new n
    go true h =
        let v : value n ≡ value (length text) = rw h at s.result_is in
        record { count_is = cc v; fits = leb-true (length text) (length old) h; buffer_is = rw h at s.buffer_is; next_is = rw h at s.state_is }
    go false h = no_value n buffer_too_short (rw h at s.result_is)

-- none of it was
pub record SentNone {T : Type 0} (text : List ℕ) (t back : T) (old new : List ℕ) (n : ℕ) : Type 0 where
  pub number_is : n ≡ buffer_too_short
  pub short : length old < length text
  pub buffer_is : new ≡ old
  pub back_is : back ≡ t

pub sent_none : {S T : Type 0} {view : T → S} {text : List ℕ} {next : S} {t back : T} {old new : List ℕ} {n : ℕ}
    → CallMeets view (sends text next) t old (refused n) back new → SentNone text t back old new n
sent_none {view = view} {text = text} {t = t} {back = back} {old = old} {new = new} {n = n} s = go (leb (length text) (length old)) refl
  where
    go : (b : Bool) → leb (length text) (length old) ≡ b → SentNone text t back old new n
    go true h = no_value (length text) n (sym (rw h at s.result_is))
    go false h =
        let v : refused n ≡ refused buffer_too_short = rw h at s.result_is in
        record { number_is = cc v; short = leb-false (length text) (length old) h; buffer_is = rw h at s.buffer_is; back_is = rw h at s.state_is }
