-- What turns take from a reader and give to a writer.
use Prim.Native.Nat.{ℕ, ◌<◌}
use native.Mathlib.Omega.{arith}
use mathlib.Core.Path.{◌≡◌, refl, sym, ◌∙◌, ap}
use mathlib.Core.Bool.{Bool, false}
use mathlib.Core.List.{List, [], ◌∷◌, ◌++◌}
use lib.ListN.{length, take}
use Rattle.std.specs.Prelude.{Result, Ok, Err}
use Rattle.std.specs.Result.{IfErr, IsErrAnd, result_ok}
use Rattle.std.proofs.lemmas.Bool.{false≢true}
use Rattle.std.proofs.lemmas.Result.{IfErr-at_err}
use Rattle.std.specs.Io.{ReadsAtMost}
use Rattle.std.specs.Io.KnownBytes.{Consumes, Appends, ReadConsumes, WriteAppends}
use Rattle.std.proofs.KnownBytes.{Consumes-nil, Consumes-kept, Consumes-trans, Appends-nil, Appends-kept, Appends-trans}
use Rattle.std.specs.declared.option.Option.{Option}
use Rattle.std.specs.declared.io.Error.{Error}
use Rattle.console_io.specs.Stream.{State, view, start, brought, receive, read_rule, count, write_rule, answer_rule}
use Rattle.console_io.specs.Stream.{Idle, rests, starts, turns, Ran}
use Rattle.console_io.specs.Failure.{Passes, FailedAt}
use Rattle.console_io.specs.declared.failure.Failure.{Failure}
use Rattle.console_io.specs.declared.failure.Failure.TheVariants.{Input, Output}
use Rattle.console_io.specs.declared.stream.Stream.{Stream}
use Rattle.console_io.specs.Bytes.{EndsBehind, TurnedOver, RanOver}
use Rattle.console_io.proofs.Turns.{turn_writes, turn_answers, turn_reads}

-- ---- what a call moved

module _ {E : Type 0} (a b : Option (List ℕ)) where
  -- a write
  pub given_by : (res : Result ℕ E) (buf : List ℕ) → WriteAppends a b res buf → Appends a b (take (count (result_ok res)) buf)
  given_by (Ok n) buf h = h
  given_by (Err e) buf h = Appends-kept a a b [] (Appends-nil a) h

  -- a read
  pub taken_by : (res : Result ℕ E) (buf : List ℕ) → ReadConsumes a b res buf → Consumes a b (brought (result_ok res) buf)
  unfolding brought
  taken_by (Ok n) buf h = h.0
  taken_by (Err e) buf h = Consumes-kept a a b [] (Consumes-nil a) h

  -- it takes the end of the input only behind all of it
  pub behind_by : (res : Result ℕ E) (buf : List ℕ) (room : ℕ) (s : State) → ReadsAtMost res buf → ReadConsumes a b res buf → s.ended ≡ false
      → EndsBehind (length buf) (read_rule room (result_ok res) buf s) b
  unfolding read_rule receive
  behind_by (Ok n) buf room s most h going = go (take n buf) refl
    where
      go : (l : List ℕ) → take n buf ≡ l → EndsBehind (length buf) (receive room l s) b
      go [] e = λ x some. h.1 (most.1 ∙ ap length e) some
      go (c ∷ l) e = λ x some. absurd (false≢true (sym going ∙ x))
  behind_by (Err e) buf room s most h going = λ x some. absurd (false≢true (sym going ∙ x))

-- ---- a turn

module _ {size : ℕ} {a b : Option (List ℕ)} {s : State} where
  pub over_rests : TurnedOver size a a b b s s
  over_rests = record { read = []; put = []; turn = rests; taken = Consumes-nil a; given = Appends-nil b; behind = λ e. e }

  -- a write that answered `res`
  pub over_writes : {b' : Option (List ℕ)} {t : State} {E : Type 0} (res : Result ℕ E) {put : Option ℕ}
      → put ≡ result_ok res → WriteAppends b b' res s.unwritten
      → t ≡ write_rule put s → TurnedOver size a a b b' s t
  over_writes {b'} {t} res {put} is h e =
      record {
        read = [];
        put = take (count put) s.unwritten;
        turn = turn_writes s t put e;
        taken = Consumes-nil a;
        given = rw is (given_by b b' res s.unwritten h);
        behind = λ f x some. f (sym (ap (λ (u : State). u.ended) e) ∙ x) some;
      }

  -- what was read is answered
  pub over_answers : {t : State} (room : ℕ) → s.unwritten ≡ [] → t ≡ answer_rule room s → TurnedOver size a a b b s t
  over_answers {t} room none e =
      record {
        read = [];
        put = [];
        turn = turn_answers s t room none e;
        taken = Consumes-nil a;
        given = Appends-nil b;
        behind = λ f x some. f (sym (ap (λ (u : State). u.ended) e) ∙ x) some;
      }

-- a read that answered `res`
pub over_reads : (s : Stream) (before piece out : List ℕ) (room : ℕ) {a a' b : Option (List ℕ)} {t : State} {E : Type 0} (res : Result ℕ E) {got : Option ℕ}
    → got ≡ result_ok res → length piece ≡ length before → Idle (view s before out) → ReadsAtMost res piece → ReadConsumes a a' res piece
    → t ≡ read_rule room got piece (view s piece out) → TurnedOver (length before) a a' b b (view s before out) t
over_reads s before piece out room {a} {a'} {b} {t} res {got} is same idle most h e =
    let f : t ≡ read_rule room (result_ok res) piece (view s piece out) = e ∙ ap (λ (k : Option ℕ). read_rule room k piece (view s piece out)) is in
    record {
      read = brought (result_ok res) piece;
      put = [];
      turn = turn_reads s t room (result_ok res) before piece out same idle.answered idle.written idle.more f;
      taken = taken_by a a' res piece h;
      given = Appends-nil b;
      behind = λ g x some.
          behind_by a a' res piece room (view s piece out) most h idle.more (sym (ap (λ (u : State). u.ended) f) ∙ x) (omega (arith, some, same));
    }

-- ---- some turns

pub ran_over : {size : ℕ} {a a' b b' : Option (List ℕ)} {s : State} → RanOver size a a' b b' s → Ran s
ran_over r = record { input = r.input; output = r.output; reached = r.reached }

pub over_none : {size : ℕ} {a b : Option (List ℕ)} {s : State} → s ≡ start → RanOver size a a b b s
over_none {a = a} {b = b} {s = s} e =
    record {
      input = [];
      output = [];
      reached = rw e starts;
      taken = Consumes-nil a;
      given = Appends-nil b;
      behind = λ x some. absurd (false≢true (sym (ap (λ (u : State). u.ended) e) ∙ x));
    }

pub over_more : {size : ℕ} {a a' a'' b b' b'' : Option (List ℕ)} {s t : State} → RanOver size a a' b b' s → TurnedOver size a' a'' b' b'' s t
    → RanOver size a a'' b b'' t
over_more {a = a} {a' = a'} {a'' = a''} {b = b} {b' = b'} {b'' = b''} r n =
    record {
      input = r.input ++ n.read;
      output = r.output ++ n.put;
      reached = turns r.reached n.turn;
      taken = Consumes-trans a a' a'' r.input n.read r.taken n.taken;
      given = Appends-trans b b' b'' r.output n.put r.given n.given;
      behind = n.behind r.behind;
    }

-- ---- a failure that ends the program: `f` is made of the error of a call that answered `res`

handed_on : (r : Result Bool Failure) (f : Failure) (t : State) → IsErrAnd r (λ d. d ≡ f) → FailedAt f t → IfErr r (λ d. FailedAt d t)
handed_on (Ok x) f t is h = absurd is
handed_on (Err d) f t is h = rw is h

module _ (r : Result Bool Failure) {f : Failure} (is : IsErrAnd r (λ d. d ≡ f)) {ends : Result (Unit {0}) Error} (res : Result ℕ Error)
    (last : IfErr ends (λ e. (res ≡ Err e) × (Passes e → ⊥))) {moved : Option ℕ} (by : moved ≡ result_ok res) where
  -- a write that failed has taken nothing
  pub output_failed : (s : State) {t : State} → (e : Error) × (ends ≡ Err e) × (f ≡ Output e) → t ≡ write_rule moved s → 0 < length s.unwritten
      → IfErr r (λ d. FailedAt d t)
  output_failed s {t} z step some =
      let failed : (res ≡ Err z.0) × (Passes z.0 → ⊥) = IfErr-at_err _ z.1 last in
      let kept : t.unwritten ≡ s.unwritten = rw (step, by, failed.0) in
      handed_on r f t is (rw z.2 ((λ none. omega (arith, ap length kept, ap length none)), failed.1))

  -- a read that failed has brought nothing
  pub input_failed : {s t : State} (room : ℕ) (buffer : List ℕ) → (e : Error) × (ends ≡ Err e) × (f ≡ Input e) → t ≡ read_rule room moved buffer s → Idle s
      → IfErr r (λ d. FailedAt d t)
  unfolding read_rule
  input_failed {s} {t} room buffer z step idle =
      let failed : (res ≡ Err z.0) × (Passes z.0 → ⊥) = IfErr-at_err _ z.1 last in
      let kept : t ≡ s = rw (step, by, failed.0) in
      handed_on r f t is (rw z.2 (rw kept idle, failed.1))
