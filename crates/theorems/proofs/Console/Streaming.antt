-- Whatever the pieces in which the input comes, and whatever room each call has, the program writes what it writes for the whole input. The argument
-- goes byte by byte: what is still to be written is what a byte answers, and then what the rest asks.
use Prim.Native.Nat.{ℕ, ◌-◌}
use mathlib.Core.Path.{◌≡◌, refl, sym, ◌∙◌, ap, subst}
use mathlib.Core.Bool.{Bool, true, false, cond}
use mathlib.Core.List.{List, [], ◌∷◌, ◌++◌, append_assoc, append-nil}
use lib.ListN.{length, take, drop}
use lib.Seq.{take_at}
use lib.Dec.{leb, eqb}
use borrow.Author.Tests.{eqb-true, eqb-false}
use Rattle.senders.specs.Jit.{Tuner}
use Rattle.console_lines.specs.Split.{into, feed, split}
use Rattle.console_lines.specs.Console.{answer, next, answers, nonempty, opened, ended, lines_of, output}
use Rattle.console_lines.specs.ConsoleState.{clip, ConsoleState, StepMeets, start, byte_step, byte_answer, StepResult, no_step, byte_then, step_rule, finish, Calls, none, call}
use Rattle.theorems.specs.ConsoleOutput.{ahead}
use Rattle.console_lines.proofs.Text.Lines.{clip_append, answer_clip, next_clip}
use Rattle.console_lines.specs.declared.step.Step.{Step}
use Rattle.console_lines.proofs.Text.Splits.{into_none, into_into, split_sep, split_other}

module _ (t : Tuner) where
  pub answer_clips : (a b : List ℕ) → answer t (clip a ++ b) ≡ answer t (a ++ b)
  answer_clips a b = sym (answer_clip t (clip a ++ b)) ∙ ap (answer t) (clip_append a b) ∙ answer_clip t (a ++ b)

  pub next_clips : (a b : List ℕ) → next t (clip a ++ b) ≡ next t (a ++ b)
  next_clips a b = sym (next_clip t (clip a ++ b)) ∙ ap (next t) (clip_append a b) ∙ next_clip t (a ++ b)

  -- The end of the input may end a line.
  answers_clip : (f : List ℕ) → answers t (nonempty (clip f)) ≡ answers t (nonempty f)
  unfolding answers nonempty
  answers_clip [] = refl
  answers_clip (b ∷ s) = ap (λ (l : List ℕ). l ++ []) (answer_clip t (b ∷ s))

  -- Behind a line that has begun the lines of an input follow.
  pub ended_clip : (a : List ℕ) (parts : List (List ℕ)) → answers t (ended (into (clip a) parts)) ≡ answers t (ended (into a parts))
  unfolding answers ended into
  ended_clip a [] = answers_clip a
  ended_clip a (f ∷ []) = sym (answers_clip (clip a ++ f)) ∙ ap (λ (l : List ℕ). answers t (nonempty l)) (clip_append a f) ∙ answers_clip (a ++ f)
  ended_clip a (f ∷ g ∷ gs) =
      ap (λ (l : List ℕ). l ++ answers (next t (clip a ++ f)) (ended (g ∷ gs))) (answer_clips a f)
      ∙ ap (λ (u : Tuner). answer t (a ++ f) ++ answers u (ended (g ∷ gs))) (next_clips a f)

-- A line with parts behind it is whole.
ended_line : (f s : List ℕ) → ended (f ∷ split feed s) ≡ f ∷ ended (split feed s)
unfolding ended into
ended_line f s = rw (← into_none feed s) (go (split feed s))
  where
    go : (x : List (List ℕ)) → ended (f ∷ into [] x) ≡ f ∷ ended (into [] x)
    go [] = refl
    go (g ∷ gs) = refl

-- Where nothing more comes, a line that has begun is finished.
pub ahead_none : (s : ConsoleState) → ahead s [] ≡ finish s
unfolding ahead finish split into ended
ahead_none s = rw append-nil

-- A byte more asks what it answers, and then what the rest asks.
ahead_byte : (s : ConsoleState) (b : ℕ) (bs : List ℕ) → ahead s (b ∷ bs) ≡ byte_answer s b ++ ahead (byte_step s b) bs
unfolding byte_answer byte_step ahead into answers
ahead_byte s b bs = go (eqb b feed) refl
  where
    go : (t : Bool) → eqb b feed ≡ t
        → ahead s (b ∷ bs)
        ≡ cond t (answer s.tuner s.begun) []
        ++ ahead (cond t (record { tuner = next s.tuner s.begun; begun = [] }) (record { tuner = s.tuner; begun = clip (s.begun ++ (b ∷ [])) })) bs
    go true e =
        ap (λ (x : List (List ℕ)). answers s.tuner (ended (into s.begun x))) (split_sep feed b bs (eqb-true b feed e))
        ∙ ap (λ (l : List ℕ). answers s.tuner (ended (l ∷ split feed bs))) (append-nil s.begun)
        ∙ ap (answers s.tuner) (ended_line s.begun bs)
        ∙ ap (λ (x : List (List ℕ)). answer s.tuner s.begun ++ answers (next s.tuner s.begun) (ended x)) (sym (into_none feed bs))
    go false e =
        ap (λ (x : List (List ℕ)). answers s.tuner (ended (into s.begun x))) (split_other feed b bs (eqb-false b feed e))
        ∙ ap (λ (x : List (List ℕ)). answers s.tuner (ended x)) (sym (into_into s.begun (b ∷ []) (split feed bs)))
        ∙ sym (ended_clip s.tuner (s.begun ++ (b ∷ [])) (split feed bs))

-- A call asks what it wrote, and then what is left of its piece and the rest ask.
pub ahead_step : (room : ℕ) (s : ConsoleState) (piece rest : List ℕ)
    → ahead s (piece ++ rest) ≡ (step_rule room s piece).output ++ ahead (step_rule room s piece).console (drop (step_rule room s piece).used piece ++ rest)
unfolding step_rule
ahead_step room s [] rest = refl
ahead_step room s (b ∷ bs) rest = go (leb (length (byte_answer s b)) room) (ahead_step (room - length (byte_answer s b)) (byte_step s b) bs rest)
  where
    go : (t : Bool)
        → (let r = step_rule (room - length (byte_answer s b)) (byte_step s b) bs in
        ahead (byte_step s b) (bs ++ rest) ≡ r.output ++ ahead r.console (drop r.used bs ++ rest))
        → (let q = cond t (byte_then (byte_answer s b) (step_rule (room - length (byte_answer s b)) (byte_step s b) bs)) (no_step s) in
        ahead s (b ∷ bs ++ rest) ≡ q.output ++ ahead q.console (drop q.used (b ∷ bs) ++ rest))
    go true ih =
        let r = step_rule (room - length (byte_answer s b)) (byte_step s b) bs in
        ahead_byte s b (bs ++ rest) ∙ ap (λ (l : List ℕ). byte_answer s b ++ l) ih
        ∙ sym (append_assoc (byte_answer s b) r.output (ahead r.console (drop r.used bs ++ rest)))
    go false ih = refl

calls_ahead : {s s' : ConsoleState} {input out : List ℕ} → Calls s input s' out → ahead s input ≡ out ++ finish s'
calls_ahead (none {s = s}) = ahead_none s
calls_ahead (call {s = s} {s' = s'} {out = out} room piece rest r e cs) =
    ahead_step room s piece rest
    ∙ ap (λ (q : StepResult). q.output ++ ahead q.console (drop q.used piece ++ rest)) (sym e)
    ∙ ap (λ (l : List ℕ). r.output ++ l) (calls_ahead cs)
    ∙ sym (append_assoc r.output out (finish s'))

-- From `Console::new` over any calls of `step` to `finish`, what is written is the output for the whole input.
pub whole_input : {s : ConsoleState} {input out : List ℕ} → Calls start input s out → out ++ finish s ≡ output input
unfolding output lines_of ahead
whole_input {s} {input} {out} cs = sym (calls_ahead cs) ∙ ap (λ (x : List (List ℕ)). answers opened (ended x)) (into_none feed input)

-- A call of the code, by its contract, is one of `Calls`: what it wrote stands at the start of its buffer.
pub step_call :
    {s t s' : ConsoleState} {piece old new out : List ℕ} (rest : List ℕ) (r : Step) → StepMeets s piece old new t r
    → Calls t (drop r.used piece ++ rest) s' out → Calls s (piece ++ rest) s' (take r.written new ++ out)
step_call {s} {s'} {piece} {old} {new} {out} rest r p cs =
    let q = step_rule (length old) s piece in
    let o : take r.written new ≡ q.output =
    ap (λ (k : ℕ). take k new) p.written_is
    ∙ ap (take (length q.output)) p.buffer_is
    ∙ take_at q.output (drop (length q.output) old) (length q.output) refl in
    let c : Calls q.console (drop q.used piece ++ rest) s' out =
    subst (λ (k : ℕ). Calls q.console (drop k piece ++ rest) s' out) p.used_is
    (subst (λ (x : ConsoleState). Calls x (drop r.used piece ++ rest) s' out) p.state_is cs) in
    subst (λ (l : List ℕ). Calls s (piece ++ rest) s' (l ++ out)) (sym o) (call (length old) piece rest q refl c)
