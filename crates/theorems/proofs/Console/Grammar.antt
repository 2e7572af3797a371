-- `meaning` is the grammar, both ways: a line is an event exactly if the grammar has it.
use Prim.Native.Nat.{ℕ, ◌≤◌}
use native.Mathlib.Omega.{arith}
use mathlib.Core.Path.{◌≡◌, refl, sym, ◌∙◌, ap}
use mathlib.Core.Bool.{Bool, true, false, cond, ◌&&◌, and-eq-true_iff}
use mathlib.Core.List.{List, [], ◌∷◌, ◌++◌}
use mathlib.Core.Logic.{◌↔◌}
use mathlib.Core.Option.{Option, some, none}
use lib.ListN.{length, length-append}
use lib.Dec.{eqb, leb}
use borrow.Author.Tests.{eqb-true, leb-true}
use Rattle.std.specs.Prelude.{Result, Ok, Err}
use Rattle.std.specs.Str.{bytes_eq}
use Rattle.std.proofs.lemmas.Slice.Eq.{bytes_eq-Decides}
use Rattle.arithmetic.specs.Answers.{outcome_by}
use Rattle.arithmetic.specs.declared.refusal.Refusal.{Refusal}
use Rattle.console_lines.specs.Split.{into, split}
use Rattle.channels.specs.Outcome.{value, refused}
use Rattle.console_lines.specs.Grammar.{word, digits, decimal, allowed}
use Rattle.theorems.specs.Grammar.{Spells, Means}
use Rattle.console_lines.specs.Line.{event, kind_of, number, event_of, of_fields, meaning, parsed}
use Rattle.senders.specs.declared.event.EventKind.{EventKind}
use Rattle.console_lines.specs.declared.line.ParsedEvent.{ParsedEvent}
use Rattle.senders.specs.declared.event.EventKind.TheVariants.{Press, Release, Repitch}
use Rattle.console_lines.proofs.Text.Splits.{into_none, split_sep, split_other}
use Rattle.console_lines.proofs.Text.Lines.{number_some, event_some, meaning_fields}

-- Digits before a separator are a field.
split_digits : (s rest : List ℕ) → digits s ≡ true → split 44 (s ++ 44 ∷ rest) ≡ s ∷ split 44 rest
unfolding digits into
split_digits [] rest d = split_sep 44 44 rest refl
split_digits (b ∷ s) rest d =
    let x = (and-eq-true_iff (leb 48 b && leb b 57) (digits s)).0 d in
    let l : 48 ≤ b = leb-true 48 b ((and-eq-true_iff (leb 48 b) (leb b 57)).0 x.0).0 in
    split_other 44 b (s ++ 44 ∷ rest) (λ e. omega arith) ∙ ap (into (b ∷ [])) (split_digits s rest x.1)

split_last : (s : List ℕ) → digits s ≡ true → split 44 s ≡ s ∷ []
unfolding digits into split
split_last [] d = refl
split_last (b ∷ s) d =
    let x = (and-eq-true_iff (leb 48 b && leb b 57) (digits s)).0 d in
    let l : 48 ≤ b = leb-true 48 b ((and-eq-true_iff (leb 48 b) (leb b 57)).0 x.0).0 in
    split_other 44 b s (λ e. omega arith) ∙ ap (into (b ∷ [])) (split_last s x.1)

split_word : (k : EventKind) (rest : List ℕ) → split 44 (word k ++ 44 ∷ rest) ≡ word k ∷ split 44 rest
unfolding word split into
split_word Press rest = refl
split_word Release rest = refl
split_word Repitch rest = refl

word_length : (k : EventKind) → length (word k) ≤ 4
unfolding word
word_length Press = omega arith
word_length Release = omega arith
word_length Repitch = omega arith

kind_word : (k : EventKind) → kind_of (word k) ≡ some k
unfolding word kind_of
kind_word Press = refl
kind_word Release = refl
kind_word Repitch = refl

-- What the grammar has, `meaning` accepts with that meaning.
pub complete : (line : List ℕ) (k : EventKind) (a m v : ℕ) → Means line k a m v → meaning line ≡ value (event k a m v)
unfolding of_fields
complete line k a m v g =
    let x = g.key in
    let y = g.millihertz in
    let z = g.velocity in
    let f1 = split_word k (x ++ 44 ∷ (y ++ 44 ∷ z)) in
    let f2 = split_digits x (y ++ 44 ∷ z) g.keyed.all in
    let f3 = split_digits y z g.pitched.all in
    let f4 = split_last z g.struck.all in
    let fs : split 44 line ≡ word k ∷ x ∷ y ∷ z ∷ [] = ap (split 44) g.bytes ∙ cc (f1, f2, f3, f4) in
    let na = number_some 3 x g.keyed.least g.keyed.most g.keyed.all ∙ ap some g.keyed.value in
    let nm = number_some 9 y g.pitched.least g.pitched.most g.pitched.all ∙ ap some g.pitched.value in
    let nv = number_some 3 z g.struck.least g.struck.most g.struck.all ∙ ap some g.struck.value in
    meaning_fields line (word k ∷ x ∷ y ∷ z ∷ []) g.short fs
    ∙ rw (kind_word k, na, nm, nv) (event_some k a m v g.allows)

-- The parts are joined again, with the separator between them.
join : ℕ → List (List ℕ) → List ℕ
join sep [] = []
join sep (f ∷ []) = f
join sep (f ∷ g ∷ gs) = f ++ sep ∷ join sep (g ∷ gs)

join_byte : (sep b : ℕ) (x : List (List ℕ)) → join sep (into (b ∷ []) x) ≡ b ∷ join sep x
unfolding join into
join_byte sep b [] = refl
join_byte sep b (f ∷ []) = refl
join_byte sep b (f ∷ g ∷ gs) = refl

join_sep : (sep : ℕ) (s : List ℕ) → join sep ([] ∷ split sep s) ≡ sep ∷ join sep (split sep s)
unfolding join into
join_sep sep s = rw (← into_none sep s) (go (split sep s))
  where
    go : (x : List (List ℕ)) → join sep ([] ∷ into [] x) ≡ sep ∷ join sep (into [] x)
    go [] = refl
    go (f ∷ fs) = refl

join_split : (sep : ℕ) (s : List ℕ) → join sep (split sep s) ≡ s
unfolding join split
join_split sep [] = refl
join_split sep (b ∷ s) = go (eqb b sep) refl (join_split sep s)
  where
    go : (t : Bool) → eqb b sep ≡ t → join sep (split sep s) ≡ s → join sep (cond t ([] ∷ split sep s) (into (b ∷ []) (split sep s))) ≡ b ∷ s
    go true e ih =
        let h : b ≡ sep = eqb-true b sep e in
        join_sep sep s ∙ cc (ih, h)
    go false e ih = join_byte sep b (split sep s) ∙ ap (λ (l : List ℕ). b ∷ l) ih

word_kind : (s : List ℕ) (k : EventKind) → kind_of s ≡ some k → s ≡ word k
unfolding kind_of word
word_kind s k e =
    go (bytes_eq s (word Press)) (bytes_eq s (word Release)) (bytes_eq s (word Repitch))
    (bytes_eq-Decides s (word Press)).0 (bytes_eq-Decides s (word Release)).0 (bytes_eq-Decides s (word Repitch)).0 e
  where
    go : (x y z : Bool) → (x ≡ true → s ≡ word Press) → (y ≡ true → s ≡ word Release) → (z ≡ true → s ≡ word Repitch)
        → cond x (some Press) (cond y (some Release) (cond z (some Repitch) none)) ≡ some k → s ≡ word k
    go true y z p q r h = let w : Press ≡ k = cc h in p refl ∙ ap word w
    go false true z p q r h = let w : Release ≡ k = cc h in q refl ∙ ap word w
    go false false true p q r h = let w : Repitch ≡ k = cc h in r refl ∙ ap word w
    go false false false p q r h = let w : ◌≡◌ {A = ℕ} 0 1 = cc h in absurd (omega arith)

number_spells : (places : ℕ) (s : List ℕ) (n : ℕ) → number places s ≡ some n → Spells places s n
unfolding number
number_spells places s n e = go ((leb 1 (length s) && leb (length s) places) && digits s) refl e
  where
    go : (t : Bool) → ((leb 1 (length s) && leb (length s) places) && digits s) ≡ t → cond t (some (decimal 0 s)) none ≡ some n → Spells places s n
    go true h w =
        let x = (and-eq-true_iff (leb 1 (length s) && leb (length s) places) (digits s)).0 h in
        let y = (and-eq-true_iff (leb 1 (length s)) (leb (length s) places)).0 x.0 in
        record { least = leb-true 1 (length s) y.0; most = leb-true (length s) places y.1; all = x.1; value = cc w }
    go false h w = let z : ◌≡◌ {A = ℕ} 0 1 = cc w in absurd (omega arith)

-- Four fields are an event.
record Fields (k : Option EventKind) (a m v : Option ℕ) (k' : EventKind) (a' m' v' : ℕ) : Type 0 where
  kind : k ≡ some k'
  key : a ≡ some a'
  millihertz : m ≡ some m'
  velocity : v ≡ some v'
  allows : allowed k' a' m' v' ≡ true

fields_read : (k : Option EventKind) (a m v : Option ℕ) (k' : EventKind) (a' m' v' : ℕ)
    → event_of k a m v ≡ value (event k' a' m' v') → Fields k a m v k' a' m' v'
unfolding event_of
fields_read none a m v k' a' m' v' e = let z : ◌≡◌ {A = ℕ} 0 1 = cc e in absurd (omega arith)
fields_read (some k) none m v k' a' m' v' e = let z : ◌≡◌ {A = ℕ} 0 1 = cc e in absurd (omega arith)
fields_read (some k) (some a) none v k' a' m' v' e = let z : ◌≡◌ {A = ℕ} 0 1 = cc e in absurd (omega arith)
fields_read (some k) (some a) (some m) none k' a' m' v' e = let z : ◌≡◌ {A = ℕ} 0 1 = cc e in absurd (omega arith)
fields_read (some k) (some a) (some m) (some v) k' a' m' v' e = go (allowed k a m v) refl e
  where
    go : (t : Bool) → allowed k a m v ≡ t → cond t (value (event k a m v)) (refused 13) ≡ value (event k' a' m' v')
        → Fields (some k) (some a) (some m) (some v) k' a' m' v'
    go true h w = record { kind = cc w; key = cc w; millihertz = cc w; velocity = cc w; allows = cc (h, w) }
    go false h w = let z : ◌≡◌ {A = ℕ} 0 1 = cc w in absurd (omega arith)

no_event : {A : Type 0} {k : EventKind} {a m v n : ℕ} → refused n ≡ value (event k a m v) → A
no_event e = let z : ◌≡◌ {A = ℕ} 0 1 = cc e in absurd (omega arith)

parts_mean : (line : List ℕ) (k : EventKind) (a m v : ℕ) → length line ≤ 64 → (fs : List (List ℕ)) → join 44 fs ≡ line
    → of_fields fs ≡ value (event k a m v) → Means line k a m v
unfolding of_fields join
parts_mean line k a m v h [] j w = no_event w
parts_mean line k a m v h (f ∷ []) j w = no_event w
parts_mean line k a m v h (f ∷ g ∷ []) j w = no_event w
parts_mean line k a m v h (f ∷ g ∷ i ∷ []) j w = no_event w
parts_mean line k a m v h (f ∷ x ∷ y ∷ z ∷ []) j w =
    let r = fields_read (kind_of f) (number 3 x) (number 9 y) (number 3 z) k a m v w in
    record {
      key = x;
      millihertz = y;
      velocity = z;
      bytes = sym j ∙ ap (λ (l : List ℕ). l ++ 44 ∷ (x ++ 44 ∷ (y ++ 44 ∷ z))) (word_kind f k r.kind);
      short = h;
      keyed = number_spells 3 x a r.key;
      pitched = number_spells 9 y m r.millihertz;
      struck = number_spells 3 z v r.velocity;
      allows = r.allows;
    }
parts_mean line k a m v h (f ∷ x ∷ y ∷ z ∷ g ∷ gs) j w = no_event w

-- What `meaning` accepts, the grammar has.
pub sound : (line : List ℕ) (k : EventKind) (a m v : ℕ) → meaning line ≡ value (event k a m v) → Means line k a m v
unfolding meaning
sound line k a m v e = short (leb (length line) 64) refl e
  where
    short : (t : Bool) → leb (length line) 64 ≡ t → cond t (of_fields (split 44 line)) (refused 13) ≡ value (event k a m v) → Means line k a m v
    short true h w = parts_mean line k a m v (leb-true (length line) 64 h) (split 44 line) (join_split 44 line) w
    short false h w = no_event w

-- And so a line has one meaning.
pub unique : (line : List ℕ) {k k' : EventKind} {a a' m m' v v' : ℕ} → Means line k a m v → Means line k' a' m' v' → event k a m v ≡ event k' a' m' v'
unique line g h =
    let x = complete line _ _ _ _ g in
    let y = complete line _ _ _ _ h in
    cc

-- The longest line has 22 bytes, so the limit of 64 decides nothing.
pub longest : (line : List ℕ) {k : EventKind} {a m v : ℕ} → Means line k a m v → length line ≤ 22
longest line {k} g =
    let x = g.key in
    let y = g.millihertz in
    let z = g.velocity in
    let l1 = length-append (word k) (44 ∷ (x ++ 44 ∷ (y ++ 44 ∷ z))) in
    let l2 = length-append x (44 ∷ (y ++ 44 ∷ z)) in
    let l3 = length-append y (44 ∷ z) in
    omega (arith, ap length g.bytes, word_length k, l1, l2, l3, g.keyed.most, g.pitched.most, g.struck.most)

-- So what `line::parse` answers, which is `meaning`, is the grammar's event, and an event only if the grammar has one.
pub parsed_means :
    (line : List ℕ) (r : Result ParsedEvent Refusal) (k : EventKind) (a m v : ℕ) → outcome_by parsed r ≡ meaning line
    → r ≡ Ok (record { kind = k; key = a; millihertz = m; velocity = v }) ↔ Means line k a m v
parsed_means line r k a m v e = (λ h. sound line k a m v (sym e ∙ ap (outcome_by parsed) h), λ g. back r (e ∙ complete line k a m v g))
  where
    back : (r : Result ParsedEvent Refusal) → outcome_by parsed r ≡ value (event k a m v) → r ≡ Ok (record { kind = k; key = a; millihertz = m; velocity = v })
    back (Ok p) h =
        let ek : p.kind ≡ k = cc h in
        let ea : p.key ≡ a = cc h in
        let em : p.millihertz ≡ m = cc h in
        let ev : p.velocity ≡ v = cc h in
        rw (← ek, ← ea, ← em, ← ev)
    back (Err n) h = no_event h
