-- The check of a plan's lists, line by line, at the line where a loop stands.
use mathlib.Core.Path.{◌≡◌, refl, sym, ap, ◌∙◌}
use mathlib.Core.Bool.{true, false, ◌&&◌}
use mathlib.Core.List.{List, [], ◌∷◌, ◌++◌}
use Prim.Native.Nat.{ℕ, zero, suc, ◌<◌, ◌≤◌}
use native.Mathlib.Omega.{arith}
use borrow.Author.Tests.{eq-eqb, ltb-true, ltb-false}
use lib.Dec.{T, eqb, ltb}
use lib.IntN.{ℤ, pos, negsuc}
use lib.Ieee.{Float, fin, binary64, fits, le}
use lib.Ieee.Fits.{and_l, and_r, div-fits}
use lib.Ieee.Positive.{positive}
use lib.ListN.{length, get_or, drop, drop_of_length-le}
use lib.Seq.{drop-cons}
use Rattle.std.specs.Prelude.{Result, Ok, Err, Option, Some, None, IfSome}
use Rattle.std.specs.Result.{IsErrAnd}
use Rattle.std.specs.Option.{is_some, ok_or, option_copied}
use Rattle.std.specs.Borrow.{Bor}
use Rattle.arithmetic.specs.Answers.{outcome}
use Rattle.arithmetic.specs.declared.refusal.Refusal.{Refusal}
use Rattle.arithmetic.specs.declared.refusal.Refusal.TheVariants.{KeyTwice, ListsUnequal}
use Rattle.arithmetic.specs.Refusal.{number, lists_unequal}
use Rattle.arithmetic.specs.Outcome.{Outcome, value, refused, refuse◌unless◌then◌}
use Rattle.arithmetic.specs.Note.{is_note}
use Rattle.arithmetic.specs.Pitch.{is_pitch, detuning_of}
use Rattle.arithmetic.specs.Nearest.{nearest_rule, nearest_note}
use Rattle.arithmetic.proofs.Notes.Detunings.{detuning_is_positive, planned_is_detuning}
use Rattle.arithmetic.proofs.Notes.Nearest.{nearest_is_note, nearest_detuning}
use Rattle.channels.specs.FirstRefusal.{onward, one_by_one}
use Rattle.channels.specs.Lists.{Each, member}
use Rattle.plans.specs.PlanLine.{PlanLine, keys}
use Rattle.plans.specs.Entries.{entry_of}
use Rattle.plans.specs.PlanLists.{key_count, is_planned, note_line, pitch_line, note_lines, pitch_lines, line_rule, line_by_line}
use Rattle.channels.specs.Places.{is_held, place_of}
use Rattle.plans.specs.declared.sorted_keys.SortedKeys.{SortedKeys}
use Rattle.plans.specs.PlanInternal.{Accepted, Adds, Checked, Holds}
use Rattle.channels.proofs.Lists.Laws.{true→T, tested, passed, failed}
use Rattle.plans.proofs.Lines.SortedKeys.{accepted_snoc, accepted_nil}

-- ---- a turn of a check: the lines so far are held and were accepted, and the lines that are left decide
pub record Turn (o : Outcome (List PlanLine)) (s : SortedKeys) (rest : List (Outcome PlanLine)) : Type 0 where
  pub lines : List PlanLine
  pub holds : Holds s lines
  pub ok : Accepted lines
  pub left : o ≡ line_by_line lines rest

-- what a line is that passed by itself
pub record Sound (l : PlanLine) : Type 0 where
  pub byte : l.key < key_count
  pub note : is_note l.note ≡ true
  pub above : T (positive l.detuning)
  pub fitting : T (fits binary64 l.detuning)

pub turn_begins : (s : SortedKeys) (rest : List (Outcome PlanLine)) → Holds s [] → Turn (line_by_line [] rest) s rest
turn_begins s rest h = record { lines = []; holds = h; ok = accepted_nil; left = refl }

-- the line at hand was refused by itself, and so is the list
module _ (o : Outcome (List PlanLine)) (s : SortedKeys) (rows : List (Outcome PlanLine)) (i : ℕ) (t : Turn o s (drop i rows)) where
  pub turn_refused : (m : ℕ) (d : Outcome PlanLine) → i < length rows → refused m ≡ get_or rows i d → o ≡ refused m
  unfolding one_by_one line_rule
  turn_refused m d h e = t.left ∙ ap (line_by_line t.lines) (drop-cons rows i d h) ∙ rw (sym e)

  module _ (x : PlanLine) (d : Outcome PlanLine) (h : i < length rows) (e : value x ≡ get_or rows i d) where
    rest_is : o ≡ line_by_line t.lines (value x ∷ drop (suc i) rows)
    rest_is = t.left ∙ ap (line_by_line t.lines) (drop-cons rows i d h) ∙ ap (λ (y : Outcome PlanLine). line_by_line t.lines (y ∷ drop (suc i) rows)) (sym e)

    -- its key came before
    pub turn_twice : (r : Refusal) (u : SortedKeys) → Adds x (Err r) s u → o ≡ refused (number r)
    unfolding one_by_one line_rule
    turn_twice r u adds =
        let c = adds t.lines t.ok t.holds in
        rest_is
        ∙ elim (tested (member x.key (keys t.lines))) [
          | passed v ↦ let k : Checked (refused 5) (Err r) = rw v at c in rw v (ap (λ (n : ℕ). refused n) k)
          | failed v ↦ let k : Checked (value (t.lines ++ (x ∷ []))) (Err r) = rw v at c in absurd k
        ]

    -- or there is one line more
    pub turn_next : (u : SortedKeys) → Adds x (Ok tt) s u → Turn o u (drop (suc i) rows)
    unfolding one_by_one line_rule
    turn_next u adds =
        let c = adds t.lines t.ok t.holds in
        elim (tested (member x.key (keys t.lines))) [
          | passed v ↦ let k : Checked (refused 5) (Ok u) = rw v at c in absurd k
          | failed v ↦
              let k : Checked (value (t.lines ++ (x ∷ []))) (Ok u) = rw v at c in
              record { lines = t.lines ++ (x ∷ []); holds = k.1; ok = k.0; left = rest_is ∙ rw v }
        ]

  pub turn_ended : length rows ≤ i → Checked o (Ok s)
  unfolding one_by_one line_rule
  turn_ended h = let e : o ≡ value t.lines = t.left ∙ ap (line_by_line t.lines) (drop_of_length-le rows {i = i} h) in rw e (t.ok, t.holds)

-- a refusal is handed on
pub checked_refused : (o : Outcome (List PlanLine)) (r : Result SortedKeys Refusal) (e : Refusal) → IsErrAnd r (λ d. d ≡ e) → o ≡ refused (number e)
    → Checked o r
checked_refused o (Ok s) e h i = absurd h
checked_refused o (Err d) e h i = rw (h, i)

-- a line that passed by itself, behind lines that are held
module _ (s : SortedKeys) (x : PlanLine) (sound : Sound x) (lines : List PlanLine) (ok : Accepted lines) (h : Holds s lines) where
  pub turn_key_twice : is_held (place_of (get_or s.records x.key 0)) ≡ true → Checked (line_by_line lines (value x ∷ [])) (Err KeyTwice)
  unfolding one_by_one line_rule
  turn_key_twice e = let m : member x.key (keys lines) ≡ true = sym (h.marked x.key) ∙ e in rw m

  module _ (e : is_held (place_of (get_or s.records x.key 0)) ≡ false) where
    pub new : member x.key (keys lines) ≡ false
    new = sym (h.marked x.key) ∙ e

    pub more_ok : Accepted (lines ++ (x ∷ []))
    more_ok = accepted_snoc lines x ok new sound.byte sound.note sound.above sound.fitting

    pub one_more : (t : SortedKeys) → Holds t (lines ++ (x ∷ [])) → Checked (line_by_line lines (value x ∷ [])) (Ok t)
    unfolding one_by_one line_rule
    one_more t k = rw new (more_ok, k)

-- ---- the line at i, by the entries there

-- what `get` finds
pub entry_got : {A : Type 0} (l : List A) (i : ℕ) (o : Option (Bor A)) → is_some o ≡ ltb i (length l) → IfSome o (λ x. x.now ≡ get_or l i x.now)
    → outcome (ok_or (option_copied o) ListsUnequal) ≡ entry_of l i
entry_got l i None e h = missing l i (omega (arith, ltb-false i (length l) (sym e)))
  where
    missing : {A : Type 0} (l : List A) (i : ℕ) → length l ≤ i → refused 12 ≡ entry_of l i
    missing [] i h = refl
    missing (x ∷ l) zero h = absurd (let z : ⊥ = omega arith in z)
    missing (x ∷ l) (suc i) h = missing l i (omega arith)
entry_got l i (Some x) e h = found l i x.now (ltb-true i (length l) (sym e)) h
  where
    found : {A : Type 0} (l : List A) (i : ℕ) (x : A) → i < length l → x ≡ get_or l i x → value x ≡ entry_of l i
    found [] i x b e = absurd (let z : ⊥ = omega arith in z)
    found (y ∷ l) zero x b e = ap (λ (z : _). value z) e
    found (y ∷ l) (suc i) x b e = found l i x (omega arith) e

-- a list without an entry is short, whatever another one is
no_entry_refused : {A B : Type 0} (l : List A) (i : ℕ) → ◌≡◌ {A = Outcome B} (onward (entry_of l i) (λ x. refused lists_unequal)) (refused lists_unequal)
no_entry_refused [] i = refl
no_entry_refused (x ∷ l) zero = refl
no_entry_refused (x ∷ l) (suc i) = no_entry_refused l i

-- a line is that of its entries, of which the first that is missing is refused
pub note_row : (ks : List ℕ) (ns : List ℤ) (ds : List Float) (i : ℕ) → get_or (note_lines ks ns ds) i (refused lists_unequal)
    ≡ onward (entry_of ks i) (λ k. onward (entry_of ns i) (λ n. onward (entry_of ds i) (note_line k n)))
unfolding note_lines
note_row [] ns ds i = refl
note_row (k ∷ ks) [] ds zero = refl
note_row (k ∷ ks) [] ds (suc i) = sym (no_entry_refused ks i)
note_row (k ∷ ks) (n ∷ ns) [] zero = refl
note_row (k ∷ ks) (n ∷ ns) [] (suc i) = sym ((λ j. onward (entry_of ks i) (λ k. no_entry_refused ns i j)) ∙ no_entry_refused ks i)
note_row (k ∷ ks) (n ∷ ns) (d ∷ ds) zero = refl
note_row (k ∷ ks) (n ∷ ns) (d ∷ ds) (suc i) = note_row ks ns ds i

pub pitch_row : (ks : List ℕ) (hzs : List Float) (i : ℕ) → get_or (pitch_lines ks hzs) i (refused lists_unequal)
    ≡ onward (entry_of ks i) (λ k. onward (entry_of hzs i) (pitch_line k))
unfolding pitch_lines
pitch_row [] hzs i = refl
pitch_row (k ∷ ks) [] zero = refl
pitch_row (k ∷ ks) [] (suc i) = sym (no_entry_refused ks i)
pitch_row (k ∷ ks) (hz ∷ hzs) zero = refl
pitch_row (k ∷ ks) (hz ∷ hzs) (suc i) = pitch_row ks hzs i

-- what holds of each line by itself
pub note_lines_each : (P : Outcome PlanLine → Type 0) {B : ℕ → Type 0} {F : Float → Type 0} → ((k : ℕ) (z : ℤ) (d : Float) → B k → F d → P (note_line k z d))
    → (ks : List ℕ) (ns : List ℤ) (ds : List Float) → Each B ks → Each F ds → Each P (note_lines ks ns ds)
unfolding note_lines
note_lines_each P h [] ns ds b f = tt
note_lines_each P h (k ∷ ks) [] ds b f = tt
note_lines_each P h (k ∷ ks) (z ∷ ns) [] b f = tt
note_lines_each P h (k ∷ ks) (z ∷ ns) (d ∷ ds) b f = (h k z d b.0 f.0, note_lines_each P h ks ns ds b.1 f.1)

pub pitch_lines_each : (P : Outcome PlanLine → Type 0) {B : ℕ → Type 0} → ((k : ℕ) (hz : Float) → B k → P (pitch_line k hz))
    → (ks : List ℕ) (hzs : List Float) → Each B ks → Each P (pitch_lines ks hzs)
unfolding pitch_lines
pitch_lines_each P h [] hzs b = tt
pitch_lines_each P h (k ∷ ks) [] b = tt
pitch_lines_each P h (k ∷ ks) (hz ∷ hzs) b = (h k hz b.0, pitch_lines_each P h ks hzs b.1)

-- equally long lists have a line for each key
note_lines_long : (ks : List ℕ) (ns : List ℤ) (ds : List Float) → length ns ≡ length ks → length ds ≡ length ks → length (note_lines ks ns ds) ≡ length ks
unfolding note_lines
note_lines_long [] ns ds e f = refl
note_lines_long (k ∷ ks) [] ds e f = absurd (let z : ⊥ = omega arith in z)
note_lines_long (k ∷ ks) (n ∷ ns) [] e f = absurd (let z : ⊥ = omega arith in z)
note_lines_long (k ∷ ks) (n ∷ ns) (x ∷ ds) e f = ap suc (note_lines_long ks ns ds (omega arith) (omega arith))

-- so many are counted
pub notes_counted : (ks : List ℕ) (ns : List ℤ) (ds : List Float) → length ns ≡ length ks → length ds ≡ length ks
    → value (length ks) ≡ (refuse lists_unequal unless eqb (length ns) (length ks) && eqb (length ds) (length ks) then value (length (note_lines ks ns ds)))
notes_counted ks ns ds e f =
    rw (eq-eqb (length ns) (length ks) e, eq-eqb (length ds) (length ks) f) (ap (λ (n : ℕ). value n) (sym (note_lines_long ks ns ds e f)))

pitch_lines_long : (ks : List ℕ) (hzs : List Float) → length hzs ≡ length ks → length (pitch_lines ks hzs) ≡ length ks
unfolding pitch_lines
pitch_lines_long [] hzs e = refl
pitch_lines_long (k ∷ ks) [] e = absurd (let z : ⊥ = omega arith in z)
pitch_lines_long (k ∷ ks) (x ∷ hzs) e = ap suc (pitch_lines_long ks hzs (omega arith))

pub pitches_counted : (ks : List ℕ) (hzs : List Float) → length hzs ≡ length ks
    → value (length ks) ≡ (refuse lists_unequal unless eqb (length hzs) (length ks) then value (length (pitch_lines ks hzs)))
pitches_counted ks hzs e = rw (eq-eqb (length hzs) (length ks) e) (ap (λ (n : ℕ). value n) (sym (pitch_lines_long ks hzs e)))

-- ---- a line by itself
pub planned_positive : (d : Float) → is_planned d ≡ true → T (positive d)
unfolding is_planned
planned_positive d e =
    let a = le (fin false 1 (negsuc 0)) d in
    let b = le d (fin false 1 (pos 1)) in
    detuning_is_positive d (planned_is_detuning d (and_l a b (true→T e)) (and_r a b (true→T e)))

-- the nearest note's line
pub nearest_sound : (k : ℕ) (hz : Float) (n : ℤ) (d : Float) → k < key_count → value (n, d) ≡ nearest_rule hz
    → Sound (record { key = k; note = n; detuning = d })
unfolding nearest_rule
nearest_sound k hz n d b e = elim (tested (is_pitch hz)) [
  | passed p ↦
      let f : ◌≡◌ {A = Outcome (ℤ × Float)} (value (n, d)) (value (nearest_note hz, detuning_of hz (nearest_note hz))) = rw p at e in
      let q : ◌≡◌ {A = ℤ × Float} (n, d) (nearest_note hz, detuning_of hz (nearest_note hz)) = cc in
      let u : n ≡ nearest_note hz = ap (λ (x : ℤ × Float). x.0) q in
      let v : d ≡ detuning_of hz (nearest_note hz) = ap (λ (x : ℤ × Float). x.1) q in
      record {
        byte = b;
        note = rw u (nearest_is_note hz (true→T p));
        above = rw v (nearest_detuning hz (true→T p));
        fitting = rw v
            (fitting_detuning hz (nearest_note hz));
      }
  | failed p ↦ let f : ◌≡◌ {A = Outcome (ℤ × Float)} (value (n, d)) (refused 1) = rw p at e in absurd (let z : ◌≡◌ {A = ℕ} 0 1 = cc in omega arith)
]
  where
    fitting_detuning : (x : Float) (z : ℤ) → T (fits binary64 (detuning_of x z))
    fitting_detuning x z = unfold detuning_of in div-fits binary64 _ _

pub nearest_refused : (hz : Float) (n : ℕ) → refused n ≡ nearest_rule hz → n ≡ 1
unfolding nearest_rule
nearest_refused hz n e = elim (tested (is_pitch hz)) [
  | passed p ↦ let f : ◌≡◌ {A = Outcome (ℤ × Float)} (refused n) (value (nearest_note hz, detuning_of hz (nearest_note hz))) = rw p at e in
      absurd (let z : ◌≡◌ {A = ℕ} 0 1 = cc in omega arith)
  | failed p ↦ let f : ◌≡◌ {A = Outcome (ℤ × Float)} (refused n) (refused 1) = rw p at e in cc
]

pub a_pitch_line : (k : ℕ) (hz : Float) (n : ℤ) (d : Float) → value (n, d) ≡ nearest_rule hz
    → pitch_line k hz ≡ value (record { key = k; note = n; detuning = d })
unfolding pitch_line
a_pitch_line k hz n d e = rw (sym e)

pub no_pitch_line : (k : ℕ) (hz : Float) (n : ℕ) → refused n ≡ nearest_rule hz → pitch_line k hz ≡ refused n
unfolding pitch_line
no_pitch_line k hz n e = rw (sym e)
