-- Refusals of plans: which numbers each entry can refuse with, at which line and by which test, and that a refused call leaves the model as it was.
use mathlib.Core.Path.{◌≡◌, refl, sym, ap, ◌∙◌, subst}
use mathlib.Core.Logic.{◌⊎◌, ◌↔◌, inl, inr}
use mathlib.Core.Bool.{Bool, true, false, ◌&&◌}
use mathlib.Core.List.{List, [], ◌∷◌, ◌++◌}
use Prim.Native.Nat.{ℕ}
use native.Mathlib.Omega.{arith}
use lib.Dec.{T, eqb}
use lib.IntN.{ℤ}
use lib.Ieee.{Float}
use lib.ListN.{length}
use Rattle.arithmetic.specs.Outcome.{Outcome, value, refused, refuse◌unless◌then◌}
use Rattle.arithmetic.specs.Note.{is_note}
use Rattle.arithmetic.specs.Nearest.{nearest_rule}
use Rattle.arithmetic.proofs.Rules.Outcomes.{no_value, refused_by, refuses_twice}
use Rattle.channels.specs.Lists.{Each, member}
use Rattle.plans.specs.PlanLine.{PlanLine}
use Rattle.plans.specs.PlanLists.{is_planned, with_key, note_line, note_lines, pitch_line, pitch_lines, line_rule, line_by_line, note_lists, pitch_lists}
use Rattle.plans.specs.PlanLine.{keys}
use Rattle.plans.specs.Plan as M
use Rattle.channels.specs.FirstRefusal.{one_by_one, Offence}
use Rattle.channels.proofs.Lists.FirstRefusal.{refused_offence}
use Rattle.theorems.specs.PlanRefusals.{note_numbers, pitch_numbers}
use Rattle.channels.proofs.Lists.Laws.{tested, passed, failed, Each-all}
use Rattle.plans.proofs.Lines.Check.{nearest_refused, note_lines_each, pitch_lines_each}
use Rattle.plans.proofs.Model.Models.{planned_cases}

-- ---- the first line that is refused decides, by itself or for its key

pub line_offence : (before : List PlanLine) (o : Outcome PlanLine) (n : ℕ) → line_rule before o ≡ refused n
    → (o ≡ refused n) ⊎ ((l : PlanLine) × (o ≡ value l) × (member l.key (keys before) ≡ true) × (n ≡ 5))
unfolding line_rule
line_offence before (refused r) n e = inl e
line_offence before (value l) n e = elim (tested (member l.key (keys before))) [
  | passed m ↦ let k : ◌≡◌ {A = Outcome PlanLine} (refused 5) (refused n) = rw m at e in let q : 5 ≡ n = cc in inr (l, refl, m, sym q)
  | failed m ↦ no_value l n (rw m at e)
]

-- A line of notes refuses with 4 for its note, then with 3 for its detuning.
pub note_line_refuses : (k : ℕ) (z : ℤ) (d : Float) (n : ℕ)
    → (note_line k z d ≡ refused n) ↔ (((is_note z ≡ false) × (n ≡ 4)) ⊎ ((is_note z ≡ true) × ((is_planned d ≡ false) × (n ≡ 3))))
unfolding note_line
note_line_refuses k z d n = let l : PlanLine = record { key = k; note = z; detuning = d } in refuses_twice 4 3 n (is_note z) (is_planned d) l

-- A line of pitches refuses with 1.
pub pitch_line_numbers : (k : ℕ) (hz : Float) (n : ℕ) → pitch_line k hz ≡ refused n → n ≡ 1
unfolding pitch_line
pitch_line_numbers k hz n e = go (nearest_rule hz) refl e
  where
    go : (o : Outcome (ℤ × Float)) → nearest_rule hz ≡ o → with_key k o ≡ refused n → n ≡ 1
    go (value x) p e = no_value _ n e
    go (refused r) p e = let q : r ≡ n = cc in sym q ∙ nearest_refused hz r (sym p)

-- ---- the lists: 12 first, then the lines

lists_offence : (test : Bool) (rows : List (Outcome PlanLine)) (n : ℕ) → (refuse 12 unless test then line_by_line [] rows) ≡ refused n
    → ((test ≡ false) × (n ≡ 12)) ⊎ ((test ≡ true) × Offence line_rule [] rows n)
lists_offence test rows n e = elim (refused_by 12 n test (line_by_line [] rows) e) [
  | inl h ↦ inl h
  | inr h ↦ inr (h.0, refused_offence line_rule [] rows n h.1)
]

pub note_lists_offence : (ks : List ℕ) (ns : List ℤ) (ds : List Float) (n : ℕ) → note_lists ks ns ds ≡ refused n
    → let equal = eqb (length ns) (length ks) && eqb (length ds) (length ks) in
    ((equal ≡ false) × (n ≡ 12)) ⊎ ((equal ≡ true) × Offence line_rule [] (note_lines ks ns ds) n)
unfolding note_lists
note_lists_offence ks ns ds n e = lists_offence (eqb (length ns) (length ks) && eqb (length ds) (length ks)) (note_lines ks ns ds) n e

pub pitch_lists_offence : (ks : List ℕ) (hzs : List Float) (n : ℕ) → pitch_lists ks hzs ≡ refused n
    → ((eqb (length hzs) (length ks) ≡ false) × (n ≡ 12)) ⊎ ((eqb (length hzs) (length ks) ≡ true) × Offence line_rule [] (pitch_lines ks hzs) n)
unfolding pitch_lists
pitch_lists_offence ks hzs n e = lists_offence (eqb (length hzs) (length ks)) (pitch_lines ks hzs) n e

-- ---- which numbers

module _ (allowed : List ℕ) (five : T (member 5 allowed)) where
  abbrev Allowed : Outcome PlanLine → Type 0
  Allowed o = (n : ℕ) → o ≡ refused n → T (member n allowed)

  line_numbers :
      (before : List PlanLine) (rest : List (Outcome PlanLine)) (n : ℕ) → Each Allowed rest → line_by_line before rest ≡ refused n → T (member n allowed)
  unfolding one_by_one line_rule
  line_numbers before [] n h e = no_value before n e
  line_numbers before (refused r ∷ rest) n h e = let q : r ≡ n = cc in h.0 n (ap refused q)
  line_numbers before (value l ∷ rest) n h e = elim (tested (member l.key (keys before))) [
    | passed m ↦
        let k : ◌≡◌ {A = Outcome (List PlanLine)} (refused 5) (refused n) = rw m at e in
        let q : 5 ≡ n = cc in
        subst (λ (j : ℕ). T (member j allowed)) q five
    | failed m ↦ line_numbers (before ++ (l ∷ [])) rest n h.1 (rw m at e)
  ]

  lists_numbers : T (member 12 allowed) → (test : Bool) (rows : List (Outcome PlanLine)) (n : ℕ) → Each Allowed rows
      → (refuse 12 unless test then line_by_line [] rows) ≡ refused n → T (member n allowed)
  lists_numbers twelve test rows n h e = elim (refused_by 12 n test (line_by_line [] rows) e) [
    | inl g ↦ subst (λ (j : ℕ). T (member j allowed)) (sym g.1) twelve
    | inr g ↦ line_numbers [] rows n h g.1
  ]

note_allowed : (k : ℕ) (z : ℤ) (d : Float) → Allowed note_numbers tt (note_line k z d)
note_allowed k z d n e = elim ((note_line_refuses k z d n).0 e) [
  | inl h ↦ subst (λ (j : ℕ). T (member j note_numbers)) (sym h.1) tt
  | inr h ↦ subst (λ (j : ℕ). T (member j note_numbers)) (sym h.1.1) tt
]

pub note_lists_numbers : (ks : List ℕ) (ns : List ℤ) (ds : List Float) (n : ℕ) → note_lists ks ns ds ≡ refused n → T (member n note_numbers)
unfolding note_lists
note_lists_numbers ks ns ds n e =
    lists_numbers note_numbers tt tt (eqb (length ns) (length ks) && eqb (length ds) (length ks)) (note_lines ks ns ds) n
    (note_lines_each (Allowed note_numbers tt) (λ k z d b f. note_allowed k z d) ks ns ds
    (Each-all (λ (k : ℕ). Unit {0}) (λ k. tt) ks) (Each-all (λ (d : Float). Unit {0}) (λ d. tt) ds)) e

pub pitch_lists_numbers : (ks : List ℕ) (hzs : List Float) (n : ℕ) → pitch_lists ks hzs ≡ refused n → T (member n pitch_numbers)
unfolding pitch_lists
pitch_lists_numbers ks hzs n e =
    lists_numbers pitch_numbers tt tt (eqb (length hzs) (length ks)) (pitch_lines ks hzs) n
    (pitch_lines_each (Allowed pitch_numbers tt) (λ k hz b m f. subst (λ (j : ℕ). T (member j pitch_numbers)) (sym (pitch_line_numbers k hz m f)) tt) ks hzs
    (Each-all (λ (k : ℕ). Unit {0}) (λ k. tt) ks)) e

-- A refused call answers the refusal of the lists, and leaves the model as it was.
pub refused_unchanged : (m : M.Model) (o : Outcome (List PlanLine)) (n : ℕ) → (M.planned m o).1 ≡ M.PlanAnswer.refused n
    → (o ≡ refused n) × ((M.planned m o).0 ≡ m)
unfolding M.planned
refused_unchanged m (refused r) n e = let q : r ≡ n = cc in (ap refused q, refl)
refused_unchanged m (value lines) n e =
    absurd (planned_cases m lines (λ r. r.1 ≡ M.PlanAnswer.refused n → ⊥) (λ h e. let z : ◌≡◌ {A = ℕ} 0 1 = cc in omega arith)
    (λ h e. let z : ◌≡◌ {A = ℕ} 0 1 = cc in omega arith) e)
