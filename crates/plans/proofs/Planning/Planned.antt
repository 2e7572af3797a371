-- To plan the lines in order is to plan the list, so what the code plans is what the rule says, and meets demand 3.
use mathlib.Core.Path.{◌≡◌, refl, sym, ap, ◌∙◌, subst}
use mathlib.Core.Bool.{true, false, cond}
use mathlib.Core.List.{List, [], ◌∷◌}
use Prim.Native.Nat.{ℕ, ◌<◌}
use native.Mathlib.Omega.{arith}
use lib.Dec.{T, eqb, leb}
use lib.IntN.{ℤ}
use lib.Ieee.{binary64, fits}
use lib.Ieee.Positive.{positive}
use lib.ListN.{length, get_or}
use Rattle.arithmetic.specs.Outcome.{Outcome, value}
use Rattle.arithmetic.specs.Note.{is_note}
use Rattle.plans.specs.declared.aot.GroupBy.{GroupBy}
use Rattle.channels.specs.Lists.{Each, Distinct, member, Pairwise}
use Rattle.channels.specs.Places.{note_of}
use Rattle.plans.specs.PlanLine.{PlanLine, rising, keys}
use Rattle.plans.specs.PlanLists.{key_count}
use Rattle.plans.specs.Walk.{walk, count, assignment, assignment_from, entry}
use Rattle.std.specs.Prelude.{Result, Ok, Err}
use Rattle.arithmetic.specs.declared.refusal.Refusal.{Refusal}
use Rattle.arithmetic.specs.Refusal.{number}
use Rattle.plans.specs.declared.sorted_keys.SortedKeys.{SortedKeys}
use Rattle.plans.specs.PlanInternal.{Accepted, Checked, Filled, Fine, Long, lines_of}
use Rattle.plans.specs.Plan.{Model, PlanAnswer, tuned, untuned, empty, planned_model, planned, PlanOptimal}
use Rattle.channels.proofs.Lists.Laws.{false→T}
use Rattle.plans.proofs.Lines.Rising.{Each-rising, rising_Each, length_rising, rising_sorted, rising_of_sorted, rising_apart, distinct_apart, not_member_of_others}
use Rattle.plans.specs.PlanOrder.{Other}
use Rattle.channels.proofs.Records.{place_held}
use Rattle.plans.proofs.Model.Models.{same_model}
use Rattle.plans.proofs.Planning.Demand3.{demand_3}

apart_distinct : (l : List PlanLine) → Pairwise Other l → Distinct (keys l)
apart_distinct [] h = tt
apart_distinct (x ∷ l) h = (false→T (not_member_of_others x l h.0), apart_distinct l h.1)

module _ (lines : List PlanLine) (ok : Accepted lines) where
  rising_accepted : Accepted (rising lines)
  rising_accepted = record {
    distinct = apart_distinct (rising lines) (rising_apart lines (distinct_apart lines ok.distinct));
    bytes = Each-rising (λ (l : PlanLine). l.key < key_count) lines ok.bytes;
    notes = Each-rising (λ (l : PlanLine). is_note l.note ≡ true) lines ok.notes;
    detunings = Each-rising (λ (l : PlanLine). T (positive l.detuning)) lines ok.detunings;
    fitting = Each-rising (λ (l : PlanLine). T (fits binary64 l.detuning)) lines ok.fitting;
  }

  rising_twice : rising (rising lines) ≡ rising lines
  rising_twice = rising_of_sorted (rising lines) (rising_sorted lines ok.detunings)

  module _ (by : GroupBy) where
    walk_rising : walk by (rising lines) ≡ walk by lines
    unfolding walk
    walk_rising = rw (rising_twice, length_rising lines)

    count_rising : count by (rising lines) ≡ count by lines
    unfolding count
    count_rising = ap length walk_rising

    assignment_rising : (k : ℕ) → assignment by (rising lines) k ≡ assignment by lines k
    unfolding assignment
    assignment_rising k = ap (assignment_from k 0) walk_rising

    entry_rising : (c : ℕ) (g : ℤ) → entry by (rising lines) c g ≡ entry by lines c g
    unfolding entry
    entry_rising c g = rw walk_rising

absent_key : (k : ℕ) (lines : List PlanLine) → Each (λ (l : PlanLine). eqb l.key k ≡ false) lines → member k (keys lines) ≡ false
absent_key k [] h = refl
absent_key k (x ∷ lines) h = rw h.0 (absent_key k lines h.1)

-- The keys are lines that a pass takes: accepted and in order; no other key has a note.
pub record Ready (s : SortedKeys) : Type 0 where
  pub ok : Accepted (lines_of s)
  pub ordered : rising (lines_of s) ≡ lines_of s
  pub no_other : (k : ℕ) → Each (λ (l : PlanLine). eqb l.key k ≡ false) (lines_of s) → is_note (note_of (get_or s.records k 0)) ≡ false
  pub long : Long s

-- Keys that some lines filled are such.
pub filled_ready : (s : SortedKeys) → Filled s → Ready s
filled_ready s f = let lines = f.0 in let ok = f.1 in let h = f.2 in record {
  ok = rw h.ordered (rising_accepted lines ok);
  ordered = rw h.ordered (rising_twice lines ok);
  no_other = λ k o.
      place_held (get_or s.records k 0) ∙ h.marked k
      ∙ absent_key k lines (rising_Each (λ (l : PlanLine). eqb l.key k ≡ false) lines (subst (Each (λ (l : PlanLine). eqb l.key k ≡ false)) h.ordered o));
  long = h.long;
}

planned_rising : (m : Model) (lines : List PlanLine) → Accepted lines → planned m (value (rising lines)) ≡ planned m (value lines)
unfolding planned
planned_rising m lines ok =
    let k = m.group_by in
    let n = count_rising lines ok k in
    let h = same_model (planned_model m (rising lines)) (planned_model m lines) refl refl refl n (assignment_rising lines ok k) (entry_rising lines ok k) in
    λ i. cond (leb (n i) (length m.channels)) (h i, tuned (n i)) (empty m.channels m.group_by, untuned (n i))

-- ---- the check of the lists, and the pass behind it
pub filled_if : (o : Outcome (List PlanLine)) (s : SortedKeys) → Checked o (Ok s) → Filled s
filled_if (value lines) s c = (lines, c.0, c.1)
filled_if (Outcome.refused k) s c = absurd c

-- lists that are refused
pub planned_refused : (o : Outcome (List PlanLine)) (m : Model) (r : Refusal) → Checked o (Err r) → (m, PlanAnswer.refused (number r)) ≡ planned m o
unfolding planned
planned_refused (value lines) m r c = absurd c
planned_refused (Outcome.refused k) m r c = ap (λ (j : ℕ). (m, PlanAnswer.refused j)) (sym c)

-- and others: the lines in order are planned as the list is
pub planned_lines : (o : Outcome (List PlanLine)) (s : SortedKeys) (m : Model) → Checked o (Ok s)
    → Accepted (lines_of s) × (planned m (value (lines_of s)) ≡ planned m o)
planned_lines (value lines) s m c = (rw c.1.ordered (rising_accepted lines c.0), rw c.1.ordered (planned_rising m lines c.0))
planned_lines (Outcome.refused k) s m c = absurd c

-- what was checked is accepted
pub checked_fine : (o : Outcome (List PlanLine)) (r : Result SortedKeys Refusal) → Checked o r → Fine o
checked_fine (value lines) (Ok s) c = c.0
checked_fine (value lines) (Err e) c = absurd c
checked_fine (Outcome.refused k) r c = tt

-- ---- what the planning of lists comes to meets demand 3
pub plan_optimal : (m : Model) (o : Outcome (List PlanLine)) (r : Model × PlanAnswer) → Fine o → r ≡ planned m o → PlanOptimal m o r
plan_optimal m o r h e = subst (PlanOptimal m o) (sym e) (demand_3 m o (accepted o h))
  where
    accepted : (o : Outcome (List PlanLine)) → Fine o → (lines : List PlanLine) → o ≡ value lines → Accepted lines
    accepted (value lines) h l e = let q : lines ≡ l = cc in subst Accepted q h
    accepted (Outcome.refused k) h l e = absurd (let z : ◌≡◌ {A = ℕ} 0 1 = cc in omega arith)
