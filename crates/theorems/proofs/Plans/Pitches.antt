-- A plan of pitches: its detunings are those of nearest notes, from 0.96 to 1.04, and so is each entry. Nothing of them is clamped.
use mathlib.Core.Path.{◌≡◌, refl, sym, subst}
use mathlib.Core.List.{List, [], ◌∷◌, ◌++◌}
use mathlib.Core.Option.{some}
use Prim.Native.Nat.{ℕ}
use lib.Dec.{T, eqb}
use lib.IntN.{ℤ}
use lib.Ieee.{Float, le}
use lib.Ieee.Positive.{positive}
use lib.ListN.{length}
use Rattle.arithmetic.specs.Outcome.{Outcome, value, refused}
use Rattle.arithmetic.specs.Pitch.{is_pitch, detuning_of}
use Rattle.arithmetic.specs.Nearest.{nearest_note, nearest_rule}
use Rattle.theorems.proofs.Numbers.NearestDetuning.{nearest_close}
use Rattle.arithmetic.proofs.Notes.Nearest.{nearest_detuning}
use Rattle.channels.specs.FirstRefusal.{one_by_one}
use Rattle.channels.specs.Lists.{Each, member}
use Rattle.plans.specs.PlanLine.{PlanLine}
use Rattle.plans.specs.PlanLists.{pitch_line, pitch_lines, line_rule, line_by_line, pitch_lists}
use Rattle.plans.specs.PlanLine.{keys}
use Rattle.plans.specs.PlanInternal.{Accepted}
use Rattle.plans.specs.Plan.{Model, planned}
use Rattle.channels.specs.TuningValue.{sent_as}
use Rattle.theorems.specs.Bounds.{close_from, close_to, value_of, StepBound}
use Rattle.channels.specs.declared.tuning_value.TuningKind.{TuningKind}
use Rattle.channels.proofs.Lists.Laws.{tested, passed, failed, Each-all}
use Rattle.arithmetic.proofs.Rules.Outcomes.{no_value}
use Rattle.plans.proofs.Lines.Accepted.{value_of_passed}
use Rattle.plans.proofs.Lines.Check.{pitch_lines_each}
use Rattle.channels.proofs.Lists.Laws.{Each-snoc}
use Rattle.plans.proofs.Model.Entries.{planned_each}
use Rattle.theorems.proofs.Values.{sent_law}

abbrev Close : Float → Type 0
Close d = T (positive d) × T (le close_from d) × T (le d close_to)

-- ---- the lines

lines_each : (P : PlanLine → Type 0) (before : List PlanLine) (rest : List (Outcome PlanLine)) (lines : List PlanLine) → Each P before
    → Each (λ (o : Outcome PlanLine). (l : PlanLine) → o ≡ value l → P l) rest → line_by_line before rest ≡ value lines → Each P lines
unfolding one_by_one line_rule
lines_each P before [] lines b h e = let q : before ≡ lines = cc in subst (Each P) q b
lines_each P before (refused n ∷ rest) lines b h e = no_value lines n (sym e)
lines_each P before (value l ∷ rest) lines b h e = elim (tested (member l.key (keys before))) [
  | passed m ↦ no_value lines 5 (sym (rw m at e))
  | failed m ↦ lines_each P (before ++ (l ∷ [])) rest lines (Each-snoc P before l b (h.0 l refl)) h.1 (rw m at e)
]

pitch_close : (k : ℕ) (hz : Float) (l : PlanLine) → pitch_line k hz ≡ value l → Close l.detuning
unfolding pitch_line nearest_rule
pitch_close k hz l e = elim (tested (is_pitch hz)) [
  | passed p ↦
      let h : T (is_pitch hz) = subst T (sym p) tt in
      let x : PlanLine = record { key = k; note = nearest_note hz; detuning = detuning_of hz (nearest_note hz) } in
      let f : value x ≡ value l = rw p at e in
      let same : x ≡ l = cc in
      let near = nearest_close hz h in
      subst (λ (y : PlanLine). Close y.detuning) same (nearest_detuning hz h, near.0, near.1)
  | failed p ↦ no_value l 1 (sym (rw p at e))
]

pitches_close : (ks : List ℕ) (hzs : List Float) (lines : List PlanLine) → pitch_lists ks hzs ≡ value lines → Each (λ (l : PlanLine). Close l.detuning) lines
unfolding pitch_lists
pitches_close ks hzs lines e =
    lines_each (λ (l : PlanLine). Close l.detuning) [] (pitch_lines ks hzs) lines tt
    (pitch_lines_each (λ (o : Outcome PlanLine). (l : PlanLine) → o ≡ value l → Close l.detuning) (λ k hz b. pitch_close k hz) ks hzs
    (Each-all (λ (k : ℕ). Unit {0}) (λ k. tt) ks))
    (value_of_passed 12 (eqb (length hzs) (length ks)) (line_by_line [] (pitch_lines ks hzs)) lines e)

-- ---- the theorem

-- What is sent of an entry is not clamped, and so meets the bound itself.
pub pitches_law :
    (m : Model) (ks : List ℕ) (hzs : List Float) (lines : List PlanLine) → Accepted lines → pitch_lists ks hzs ≡ value lines
    → (c : ℕ) (g : ℤ) (d : Float) → (planned m (value lines)).0.detunings c g ≡ some d → (kind : TuningKind) → StepBound kind (value_of (sent_as kind d)) d
pitches_law m ks hzs lines ok e c g d f kind =
    let near = planned_each m lines ok Close (pitches_close ks hzs lines e) c g d f in
    sent_law d near.0 near.1 near.2 kind
