-- Equal detunings stay in the order of the list.
use Rattle.std.specs.Prelude.{filter}
use mathlib.Core.Path.{◌≡◌, ◌∙◌}
use lib.Ieee.Fits.{and_l, and_r}
use mathlib.Core.List.{List, [], ◌∷◌}
use lib.Dec.{T}
use lib.Ieee.{le}
use lib.Ieee.Positive.{positive, le_trans_positive}
use Rattle.channels.specs.Lists.{Each}
use Rattle.plans.specs.PlanLine.{PlanLine, rising}
use Rattle.theorems.specs.PlannedKeys.{same_detuning}
use Rattle.channels.proofs.Lists.Laws.{Each-filter, Each-map, Each-zip, true→T}
use Rattle.channels.specs.Lists.{Pairwise}
use Rattle.channels.proofs.Lists.Laws.{Each-filter_passes}
use Rattle.plans.specs.PlanOrder.{UpTo, Sorted, Positive}
use Rattle.plans.proofs.Lines.Rising.{rising_keep, rising_of_sorted}

same_detuning_up_to : (z x y : PlanLine) → Positive z → Positive x → Positive y → T (same_detuning z x) → T (same_detuning z y) → UpTo x y
same_detuning_up_to z x y p q r h k =
    record {
      first = q;
      second = r;
      ordered =
          le_trans_positive x.detuning z.detuning y.detuning q p r
          (and_r (le z.detuning x.detuning) (le x.detuning z.detuning) h)
          (and_l (le z.detuning y.detuning) (le y.detuning z.detuning) k);
    }

-- Of elements with P each two are in R.
each_two : {A : Type 0} {P : A → Type 0} {R : A → A → Type 0} → ((x y : A) → P x → P y → R x y) → (l : List A) → Each P l → Pairwise R l
each_two f [] h = tt
each_two f (x ∷ l) h = (Each-map (λ y k. f x y h.0 k) l h.1, each_two f l h.1)

same_detuning_sorted : (z : PlanLine) (l : List PlanLine) → Positive z → Each Positive l → Sorted (filter (same_detuning z) l)
same_detuning_sorted z l p h =
    each_two {P = λ y. Positive y × T (same_detuning z y)} (λ x y a b. same_detuning_up_to z x y p a.0 b.0 a.1 b.1) (filter (same_detuning z) l)
    (Each-zip (λ y a b. (a, true→T b)) (filter (same_detuning z) l) (Each-filter Positive (same_detuning z) l h) (Each-filter_passes (same_detuning z) l))

pub rising_stable : (z : PlanLine) (l : List PlanLine) → T (positive z.detuning) → Each (λ (m : PlanLine). T (positive m.detuning)) l
    → filter (same_detuning z) (rising l) ≡ filter (same_detuning z) l
rising_stable z l p h = rising_keep (same_detuning z) l h ∙ rising_of_sorted (filter (same_detuning z) l) (same_detuning_sorted z l p h)
