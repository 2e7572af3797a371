-- What a planned model's detuning entries are: each is an f64 that is finite and above zero, so that it can be measured; and in channel groups each channel of
-- the plan has one, and no other channel has a key.
use Rattle.std.specs.Prelude.{filter}
use mathlib.Core.Path.{◌≡◌, refl, sym, ap, ◌∙◌, subst}
use mathlib.Core.Logic.{inl, inr}
use mathlib.Core.Bool.{true}
use mathlib.Core.List.{List, [], ◌∷◌, map}
use mathlib.Core.Option.{Option, none, some}
use Prim.Native.Nat.{ℕ, ◌<◌}
use native.Mathlib.Omega.{arith}
use borrow.Author.Tests.{le-leb}
use lib.Dec.{T, eqb, eqb→eq, leb}
use lib.IntN.{ℤ, pos}
use lib.Ieee.{Float}
use lib.Ieee.Positive.{positive}
use Rattle.arithmetic.specs.Outcome.{value}
use Rattle.plans.specs.declared.aot.GroupBy.{GroupBy}
use Rattle.plans.specs.declared.aot.GroupBy.TheVariants.{Channel}
use Rattle.channels.specs.Lists.{Each, member}
use Rattle.plans.specs.PlanLine.{PlanLine, group, of_group, rising}
use Rattle.plans.specs.PlanLine.{keys}
use Rattle.plans.specs.Walk.{count, assignment, entry}
use Rattle.plans.specs.Plan.{Model, tuned, planned}
use Rattle.plans.specs.PlanInternal.{Accepted}
use Rattle.channels.proofs.Lists.Laws.{tested, passed, failed, true→T, or_cases, Each-map, Each-zip}
use Rattle.plans.proofs.Model.Models.{planned_cases}
use Rattle.plans.specs.Walk.{channel}
use Rattle.plans.proofs.Planning.Plan.{below_count, channel_used}
use Rattle.plans.proofs.Walk.Assignments.{lines_assigned, no_line_unassigned}
use Rattle.plans.proofs.Lines.Rising.{others_of_key, rising_Each}
use Rattle.plans.proofs.Model.Lookups.{at_key}
use Rattle.channels.proofs.Lists.Laws.{filter_Each}
use Rattle.plans.specs.Carried.{last_of, group_keys}
use Rattle.plans.proofs.Walk.Carried.{entry_is}
use Rattle.plans.proofs.Model.Entries.{entry_each}

module _ (kind : GroupBy) (lines : List PlanLine) (ok : Accepted lines) where
  -- Each entry is finite and above zero.
  pub entry_positive : (c : ℕ) (g : ℤ) (d : Float) → entry kind lines c g ≡ some d → T (positive d)
  entry_positive c g d e = entry_each kind lines ok (λ (f : Float). T (positive f)) ok.detunings c g d e

  -- A line's key is on its channel, which is one of the plan's.
  abbrev pub Assigned : PlanLine → Type 0
  Assigned l = (assignment kind lines l.key ≡ some (channel kind lines l.key, l.note)) × (channel kind lines l.key < count kind lines)

  pub assigned : Each Assigned lines
  assigned =
      Each-zip {R = Assigned} (λ l a b. (a, b)) lines (lines_assigned kind lines ok)
      (rising_Each (λ (l : PlanLine). channel kind lines l.key < count kind lines) lines (below_count kind lines ok))

  -- No key is on a channel beyond the count.
  pub assignment_below : (k c : ℕ) (n : ℤ) → assignment kind lines k ≡ some (c, n) → c < count kind lines
  assignment_below k c n e = elim (tested (member k (keys lines))) [
    | passed m ↦
        let f = at_key Assigned k lines assigned (true→T m) in
        let q = ap number (sym f.2.0 ∙ ap (assignment kind lines) f.1 ∙ e) in
        subst (λ (j : ℕ). j < count kind lines) q f.2.1
    | failed m ↦ let q = sym (no_line_unassigned kind lines ok k (others_of_key k lines m)) ∙ e in absurd (let z : ◌≡◌ {A = ℕ} 0 1 = cc in omega arith)
  ]
    where
      number : Option (ℕ × ℤ) → ℕ
      number none = 0
      number (some x) = x.0

-- A number among the images is the image of an element.
image_of : (f : PlanLine → ℕ) (c : ℕ) (l : List PlanLine) → T (member c (map f l)) → (Each (λ (x : PlanLine). f x ≡ c → ⊥) l) → ⊥
image_of f c [] m h = m
image_of f c (x ∷ l) m h = elim (or_cases (eqb (f x) c) (member c (map f l)) m) [
  | inl e ↦ h.0 (eqb→eq (f x) c e)
  | inr u ↦ image_of f c l u h.1
]

-- In channel groups each channel of the plan has an entry.
pub channel_entry : (lines : List PlanLine) → Accepted lines → (c : ℕ) → c < count Channel lines → entry Channel lines c (pos 0) ≡ none → ⊥
channel_entry lines ok c h e = go (group_keys Channel lines c (pos 0)) refl (sym (entry_is Channel lines ok c (pos 0) h) ∙ e)
  where
    own : (l : PlanLine) → of_group Channel (pos 0) l ≡ true
    own l = unfold of_group group in refl

    go : (l : List PlanLine) → group_keys Channel lines c (pos 0) ≡ l → last_of none l ≡ none → ⊥
    go [] q u =
        image_of (λ (l : PlanLine). channel Channel lines l.key) c (rising lines) (channel_used Channel lines ok c h)
        (Each-map (λ l k v. k (own l) (le-leb (channel Channel lines l.key) c (omega (arith, v)))) (rising lines)
        (filter_Each (λ (l : PlanLine). leb (channel Channel lines l.key) c ≡ true → ⊥) (of_group Channel (pos 0)) (rising lines)
        (filter_Each (λ (l : PlanLine). ⊥) (λ (l : PlanLine). leb (channel Channel lines l.key) c) (filter (of_group Channel (pos 0)) (rising lines))
        (subst (Each (λ (l : PlanLine). ⊥)) (sym q) tt))))
    go (x ∷ l) q u = last_some x.detuning l u
      where
        last_some : (d : Float) (l : List PlanLine) → last_of (some d) l ≡ none → ⊥
        last_some d [] u = let z : ◌≡◌ {A = ℕ} 0 1 = cc in omega arith
        last_some d (y ∷ l) u = last_some y.detuning l u

-- After a tuned answer of count n in channel groups every channel below n has an entry, and no key is on any other.
pub tuned_channels : (m : Model) (lines : List PlanLine) → Accepted lines → m.group_by ≡ Channel → (n : ℕ) → (planned m (value lines)).1 ≡ tuned n
    → ((c : ℕ) → c < n → (planned m (value lines)).0.detunings c (pos 0) ≡ none → ⊥)
    × ((k c : ℕ) (z : ℤ) → (planned m (value lines)).0.keys k ≡ some (c, z) → c < n)
tuned_channels m lines ok by n =
    planned_cases m lines
    (λ r. r.1 ≡ tuned n → ((c : ℕ) → c < n → r.0.detunings c (pos 0) ≡ none → ⊥) × ((k c : ℕ) (z : ℤ) → r.0.keys k ≡ some (c, z) → c < n))
    (λ h e.
    let q : count m.group_by lines ≡ n = cc in (
      λ c h u.
          channel_entry lines ok c (subst (λ (k : GroupBy). c < count k lines) by (omega arith)) (subst (λ (k : GroupBy). entry k lines c (pos 0) ≡ none) by u),
      λ k c z u. subst (λ (j : ℕ). c < j) q (assignment_below m.group_by lines ok k c z u),
    ))
    (λ h e. absurd (let z : ◌≡◌ {A = ℕ} 0 1 = cc in omega arith))
