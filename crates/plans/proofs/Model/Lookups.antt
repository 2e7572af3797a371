-- The records of a plan hold what the walk says: a lookup finds the walk's assignment, and the largest detuning of a group up to a channel is the walk's entry.
use Rattle.std.specs.Prelude.{filter}
use mathlib.Core.Path.{◌≡◌, refl, sym, ap, ◌∙◌, subst}
use mathlib.Core.Bool.{Bool, true, ◌&&◌, cond}
use Rattle.std.proofs.Math.Bool.{and-true}
use mathlib.Core.List.{List, [], ◌∷◌}
use mathlib.Core.Option.{Option, none, some}
use Prim.Native.Nat.{ℕ, ◌<◌, ◌≤◌}
use native.Mathlib.Omega.{arith}
use borrow.Author.Tests.{ltb-true, ltb-false}
use lib.Dec.{T, eqb, eqb→eq, leb, ltb}
use lib.IntN.{ℤ}
use lib.Ieee.{Float, binary64, fits, le}
use lib.Ieee.Fits.{and_l, and_r}
use lib.Ieee.Positive.{positive, le_trans_positive}
use lib.ListN.{length, get_or}
use Rattle.arithmetic.specs.Note.{is_note}
use Rattle.plans.specs.declared.aot.GroupBy.{GroupBy}
use Rattle.channels.specs.Lists.{Each, member, Pairwise}
use Rattle.plans.specs.PlanLine.{PlanLine, group, same, of_group, rising, keys}
use Rattle.plans.specs.PlanLists.{key_count}
use Rattle.plans.specs.Walk.{count, assignment, entry, channel}
use Rattle.plans.specs.Plan.{KeyRecord, no_key, is_in, key_in, larger, counts, highest}
use Rattle.plans.specs.PlanInternal.{Accepted, Assignments}
use Rattle.channels.proofs.Lists.Laws.{Each-zip, tested, passed, failed, true→T, not_false, or_cases, Each-filter, Each-filter_passes, filter_Each, Each_from_at, at_from_Each}
use mathlib.Core.Logic.{inl, inr}
use Rattle.plans.proofs.Walk.Joins.{le_total}
use Rattle.plans.proofs.Lines.Rising.{others_of_key, rising_Each}
use Rattle.plans.specs.PlanOrder.{UpTo}
use Rattle.plans.proofs.Planning.Plan.{below_count}
use Rattle.plans.proofs.Walk.Assignments.{lines_assigned, no_line_unassigned}
use Rattle.plans.proofs.Model.Models.{out_counts}
use Rattle.arithmetic.proofs.Numbers.UniqueFloats.{le_antisym}
use Rattle.plans.proofs.Model.Entries.{group_keys_each, group_keys_sorted}
use Rattle.plans.proofs.Walk.Carried.{entry_is, no_entry, last_is_largest}
use Rattle.plans.specs.Carried.{last_of, group_keys}
use lib.Ieee.Bits.{is_true}
use Rattle.arithmetic.proofs.Numbers.Floats.{le_refl_positive}

-- ---- lists
Each-zip3 : {A : Type 0} {P Q R S : A → Type 0} → ((x : A) → P x → Q x → R x → S x) → (l : List A) → Each P l → Each Q l → Each R l → Each S l
Each-zip3 {R = R} {S = S} f l h k m = Each-zip {P = λ x. R x → S x} (λ x g r. g r) l (Each-zip f l h k) m

pub at_key : (P : PlanLine → Type 0) (k : ℕ) (l : List PlanLine) → Each P l → T (member k (keys l)) → (x : PlanLine) × (x.key ≡ k) × P x
at_key P k [] h m = absurd m
at_key P k (x ∷ l) h m = elim (or_cases (eqb x.key k) (member k (keys l)) m) [
  | inl e ↦ (x, eqb→eq x.key k e, h.0)
  | inr u ↦ at_key P k l h.1 u
]

-- ---- the largest of the records that count
abbrev Has : (Float → Type 0) → Option Float → Type 0
Has P none = Unit {0}
Has P (some d) = P d

abbrev Under : Float → Option Float → Type 0
Under d none = ⊥
Under d (some e) = T (le d e)

-- the larger of two is over both, and over what the second was over
larger_over : (d : Float) (o : Option Float) → T (positive d) → Has (λ (e : Float). T (positive e)) o
    → Under d (larger d o) × ((f : Float) → T (positive f) → Under f o → Under f (larger d o))
larger_over d none p q = (le_refl_positive d p, λ f a u. absurd u)
larger_over d (some e) p q = elim (tested (le d e)) [
  | passed u ↦ rw u (true→T u, λ f a b. b)
  | failed u ↦ rw u (le_refl_positive d p, λ f a b. le_trans_positive f e d a q p b (le_total d e p q u))
]

module _ (by : GroupBy) (c : ℕ) (g : ℤ) where
  highest_has : (P : Float → Type 0) (rs : List KeyRecord) → Each (λ (r : KeyRecord). counts by c g r ≡ true → P r.detuning) rs → Has P (highest by c g rs)
  unfolding highest
  highest_has P [] h = tt
  highest_has P (r ∷ rs) h = elim (tested (counts by c g r)) [
    | passed e ↦ rw e (pick (highest by c g rs) (h.0 e) (highest_has P rs h.1))
    | failed e ↦ rw e (highest_has P rs h.1)
  ]
    where
      pick : (o : Option Float) → P r.detuning → Has P o → Has P (larger r.detuning o)
      pick none p q = p
      pick (some d) p q = elim (tested (le r.detuning d)) [ passed u ↦ rw u q | failed u ↦ rw u p ]

  highest_over : (rs : List KeyRecord) → Each (λ (r : KeyRecord). counts by c g r ≡ true → T (positive r.detuning)) rs
      → Each (λ (r : KeyRecord). counts by c g r ≡ true → Under r.detuning (highest by c g rs)) rs
  unfolding highest
  highest_over [] h = tt
  highest_over (r ∷ rs) h = elim (tested (counts by c g r)) [
    | passed e ↦
        let w = larger_over r.detuning (highest by c g rs) (h.0 e) (highest_has (λ (d : Float). T (positive d)) rs h.1) in
        let k : highest by c g (r ∷ rs) ≡ larger r.detuning (highest by c g rs) = rw e in
        subst AllUnder (sym k) (λ u. w.0, Each-zip (λ x a b u. w.1 x.detuning (a u) (b u)) rs h.1 (highest_over rs h.1))
    | failed e ↦
        let k : highest by c g (r ∷ rs) ≡ highest by c g rs = rw e in
        subst AllUnder (sym k) (λ u. absurd (true→T (sym e ∙ u)), highest_over rs h.1)
  ]
    where
      AllUnder : Option Float → Type 0
      AllUnder o = Each (λ (x : KeyRecord). counts by c g x ≡ true → Under x.detuning o) (r ∷ rs)

-- ---- in a plan
module _ (by : GroupBy) (all : List PlanLine) (ok : Accepted all) (rs : List KeyRecord) (n : ℕ) (s : Assignments by all rs n) (few : n ≤ 16) where
  abbrev rec : ℕ → KeyRecord
  rec k = get_or rs k no_key

  record Fact (l : PlanLine) : Type 0 where
    assigned : assignment by all l.key ≡ some ((rec l.key).channel, (rec l.key).note)
    channel_is : (rec l.key).channel ≡ channel by all l.key
    note_is : (rec l.key).note ≡ l.note
    detuning_is : (rec l.key).detuning ≡ l.detuning
    is_in_lem : is_in (rec l.key) ≡ true
    above : T (positive l.detuning)
    fitting : T (fits binary64 l.detuning)
    byte : l.key < key_count

  abbrev channel_of : Option (ℕ × ℤ) → ℕ
  channel_of none = 0
  channel_of (some x) = x.0

  abbrev Placed : PlanLine → Type 0
  Placed l = (assignment by all l.key ≡ some ((rec l.key).channel, l.note)) × (assignment by all l.key ≡ some (channel by all l.key, l.note))
      × (channel by all l.key < count by all)

  abbrev Written : PlanLine → Type 0
  Written l = ((rec l.key).note ≡ l.note) × ((rec l.key).detuning ≡ l.detuning) × (is_note l.note ≡ true)

  abbrev Sized : PlanLine → Type 0
  Sized l = T (positive l.detuning) × T (fits binary64 l.detuning) × (l.key < key_count)

  fact : (l : PlanLine) → Placed l → Written l → Sized l → Fact l
  unfolding is_in
  fact l a b d =
      let e : (rec l.key).channel ≡ channel by all l.key = ap channel_of (sym a.0 ∙ a.1) in
      record {
        assigned = a.0 ∙ ap (λ (n : ℤ). some ((rec l.key).channel, n)) (sym b.0);
        channel_is = e;
        note_is = b.0;
        detuning_is = b.1;
        is_in_lem = rw b.0 b.2;
        above = d.0;
        fitting = d.1;
        byte = d.2;
      }

  facts : Each Fact all
  facts =
      let below = rising_Each (λ (l : PlanLine). channel by all l.key < count by all) all (below_count by all ok) in
      Each-zip3 fact all
      (Each-zip3 {S = Placed} (λ l a b d. (a, b, d)) all (s.channel_is few) (lines_assigned by all ok) below)
      (Each-zip3 {S = Written} (λ l a b d. (a, b, d)) all s.note_is s.detuning_is ok.notes)
      (Each-zip3 {S = Sized} (λ l a b d. (a, b, d)) all ok.detunings ok.fitting ok.bytes)

  -- a lookup finds the walk's assignment
  pub key_in_is_assignment : (k : ℕ) → key_in rs k ≡ assignment by all k
  unfolding key_in
  key_in_is_assignment k = elim (tested (member k (keys all))) [
    | passed m ↦ let f = at_key Fact k all facts (true→T m) in
        subst (λ (j : ℕ). cond (is_in (rec j)) (some ((rec j).channel, (rec j).note)) none ≡ assignment by all j) f.1 (rw f.2.is_in_lem (sym f.2.assigned))
    | failed m ↦ let o = others_of_key k all m in rw (s.no_other k o) (sym (no_line_unassigned by all ok k o))
  ]

  module _ (c : ℕ) (g : ℤ) where
    abbrev up_to : PlanLine → Bool
    up_to l = leb (channel by all l.key) c

    counts_is : (l : PlanLine) → Fact l → counts by c g (rec l.key) ≡ (up_to l && of_group by g l)
    unfolding counts of_group
    counts_is l f = rw (f.is_in_lem, f.channel_is, f.note_is) (ap (λ (b : Bool). b && same (group by l.note) g) (and-true (leb (channel by all l.key) c)))

    -- what holds of the group_keys lines' detunings holds of those of the records that count
    over_records : (P : Float → Type 0) → Each (λ (l : PlanLine). P l.detuning) (group_keys by all c g)
        → Each (λ (r : KeyRecord). counts by c g r ≡ true → P r.detuning) rs
    over_records P h =
        Each_from_at (λ (r : KeyRecord). counts by c g r ≡ true → P r.detuning) rs no_key at
      where
        inside : Each (λ (l : PlanLine). of_group by g l ≡ true → up_to l ≡ true → P l.detuning) all
        inside =
            rising_Each (λ (l : PlanLine). of_group by g l ≡ true → up_to l ≡ true → P l.detuning) all
            (filter_Each (λ (l : PlanLine). up_to l ≡ true → P l.detuning) (of_group by g) (rising all)
            (filter_Each (λ (l : PlanLine). P l.detuning) up_to (filter (of_group by g) (rising all)) h))

        line : (l : PlanLine) → Fact l → (of_group by g l ≡ true → up_to l ≡ true → P l.detuning) → counts by c g (rec l.key) ≡ true
            → P (rec l.key).detuning
        line l f h e =
            let b = true→T (sym (counts_is l f) ∙ e) in
            rw f.detuning_is (h (is_true (of_group by g l) (and_r (up_to l) (of_group by g l) b)) (is_true (up_to l) (and_l (up_to l) (of_group by g l) b)))

        at : (k : ℕ) → k < length rs → counts by c g (rec k) ≡ true → P (rec k).detuning
        at k b e = elim (tested (member k (keys all))) [
          | passed m ↦
              let f = at_key (λ (l : PlanLine). counts by c g (rec l.key) ≡ true → P (rec l.key).detuning) k all
              (Each-zip (λ l a b. line l a b) all facts inside) (true→T m) in
              subst (λ (j : ℕ). counts by c g (rec j) ≡ true → P (rec j).detuning) f.1 f.2 e
          | failed m ↦ absurd (not_false (out_counts by c g (rec k) (s.no_other k (others_of_key k all m))) (true→T e))
        ]

    -- the group_keys lines: each with its record, which counts, and in order
    record OnGroup (l : PlanLine) : Type 0 where
      fact_of : Fact l
      counted : counts by c g (rec l.key) ≡ true

    on_group : (l : PlanLine) → Fact l → of_group by g l ≡ true → up_to l ≡ true → OnGroup l
    on_group l f a b = record { fact_of = f; counted = counts_is l f ∙ rw (a, b) }

    all_on_group : Each OnGroup (group_keys by all c g)
    all_on_group =
        let k = filter (of_group by g) (rising all) in
        Each-zip3 on_group (filter up_to k) (group_keys_each by all ok Fact facts c g)
        (Each-filter (λ (l : PlanLine). of_group by g l ≡ true) up_to k (Each-filter_passes (of_group by g) (rising all))) (Each-filter_passes up_to k)

    all_positive : Each (λ (l : PlanLine). T (positive l.detuning)) (group_keys by all c g)
    all_positive = group_keys_each by all ok (λ (l : PlanLine). T (positive l.detuning)) ok.detunings c g

    none_counts : group_keys by all c g ≡ [] → highest by c g rs ≡ none
    none_counts e = none_of (highest by c g rs)
        (highest_has by c g (λ (d : Float). ⊥) rs (over_records (λ (d : Float). ⊥) (subst (Each (λ (l : PlanLine). ⊥)) (sym e) tt)))
      where
        none_of : (o : Option Float) → Has (λ (d : Float). ⊥) o → o ≡ none
        none_of none h = refl
        none_of (some d) h = absurd h

    -- a value that is positive, of f64, and no larger than d
    abbrev Within : Float → Float → Type 0
    Within d f = T (positive f) × T (fits binary64 f) × T (le f d)

    largest_counts : (z : PlanLine) → OnGroup z → Each (λ (y : PlanLine). T (le y.detuning z.detuning)) (group_keys by all c g)
        → highest by c g rs ≡ some z.detuning
    largest_counts z h below =
        finish (highest by c g rs)
        (highest_has by c g (Within z.detuning) rs
        (over_records (Within z.detuning)
        (Each-zip {R = λ (l : PlanLine). Within z.detuning l.detuning} (λ l a b. (a.fact_of.above, a.fact_of.fitting, b))
        (group_keys by all c g) all_on_group below)))
        (subst (λ (d : Float). Under d (highest by c g rs)) h.fact_of.detuning_is
        (at_from_Each (λ (r : KeyRecord). counts by c g r ≡ true → Under r.detuning (highest by c g rs)) rs no_key
        (highest_over by c g rs (over_records (λ (d : Float). T (positive d)) all_positive)) z.key (omega (arith, s.long, h.fact_of.byte)) h.counted))
      where
        finish : (o : Option Float) → Has (Within z.detuning) o → Under z.detuning o → o ≡ some z.detuning
        finish none a b = absurd b
        finish (some d) a b = ap (λ (f : Float). some f) (le_antisym binary64 d z.detuning a.0 h.fact_of.above a.1 h.fact_of.fitting a.2 b)

    -- the largest detuning of the records that count is the walk's entry
    pub highest_entry : c < count by all → highest by c g rs ≡ entry by all c g
    highest_entry h = go (group_keys by all c g) refl ∙ sym (entry_is by all ok c g h)
      where
        go : (l : List PlanLine) → group_keys by all c g ≡ l → highest by c g rs ≡ last_of none l
        go [] e = none_counts e
        go (x ∷ l) e =
            let z = last_is_largest OnGroup x l (subst (Each OnGroup) e all_on_group) (subst (Each (λ (y : PlanLine). T (positive y.detuning))) e all_positive)
            (subst (Pairwise UpTo) e (group_keys_sorted by all ok c g)) in
            largest_counts z.0 z.1 (subst (Each (λ (y : PlanLine). T (le y.detuning z.0.detuning))) (sym e) z.4) ∙ sym z.3

    -- the detunings of the model are the walk's entries
    pub detuning_entry : cond (ltb c n) (highest by c g rs) none ≡ entry by all c g
    detuning_entry = elim (tested (ltb c n)) [
      | passed e ↦ rw e (highest_entry (omega (arith, ltb-true c n e, s.count_is)))
      | failed e ↦ rw e (sym (no_entry by all ok c g (omega (arith, ltb-false c n e, s.count_is))))
    ]
