-- The largest detuning of a group, one record after the other. The rule takes the records from the last on, the code from the first; detunings are numbers,
-- so both find the last of the largest.
use Rattle.std.proofs.Common.{◌≡◌, ℕ, ◌+◌, ◌<◌, Bool, true, false, not, cond, List, [], ◌∷◌, ◌++◌, length, get_or, take, arith, refl, sym, ap, subst, ◌∙◌}
use Rattle.std.proofs.Math.Option.{Option, none, some}
use Rattle.std.specs.Float.{NotNan}
use Rattle.std.proofs.lemmas.Float.{le_trans, lt_of_not-le, lt_of_le_of_lt, lt_irrefl, le_of_lt, T_from_false}
use Rattle.std.proofs.lemmas.List.{take_more}
use lib.Ieee.{Float, nan, le, lt}
use lib.IntN.{ℤ}
use Rattle.channels.specs.Lists.{Each}
use Rattle.channels.proofs.Lists.Laws.{tested, passed, failed, true→T, Each-take}
use Rattle.plans.specs.declared.aot.GroupBy.{GroupBy}
use Rattle.plans.specs.PlanNumbers.{detuning_of}
use Rattle.plans.specs.Plan.{KeyRecord, counts, highest, larger, no_key, key_record, records_in}
use Rattle.plans.specs.PlanInternal.{raised}
use Rattle.plans.proofs.Model.Views.{number_read, numbers_read, record_at, records_count}
use lib.Ieee.Bits.{is_true}

-- the second of two numbers, if the first is not above it
abbrev later : Float → Float → Float
later x y = cond (le x y) y x

lt_is : (x y : Float) → NotNan x → NotNan y → lt y x ≡ not (le x y)
lt_is x y p q = elim (tested (le x y)) [
  | passed e ↦ elim (tested (lt y x)) [
    | passed f ↦ absurd (lt_irrefl x (lt_of_le_of_lt x y x (true→T e) (true→T f)))
    | failed f ↦ rw (e, f) refl
  ]
  | failed e ↦ rw e (is_true (lt y x) (lt_of_not-le x y p q (T_from_false (le x y) e)))
]

later_again : (x y z : Float) → NotNan y → NotNan z → later x (later y z) ≡ later (later x y) z
later_again x y z p q = elim (tested (le y z)) [
  | passed e ↦ elim (tested (le x y)) [
    | passed f ↦ let g : le x z ≡ true = is_true (le x z) (le_trans x y z (true→T f) (true→T e)) in rw (e, f, g, e) refl
    | failed f ↦ rw (e, f) refl
  ]
  | failed e ↦ elim (tested (le x y)) [
    | passed f ↦ rw (e, f, e) refl
    | failed f ↦ elim (tested (le x z)) [
      | passed g ↦
          let h = lt_of_le_of_lt x z y (true→T g) (lt_of_not-le y z p q (T_from_false (le y z) e)) in
          absurd (let k : true ≡ false = sym (is_true (le x y) (le_of_lt x y h)) ∙ f in true→T (sym k))
      | failed g ↦ rw (e, f, g) refl
    ]
  ]
]

-- the largest so far is a number
abbrev Number : Option Float → Type 0
Number none = Unit {0}
Number (some d) = NotNan d

larger_is : (d e : Float) → larger d (some e) ≡ some (later d e)
larger_is d e = elim (tested (le d e)) [
  | passed f ↦ rw f
  | failed f ↦ rw f
]

raised_is : (e d : Float) → NotNan e → NotNan d → raised (some e) d ≡ some (later e d)
raised_is e d p q = rw (lt_is e d p q) (elim (tested (le e d)) [
  | passed f ↦ rw f
  | failed f ↦ rw f
])

later_number : (x y : Float) → NotNan x → NotNan y → NotNan (later x y)
later_number x y p q = elim (tested (le x y)) [
  | passed f ↦ rw f q
  | failed f ↦ rw f p
]

-- one at the front and one at the back
both_ends : (d e : Float) (h : Option Float) → NotNan d → NotNan e → Number h → larger d (raised h e) ≡ raised (larger d h) e
both_ends d e none p q n = larger_is d e ∙ sym (raised_is d e p q)
both_ends d e (some f) p q n =
    ap (larger d) (raised_is f e n q) ∙ larger_is d (later f e) ∙ ap (λ (x : Float). some x) (later_again d f e n q)
    ∙ sym (raised_is (later d f) e (later_number d f p n) q) ∙ ap (λ (h : Option Float). raised h e) (sym (larger_is d f))

module _ (by : GroupBy) (c : ℕ) (g : ℤ) where
  abbrev IsNumber : KeyRecord → Type 0
  IsNumber r = NotNan r.detuning

  highest_number : (rs : List KeyRecord) → Each IsNumber rs → Number (highest by c g rs)
  unfolding highest
  highest_number [] n = tt
  highest_number (r ∷ rs) n = go (counts by c g r) (highest by c g rs) (highest_number rs n.1)
    where
      go : (b : Bool) (h : Option Float) → Number h → Number (cond b (larger r.detuning h) h)
      go true none k = n.0
      go true (some e) k = subst Number (sym (larger_is r.detuning e)) (later_number r.detuning e n.0 k)
      go false h k = k

  -- the largest with one more record
  abbrev pub with_one : Option Float → KeyRecord → Option Float
  with_one h r = cond (counts by c g r) (raised h r.detuning) h

  pub highest_more : (rs : List KeyRecord) (r : KeyRecord) → Each IsNumber rs → IsNumber r → highest by c g (rs ++ (r ∷ [])) ≡ with_one (highest by c g rs) r
  unfolding highest
  highest_more [] r n k = refl
  highest_more (x ∷ rs) r n k =
      ap (λ (h : Option Float). cond (counts by c g x) (larger x.detuning h) h) (highest_more rs r n.1 k)
      ∙ go (counts by c g x) (counts by c g r)
    where
      go : (a b : Bool) → let h = highest by c g rs in let one = cond b (raised h r.detuning) h in let two = cond a (larger x.detuning h) h in
          cond a (larger x.detuning one) one ≡ cond b (raised two r.detuning) two
      go false b = refl
      go true false = refl
      go true true = both_ends x.detuning r.detuning (highest by c g rs) n.0 k (highest_number rs n.1)

-- a model's record after the ones before it, as it is stored, and its detuning
module _ (by : GroupBy) (c : ℕ) (g : ℤ) (records : List ℕ) (ds : List Float) (n raw : ℕ) (d : Float) (same : length records ≡ length ds) (l : n < length ds)
    (own_record : raw ≡ get_or records n 0) (own : d ≡ get_or ds n nan) where
  abbrev rs : List KeyRecord
  rs = records_in records ds

  abbrev r : KeyRecord
  r = key_record raw (detuning_of d)

  one_more : highest by c g (take (n + 1) rs) ≡ with_one by c g (highest by c g (take n rs)) r
  one_more =
      let at_n : get_or rs n no_key ≡ r =
      record_at records ds same n l (detuning_of d) (ap detuning_of own) ∙ ap (λ (k : ℕ). key_record k (detuning_of d)) (sym own_record) in
      let all = numbers_read records ds in
      let long : n < length rs = omega (arith, records_count records ds same, same) in
      ap (λ (l : List KeyRecord). highest by c g l) (take_more rs n no_key long ∙ ap (λ (x : KeyRecord). take n rs ++ (x ∷ [])) at_n)
      ∙ highest_more by c g (take n rs) r (Each-take (IsNumber by c g) rs n all) (number_read d)

  pub largest_counted : counts by c g r ≡ true → raised (highest by c g (take n rs)) (detuning_of d) ≡ highest by c g (take (n + 1) rs)
  largest_counted e = sym (one_more ∙ rw e refl)

  pub largest_left : counts by c g r ≡ false → highest by c g (take n rs) ≡ highest by c g (take (n + 1) rs)
  largest_left e = sym (one_more ∙ rw e refl)
