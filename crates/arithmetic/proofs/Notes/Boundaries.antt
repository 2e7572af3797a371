-- The boundaries between notes within an octave. The digits of a number grow with it, so the nearest note changes at twelve numbers only; that a table has
-- them is computed at each entry and just below it, where this law is cited.
use mathlib.Core.Path.{◌≡◌, refl, ap, ◌∙◌}
use mathlib.Core.Bool.{Bool, true, false, cond}
use mathlib.Core.List.{List}
use Prim.Native.Nat.{ℕ, zero, suc, ◌+◌, ◌-◌, ◌*◌, ◌/◌, ◌%◌, ◌^◌, ◌≤◌, ◌<◌, min}
use native.Mathlib.Nat.{mul-le-mul}
use native.Mathlib.Decide.{dec_le}
use native.Mathlib.Omega.{arith}
use borrow.Author.Tests.{leb-true, leb-false, le-leb, lt-leb}
use lib.Dec.{T, leb, leb→le}
use lib.Ieee.Fits.{and_l, and_r}
use lib.IntN.{pos, negsuc, ◌+ℤ◌, ◌-ℤ◌, ◌*ℤ◌}
use lib.ListN.{get_or, take, length}
use Rattle.std.proofs.Common.{add-one}
use Rattle.std.specs.List.{sum_by}
use Rattle.std.proofs.lemmas.List.{take_all}
use Rattle.std.proofs.lemmas.List.Sums.{sum_by_more}
use Rattle.arithmetic.specs.Measure.{square, digit, next, digits}
use Rattle.arithmetic.specs.Nearest.{semitones}
use Rattle.arithmetic.specs.Internal.{within, boundary, come_to}
use Rattle.arithmetic.proofs.Numbers.Integers.{eq_by_parts, add_parts, mul_parts}
use Rattle.arithmetic.proofs.Measure.Law.{square_high, digits_lt}
use Rattle.arithmetic.proofs.Numbers.Quotients.{division_unique}
use Rattle.arithmetic.proofs.Numbers.Tables.{all_below, at_from_all_below}

-- ---- the digits grow with the number

square_mono : (x y : ℕ) → x ≤ y → square x ≤ square y
unfolding square
square_mono x y h = let m : x * x ≤ y * y = mul-le-mul h h in omega arith

square_small : (y : ℕ) → y < 2 ^ 32 → square y < 2 ^ 33
unfolding square
square_small y h = omega (arith, square_high y h)

pub digits_mono : (n x y : ℕ) → x ≤ y → y < 2 ^ 32 → digits n x ≤ digits n y
unfolding digits digit next
digits_mono zero x y h u = omega arith
digits_mono (suc n) x y h u = go (λ a b. digits_mono n a b) (leb (2 ^ 32) (square x)) refl (leb (2 ^ 32) (square y)) refl
  where
    go : ((a b : ℕ) → a ≤ b → b < 2 ^ 32 → digits n a ≤ digits n b) → (a : Bool) → leb (2 ^ 32) (square x) ≡ a → (b : Bool) → leb (2 ^ 32) (square y) ≡ b
        → cond a 1 0 * 2 ^ n + digits n (cond a (square x / 2) (square x)) ≤ cond b 1 0 * 2 ^ n + digits n (cond b (square y / 2) (square y))
    go rest true e true f =
        let m = square_mono x y h in
        let s = square_small y u in
        omega (arith, rest (square x / 2) (square y / 2) (omega arith) (omega arith))
    go rest true e false f = absurd (omega (arith, square_mono x y h, leb-true (2 ^ 32) (square x) e, leb-false (2 ^ 32) (square y) f))
    go rest false e true f = omega (arith, digits_lt n (square x))
    go rest false e false f = omega (arith, rest (square x) (square y) (square_mono x y h) (leb-false (2 ^ 32) (square y) f))

pub within_mono : (x y : ℕ) → x ≤ y → y < 2 ^ 32 → within x ≤ within y
unfolding within
within_mono x y h u = let d = digits_mono 24 x y h u in omega arith

pub within_small : (y : ℕ) → within y ≤ 12
unfolding within
within_small y = omega (arith, digits_lt 24 y)

-- ---- a table of twelve boundaries: at entry i more than i of them are passed, below it at most i

module _ (ts : List ℕ) (ok : T (all_below (boundary ts) 12)) (y : ℕ) (u : y < 2 ^ 32) (i : ℕ) (h : i < 12) where
  abbrev t : ℕ
  t = get_or ts i 0

  boundary_at : T (boundary ts i)
  boundary_at = at_from_all_below (boundary ts) 12 i ok h

  entry_le : t ≤ 2 ^ 32
  entry_le = leb→le t (2 ^ 32) (and_r (leb (within (t - 1)) i) (leb t (2 ^ 32)) (and_r (leb (suc i) (within t)) _ boundary_at))

  passed : t ≤ y → suc i ≤ within y
  passed l = omega (arith, leb→le (suc i) (within t) (and_l (leb (suc i) (within t)) _ boundary_at), within_mono t y l u)

  not_passed : y < t → within y ≤ i
  not_passed l =
      let rest = and_r (leb (suc i) (within t)) _ boundary_at in
      omega (
        arith,
        entry_le,
        leb→le (within (t - 1)) i (and_l (leb (within (t - 1)) i) (leb t (2 ^ 32)) rest),
        within_mono y (t - 1) (omega arith) (omega (arith, entry_le)),
      )

  -- those before entry i and the entry itself
  come_to_next : min i (within y) + come_to y t ≡ min (suc i) (within y)
  come_to_next = go (dec_le t y)
    where
      go : Dec (t ≤ y) → min i (within y) + come_to y t ≡ min (suc i) (within y)
      go (yes l) = rw (le-leb t y l) (omega (arith, passed l))
      go (no n) = let l : y < t = omega arith in rw (lt-leb t y l) (omega (arith, not_passed l))

  -- the same by the quotient that says, without a test, whether entry i is passed: it and what it is made of fit their types
  pub counted : (t ≤ 2 ^ 33) × ((y + (2 ^ 33 - t)) / 2 ^ 33 ≤ 1) × (min i (within y) + (y + (2 ^ 33 - t)) / 2 ^ 33 ≡ min (i + 1) (within y))
  counted = go (dec_le t y)
    where
      go : Dec (t ≤ y) → (t ≤ 2 ^ 33) × ((y + (2 ^ 33 - t)) / 2 ^ 33 ≤ 1) × (min i (within y) + (y + (2 ^ 33 - t)) / 2 ^ 33 ≡ min (i + 1) (within y))
      go (yes l) =
          let q : (y + (2 ^ 33 - t)) / 2 ^ 33 ≡ 1 = omega (arith, entry_le) in
          (omega (arith, entry_le), omega arith, rw q (omega (arith, passed l)))
      go (no n) =
          let l : y < t = omega arith in
          let q : (y + (2 ^ 33 - t)) / 2 ^ 33 ≡ 0 = omega (arith, entry_le) in
          (omega (arith, entry_le), omega arith, rw q (omega (arith, not_passed l)))

-- so as many are passed as semitones lie within the octave
module _ (ts : List ℕ) (twelve : length ts ≡ 12) (ok : T (all_below (boundary ts) 12)) (y : ℕ) (u : y < 2 ^ 32) where
  come_to_sum : (i : ℕ) → i ≤ 12 → sum_by (come_to y) (take i ts) ≡ min i (within y)
  come_to_sum zero h = omega arith
  come_to_sum (suc i) h =
      (rw add-one at (sum_by_more (come_to y) ts i 0 (omega arith)))
      ∙ ap (λ (n : ℕ). n + come_to y (get_or ts i 0)) (come_to_sum i (omega arith))
      ∙ come_to_next ts ok y u i (omega arith)

  pub all_counted : sum_by (come_to y) ts ≡ within y
  all_counted = let l : length ts ≤ 12 = omega arith in (rw take_all at (come_to_sum 12 (omega arith))) ∙ omega (arith, within_small y)

-- ---- octaves and what is within one

pub semitones_split : (o y : ℕ) → semitones (pos (o * 2 ^ 24 + digits 24 y) -ℤ pos (1074 * 2 ^ 24)) ≡ (pos o -ℤ pos 1074) *ℤ pos 12 +ℤ pos (within y)
unfolding semitones within
semitones_split o y =
    let D = digits 24 y in
    let w = (D * 12 + 8388318) / 2 ^ 24 in
    let r = (D * 12 + 8388318) % 2 ^ 24 in
    let a = pos (o * 2 ^ 24 + D) -ℤ pos (1074 * 2 ^ 24) in
    let j = pos o -ℤ pos 1074 in
    let q = j *ℤ pos 12 +ℤ pos w in
    (division_unique (a *ℤ pos 12 +ℤ pos 8388608 -ℤ pos 290) q (2 ^ 24) r (omega arith)
    (eq_by_parts (q *ℤ pos (2 ^ 24) +ℤ pos r) (a *ℤ pos 12 +ℤ pos 8388608 -ℤ pos 290)
    (omega (
      arith,
      add_parts (pos (o * 2 ^ 24 + D)) (negsuc 18018729983),
      mul_parts a 12,
      add_parts (a *ℤ pos 12) (pos 8388608),
      add_parts (a *ℤ pos 12 +ℤ pos 8388608) (negsuc 289),
      add_parts (pos o) (negsuc 1073),
      mul_parts j 12,
      add_parts (j *ℤ pos 12) (pos w),
      mul_parts q (2 ^ 24),
      add_parts (q *ℤ pos (2 ^ 24)) (pos r),
    )))
    ).0
