-- An f64 above 0 by the fields of its bit pattern, as `pitch::Ratio::measure` reads them.
use mathlib.Core.Path.{◌≡◌, refl, sym, ap, ◌∙◌}
use Prim.Native.Nat.{ℕ, zero, suc, ◌+◌, ◌-◌, ◌*◌, ◌/◌, ◌%◌, ◌^◌, ◌≤◌, ◌<◌}
use native.Mathlib.Nat.{mod-eq_of_lt, zero-lt-suc, add_comm, mul_assoc, mul-pos, mul-one, zero-mul}
use native.Mathlib.Omega.{arith}
use mathlib.Core.Bool.{Bool, true, false, not, cond, true≢false}
use lib.Dec.{T, leb, ltb, eqb, ltb→lt, lt→ltb, nleb→lt, eqb→eq, not_T}
use lib.Pow.{pow_pos, pow-add}
use lib.IntN.{ℤ, pos, negsuc, ◌-ℤ◌}
use lib.Ieee.{Float, nan, inf, fin, binary64, up, down, odd, of_fields, of_bits, to_bits, lt, is_nan, fits}
use lib.Ieee.Bits.{is_true, cond_no, of_bits-to_bits}
use lib.Ieee.Exact.{HasValue, odd_sign}
use lib.Ieee.Fits.{up_pos}
use lib.Ieee.Positive.{above, first_pos, positive_of_value}
use Rattle.arithmetic.specs.Measure.{measure, measure_rule}
use Rattle.arithmetic.specs.Outcome.{value, refused}
use Rattle.arithmetic.proofs.Numbers.Integers.{plus, less, up_is, down_is, add_parts}
use Rattle.arithmetic.proofs.Measure.Scaled.{measure_same}

-- ---- the test v > 0.0

bool_antisymm : (a b : Bool) → (T a → T b) → (T b → T a) → a ≡ b
bool_antisymm true true p q = refl
bool_antisymm true false p q = absurd (p tt)
bool_antisymm false true p q = absurd (q tt)
bool_antisymm false false p q = refl

pub above_zero : (v : Float) → lt (of_bits binary64 0) v ≡ above v
unfolding lt of_bits
above_zero nan = refl
above_zero (inf s) = refl
above_zero (fin true m e) = refl
above_zero (fin false m e) =
    rw (zero-mul (down e), mul-one (m * up e))
    (bool_antisymm (ltb 0 (m * up e)) (ltb 0 m)
    (λ t. lt→ltb 0 m (first_pos m (up e) (ltb→lt 0 (m * up e) t)))
    (λ t. lt→ltb 0 (m * up e) (mul-pos (ltb→lt 0 m t) (up_pos e))))

pub above_no_nan : (v : Float) → above v ≡ true → T (not (is_nan v))
unfolding is_nan
above_no_nan nan h = absurd (true≢false (sym h))
above_no_nan (inf s) h = tt
above_no_nan (fin s m e) h = tt

pub not_above : (v : Float) → above v ≡ false → measure_rule v ≡ refused 2
unfolding measure_rule
not_above nan h = refl
not_above (inf s) h = refl
not_above (fin true m e) h = refl
not_above (fin false m e) h = rw h

-- ---- the sign's bit is clear

odd_negative : (d q k l : ℕ) → above (odd d true q k l) ≡ false
unfolding odd
odd_negative d zero k l = refl
odd_negative d (suc q) k l = refl

fields_negative : (x t : ℕ) → above (of_fields binary64 true x t) ≡ false
unfolding of_fields
fields_negative zero t = odd_negative 53 t 0 1074
fields_negative (suc x) t = pick (eqb (suc x) 2047) (eqb t 0) (odd 53 true (2 ^ 52 + t) x 1074) (odd_negative 53 (2 ^ 52 + t) x 1074)
  where
    pick : (a b : Bool) (w : Float) → above w ≡ false → above (cond a (cond b (inf true) nan) w) ≡ false
    pick true true w h = refl
    pick true false w h = refl
    pick false b w h = h

record FieldsOfBits (b : ℕ) : Type 0 where
  is : of_bits binary64 b ≡ of_fields binary64 false (b / 2 ^ 52) (b % 2 ^ 52)
  low : b < 2 ^ 63

fields_of_bits : (b : ℕ) → above (of_bits binary64 b) ≡ true → FieldsOfBits b
unfolding of_bits
fields_of_bits b h = go (leb (2 ^ 63) b) (nleb→lt (2 ^ 63) b) refl
  where
    go : (t : Bool) → (T (not t) → b < 2 ^ 63) → leb (2 ^ 63) b ≡ t → FieldsOfBits b
    go true l e =
        absurd
        (true≢false
        (sym h ∙ ap (λ (x : Bool). above (of_fields binary64 x (b % 2 ^ 63 / 2 ^ 52) (b % 2 ^ 52))) e ∙ fields_negative (b % 2 ^ 63 / 2 ^ 52) (b % 2 ^ 52)))
    go false l e = record {
      is = ap (λ (x : Bool). of_fields binary64 x (b % 2 ^ 63 / 2 ^ 52) (b % 2 ^ 52)) e
          ∙ ap (λ (x : ℕ). of_fields binary64 false (x / 2 ^ 52) (b % 2 ^ 52)) (mod-eq_of_lt (l tt));
      low = l tt;
    }

-- ---- the measure of a significand q, k places above the smallest value

value_side : (m q k : ℕ) (e : ℤ) → m * up e * 2 ^ 1074 ≡ q * 2 ^ k * down e → m * 2 ^ (plus e + 1074) ≡ q * 2 ^ (k + less e)
value_side m q k e h =
    ap (λ (x : ℕ). m * x) (pow-add 2 (plus e) 1074)
    ∙ sym (mul_assoc m (2 ^ plus e) (2 ^ 1074))
    ∙ (rw (up_is e, down_is e) at h)
    ∙ mul_assoc q (2 ^ k) (2 ^ less e)
    ∙ ap (λ (x : ℕ). q * x) (sym (pow-add 2 k (less e)))

measure_rule_of_value : (x : Float) (q k : ℕ) → 0 < q → HasValue x false (q * 2 ^ k) (2 ^ 1074)
    → measure_rule x ≡ value (measure (fin false q (pos k -ℤ pos 1074)))
unfolding measure_rule
measure_rule_of_value nan q k p h = absurd h
measure_rule_of_value (inf s) q k p h = absurd h
measure_rule_of_value (fin true m e) q k p h = absurd (true≢false h.0)
measure_rule_of_value (fin false m e) q k p h =
    let P = positive_of_value (fin false m e) (q * 2 ^ k) (2 ^ 1074) h (mul-pos p (pow_pos k)) in
    rw (is_true (ltb 0 m) P)
    (ap value
    (measure_same m q (plus e + 1074) (k + less e) e (pos k -ℤ pos 1074) false (ltb→lt 0 m P) p (value_side m q k e h.1)
    (omega (arith, add_parts (pos k) (negsuc 1073)))))

-- ---- the three kinds of exponent's field x, of a value above 0

-- v is `of_fields` of x and the digits t
module _ (v : Float) (over : above v ≡ true) (t : ℕ) where
  not_zero : (d t : ℕ) → above (odd d false t 0 1074) ≡ true → 0 < t
  unfolding odd
  not_zero d zero h = absurd (true≢false (sym h))
  not_zero d (suc t) h = zero-lt-suc t

  subnormal_at : v ≡ of_fields binary64 false 0 t → (0 < t) × (measure_rule v ≡ value (measure (fin false t (pos 0 -ℤ pos 1074))))
  unfolding of_fields
  subnormal_at e =
      let p = not_zero 53 t (ap above (sym e) ∙ over) in
      (p, ap measure_rule e ∙ measure_rule_of_value (odd 53 false t 0 1074) t 0 p (odd_sign 53 false t 0 1074))

  normal_at : (x : ℕ) → v ≡ of_fields binary64 false x t → (x ≡ 0 → ⊥) → x < 2047
      → measure_rule v ≡ value (measure (fin false (t + 2 ^ 52) (pos (x - 1) -ℤ pos 1074)))
  unfolding of_fields
  normal_at zero e n l = absurd (n refl)
  normal_at (suc x) e n l =
      let w = odd 53 false (2 ^ 52 + t) x 1074 in
      let i : suc x - 1 ≡ x = omega arith in
      let p : 0 < 2 ^ 52 + t = omega arith in
      rw (i, add_comm t (2 ^ 52))
      (ap measure_rule
      (e ∙ cond_no (eqb (suc x) 2047) (cond (eqb t 0) (inf false) nan) w (not_T (eqb (suc x) 2047) (λ q. lt_not_eq (suc x) l (eqb→eq (suc x) 2047 q))))
      ∙ measure_rule_of_value w (2 ^ 52 + t) x p (odd_sign 53 false (2 ^ 52 + t) x 1074))
    where
      lt_not_eq : (x : ℕ) → x < 2047 → x ≡ 2047 → ⊥
      lt_not_eq x h e = omega arith

  infinite_at : v ≡ of_fields binary64 false 2047 t → measure_rule v ≡ refused 2
  unfolding of_fields measure_rule
  infinite_at e = ap measure_rule e ∙ pick (eqb t 0)
    where
      pick : (b : Bool) → measure_rule (cond b (inf false) nan) ≡ refused 2
      pick true = refl
      pick false = refl

-- ---- of an f64, by its bit pattern

module _ (v : Float) (held : T (fits binary64 v)) (over : above v ≡ true) where
  fields : FieldsOfBits (to_bits binary64 v)
  fields = fields_of_bits (to_bits binary64 v) (ap above (of_bits-to_bits binary64 v held) ∙ over)

  fields_are : (x : ℕ) → to_bits binary64 v / 2 ^ 52 ≡ x → v ≡ of_fields binary64 false x (to_bits binary64 v % 2 ^ 52)
  fields_are x e = sym (of_bits-to_bits binary64 v held) ∙ fields.is ∙ ap (λ (y : ℕ). of_fields binary64 false y (to_bits binary64 v % 2 ^ 52)) e

  pub subnormal : to_bits binary64 v / 2 ^ 52 ≡ 0
      → (0 < to_bits binary64 v % 2 ^ 52) × (measure_rule v ≡ value (measure (fin false (to_bits binary64 v % 2 ^ 52) (pos 0 -ℤ pos 1074))))
  subnormal z = subnormal_at v over (to_bits binary64 v % 2 ^ 52) (fields_are 0 z)

  pub normal : (to_bits binary64 v / 2 ^ 52 ≡ 0 → ⊥) → to_bits binary64 v / 2 ^ 52 < 2047
      → measure_rule v ≡ value (measure (fin false (to_bits binary64 v % 2 ^ 52 + 2 ^ 52) (pos (to_bits binary64 v / 2 ^ 52 - 1) -ℤ pos 1074)))
  normal n l = normal_at v over (to_bits binary64 v % 2 ^ 52) (to_bits binary64 v / 2 ^ 52) (fields_are (to_bits binary64 v / 2 ^ 52) refl) n l

  pub infinite : 2047 ≤ to_bits binary64 v / 2 ^ 52 → measure_rule v ≡ refused 2
  infinite l = infinite_at v over (to_bits binary64 v % 2 ^ 52) (fields_are 2047 (omega (arith, fields.low)))
