-- Integers by their two parts, whole numbers of which one is 0: k = plus k - less k. What is linear in integers is linear in their parts, for `omega`.
use mathlib.Core.Path.{◌≡◌, refl, ap}
use Prim.Native.Nat.{ℕ, zero, suc, ◌+◌, ◌*◌, ◌-◌, ◌^◌, ◌≤◌, ◌<◌, zero-le, suc-le-suc}
use native.Mathlib.Nat.{zero-mul, lt_of_le_of_lt, le_of_suc-le-suc}
use native.Mathlib.Omega.{arith}
use mathlib.Core.Bool.{Bool, true, false, not, cond}
use lib.Dec.{T, ltb, ltb→lt, nltb→le, leb→le, le→leb}
use lib.IntN.{ℤ, pos, negsuc, neg_ℤ, sub_ℕ, ◌+ℤ◌, ◌-ℤ◌, ◌*ℤ◌}
use lib.Signed.{mag, ◌≤ℤ◌, le_z_yes}
use lib.Ieee.{up, down}
use mir.Syntax.{Width}
use mir.Val.{SFits, hbits}

abbrev pub plus : ℤ → ℕ
plus (pos n) = n
plus (negsuc n) = 0

abbrev pub less : ℤ → ℕ
less (pos n) = 0
less (negsuc n) = suc n

-- a and b are equal where plus a - less a = plus b - less b
pub eq_by_parts : (a b : ℤ) → plus a + less b ≡ plus b + less a → a ≡ b
eq_by_parts (pos a) (pos b) h = ap pos (let e : a ≡ b = omega arith in e)
eq_by_parts (pos a) (negsuc b) h = let z : ⊥ = omega arith in absurd z
eq_by_parts (negsuc a) (pos b) h = let z : ⊥ = omega arith in absurd z
eq_by_parts (negsuc a) (negsuc b) h = ap negsuc (let e : a ≡ b = omega arith in e)

pub sub_parts : (a b : ℕ) → plus (sub_ℕ a b) + b ≡ less (sub_ℕ a b) + a
sub_parts a b = go (ltb a b) (ltb→lt a b) (nltb→le a b)
  where
    go : (t : Bool) → (T t → a < b) → (T (not t) → b ≤ a)
        → plus (cond t (negsuc (b - suc a)) (pos (a - b))) + b ≡ less (cond t (negsuc (b - suc a)) (pos (a - b))) + a
    go true h k = let l : a < b = h tt in omega arith
    go false h k = let l : b ≤ a = k tt in omega arith

pub neg_parts : (a : ℤ) → plus (neg_ℤ a) + plus a ≡ less (neg_ℤ a) + less a
neg_parts (pos zero) = refl
neg_parts (pos (suc n)) = omega arith
neg_parts (negsuc n) = omega arith

pub add_parts : (a b : ℤ) → plus (a +ℤ b) + (less a + less b) ≡ less (a +ℤ b) + (plus a + plus b)
add_parts (pos a) (pos b) = omega arith
add_parts (pos a) (negsuc b) = omega (arith, sub_parts a (suc b))
add_parts (negsuc a) (pos b) = omega (arith, sub_parts b (suc a))
add_parts (negsuc a) (negsuc b) = omega arith

pub sub_parts_ℤ : (a b : ℤ) → plus (a -ℤ b) + (less a + plus b) ≡ less (a -ℤ b) + (plus a + less b)
sub_parts_ℤ a b = omega (arith, add_parts a (neg_ℤ b), neg_parts b)

-- an integer that is a difference of two small numbers is small, and fits
pub small_by : (h : ℕ) (z : ℤ) (a b : ℕ) → plus z + b ≡ less z + a → a < h → b < h → mag z < h
small_by h (pos n) a b e k l = omega arith
small_by h (negsuc n) a b e k l = omega arith

pub fits_by : (w : Width) (z : ℤ) (a b : ℕ) → plus z + b ≡ less z + a → a < 2 ^ hbits w → b < 2 ^ hbits w → SFits w z
fits_by w z a b e k l = record { sfits = small_by (2 ^ hbits w) z a b e k l }

-- the parts of what fits are small
pub fits_parts : (w : Width) (z : ℤ) → SFits w z → (plus z < 2 ^ hbits w) × (less z ≤ 2 ^ hbits w)
fits_parts w (pos n) f = (f.sfits, zero-le)
fits_parts w (negsuc n) f = (lt_of_le_of_lt zero-le f.sfits, f.sfits)

-- times a whole number
pub mul_parts : (a : ℤ) (n : ℕ) → plus (a *ℤ pos n) + less a * n ≡ less (a *ℤ pos n) + plus a * n
mul_parts (pos a) n = omega (arith, zero-mul n)
mul_parts (negsuc a) n = omega (arith, neg_parts (pos (suc a * n)), zero-mul n)

-- only one part of an integer is not 0
pub one_sided : (z : ℤ) (a b : ℕ) → plus z ≤ less z + a → less z ≤ plus z + b → (plus z ≤ a) × (less z ≤ b)
one_sided (pos n) a b h k = (let l : n ≤ a = omega arith in l, zero-le)
one_sided (negsuc n) a b h k = (zero-le, let l : suc n ≤ b = omega arith in l)

-- from its parts, an integer lies between two
pub between_parts : (a b : ℕ) (z : ℤ) → plus z ≤ a → less z ≤ suc b → (negsuc b ≤ℤ z) × (z ≤ℤ pos a)
between_parts a b (pos n) h k = (le_z_yes tt, le_z_yes (le→leb n a h))
between_parts a b (negsuc n) h k = (le_z_yes (le→leb n b (le_of_suc-le-suc k)), le_z_yes tt)

pub at_least_parts : (b : ℕ) (z : ℤ) → negsuc b ≤ℤ z → less z ≤ suc b
at_least_parts b (pos n) h = zero-le
at_least_parts b (negsuc n) h = suc-le-suc (leb→le n b h.le)

pub at_most_parts : (a : ℕ) (z : ℤ) → z ≤ℤ pos a → plus z ≤ a
at_most_parts a (pos n) h = leb→le n a h.le
at_most_parts a (negsuc n) h = zero-le

pub up_is : (k : ℤ) → up k ≡ 2 ^ plus k
up_is (pos n) = refl
up_is (negsuc n) = refl

pub down_is : (k : ℤ) → down k ≡ 2 ^ less k
down_is (pos n) = refl
down_is (negsuc n) = refl
