-- Bends in range, and the two bytes of one: its 14 bits from 0, halved.
use mathlib.Core.Path.{◌≡◌, refl, sym, ap, ◌∙◌}
use mathlib.Core.Bool.{Bool, true, false, ◌&&◌}
use Prim.Native.Nat.{ℕ, suc, ◌+◌, ◌*◌, ◌/◌, ◌%◌, ◌≤◌, ◌<◌}
use native.Mathlib.Omega.{arith}
use lib.Dec.{leb, ltb}
use lib.IntN.{ℤ, pos, negsuc, nat_abs, ◌+ℤ◌, ◌-ℤ◌, +ℤ-neg_ℤ_cancel}
use borrow.Author.Tests.{leb-true, le-ltb}
use Rattle.senders.specs.Message.{is_bend}
use Rattle.senders.specs.Midi.{bend_low, bend_high}

-- a bend in range is a number of 14 bits from -8192 on
pub data InRange : ℤ → Type 0 where
  above : (n : ℕ) → n ≤ 8191 → InRange (pos n)
  below : (n : ℕ) → n ≤ 8191 → InRange (negsuc n)

pub in_range : (b : ℤ) → is_bend b ≡ true → InRange b
in_range (pos n) h = above n (leb-true n 8191 h)
in_range (negsuc n) h = below n (leb-true n 8191 (low (leb n 8191) h))
  where
    low : (t : Bool) → t && true ≡ true → t ≡ true
    low true e = refl
    low false e = e

-- the 14 bits of a bend, from 0
abbrev pub raised : ℤ → ℕ
raised b = nat_abs (b +ℤ pos 8192)

pub record Bits (b : ℤ) : Type 0 where
  pub sum : b +ℤ pos 8192 ≡ pos (raised b)
  pub halves : (raised b % 128 ≡ bend_low b) × (raised b / 128 ≡ bend_high b) × (raised b < 16384)

bits_of : {b : ℤ} → InRange b → Bits b
bits_of (above n h) =
    record { sum = refl; halves = (omega arith, omega arith, omega arith) }
bits_of (below n h) =
    let e : ltb 8192 (suc n) ≡ false = le-ltb 8192 (suc n) (omega arith) in
    let f : ltb 64 (suc (n / 128)) ≡ false = le-ltb 64 (suc (n / 128)) (omega arith) in
    record { sum = simp e; halves = (simp e (omega arith), simp (e, f) (omega arith), simp e (omega arith)) }

pub bend_bits : (b : ℤ) → is_bend b ≡ true → Bits b
bend_bits b h = bits_of (in_range b h)

-- The two bytes of a bend are data bytes, and a reader gets the bend back from them.
pub low_small : (b : ℤ) → is_bend b ≡ true → bend_low b < 128
low_small b h = let p = (bend_bits b h).halves in omega arith

pub high_small : (b : ℤ) → is_bend b ≡ true → bend_high b < 128
high_small b h = let p = (bend_bits b h).halves in omega arith

pub bend_back : (b : ℤ) → is_bend b ≡ true → pos (bend_high b * 128 + bend_low b) -ℤ pos 8192 ≡ b
bend_back b h =
    let p = (bend_bits b h).halves in
    let e : bend_high b * 128 + bend_low b ≡ raised b = omega arith in
    ap (λ (k : ℕ). pos k -ℤ pos 8192) e
    ∙ ap (λ (z : ℤ). z -ℤ pos 8192) (sym (bend_bits b h).sum)
    ∙ +ℤ-neg_ℤ_cancel b (pos 8192)
