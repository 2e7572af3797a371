-- Keys' records: the note and the channel that are read from a record, and that a place is read back from its own record.
use Prim.Native.Nat.{ℕ, ◌+◌, ◌*◌, ◌/◌, ◌%◌, ◌<◌, ◌≤◌}
use mathlib.Core.Path.{◌≡◌, refl, sym, ap, ◌∙◌}
use mathlib.Core.Bool.{Bool, true, false, cond}
use mathlib.Core.Option.{some, none}
use native.Mathlib.Omega.{arith}
use native.Mathlib.Nat.{mod-eq_of_lt, mod-lt}
use lib.IntN.{ℤ, pos, nat_abs, ◌+ℤ◌, ◌-ℤ◌}
use lib.Signed.{◌≤ℤ◌}
use mir.Syntax.{w32}
use mir.Val.{SFits, to_z, of_z}
use Rattle.std.specs.Prelude.{Result, Ok, Err, Some, None}
use Rattle.std.specs.Result.{result_ok}
use Rattle.std.proofs.lemmas.Int.{ints}
use Rattle.std.proofs.lemmas.Option.{none-some, same_Some}
use Rattle.arithmetic.specs.Outcome.{value, refused}
use Rattle.arithmetic.specs.Answers.{outcome_by}
use Rattle.arithmetic.specs.Refusal.{note_out_of_range}
use Rattle.arithmetic.specs.declared.refusal.Refusal.{Refusal}
use Rattle.arithmetic.specs.declared.note.Note.{Note}
use Rattle.arithmetic.specs.Note.{is_note, note_rule}
use Rattle.channels.specs.Places.{Place, is_held, note_of, channel_of, place_of, record_of}
use Rattle.arithmetic.proofs.Rules.Outcomes.{passed_of_value, refuses_once}

-- ---- a place from a record

pub note_read : (n : ℕ) → to_z w32 (of_z w32 (note_of n)) ≡ note_of n
unfolding note_of
note_read n = omega (arith, ints)

pub place_found : (n : ℕ) → is_note (note_of n) ≡ true → some (record { channel = channel_of (n / 1024); note = note_of n }) ≡ place_of n
unfolding place_of
place_found n e = rw e

pub place_none : (n : ℕ) → is_note (note_of n) ≡ false → none ≡ place_of n
unfolding place_of
place_none n e = rw e

pub place_held : (n : ℕ) → is_note (note_of n) ≡ is_held (place_of n)
unfolding place_of is_held
place_held n = go (is_note (note_of n))
  where
    go : (b : Bool) → b ≡ is_held (cond b (some (record { channel = channel_of (n / 1024); note = note_of n })) none)
    go true = refl
    go false = refl

-- where a key is found, of its record
pub place_parts : (n : ℕ) (p : Place) → place_of n ≡ some p → (channel_of (n / 1024) ≡ p.channel) × (note_of n ≡ p.note) × (is_note p.note ≡ true)
unfolding place_of
place_parts n p = go (is_note (note_of n)) refl
  where
    go : (b : Bool) → is_note (note_of n) ≡ b → cond b (some (record { channel = channel_of (n / 1024); note = note_of n })) none ≡ some p
        → (channel_of (n / 1024) ≡ p.channel) × (note_of n ≡ p.note) × (is_note p.note ≡ true)
    go true e h =
        let same : ◌≡◌ {A = Place} (record { channel = channel_of (n / 1024); note = note_of n }) p = cc in
        (ap (λ (q : Place). q.channel) same, ap (λ (q : Place). q.note) same, ap (λ (q : Place). is_note q.note) (sym same) ∙ e)
    go false e h = absurd (cc)

-- a found key has a channel and a note
pub place_sound : (n : ℕ) (p : Place) → place_of n ≡ some p → (p.channel < 16) × (is_note p.note ≡ true)
place_sound n p e = let q = place_parts n p e in (omega (arith, q.0, mod-lt (n / 1024) {m = 16} (omega arith)), q.2)

-- ---- what the conversion of a number into a note says of the number

module _ (z : ℤ) where
  pub no_note : {n : ℕ} → refused n ≡ note_rule z → is_note z ≡ false
  unfolding note_rule
  no_note {n} e = ((refuses_once note_out_of_range n (is_note z) z).0 (sym e)).0

  pub the_note : {y : ℤ} → value y ≡ note_rule z → y ≡ z
  unfolding note_rule
  the_note e = (passed_of_value note_out_of_range (is_note z) z e).1

  -- and as an `Option`
  pub no_note_tried : (r : Result Note Refusal) → outcome_by (λ (n : Note). n.number) r ≡ note_rule z → None ≡ result_ok r → is_note z ≡ false
  no_note_tried (Ok n) e h = absurd (none-some n h)
  no_note_tried (Err d) e h = no_note e

  pub note_tried : (n : Note) (r : Result Note Refusal) → outcome_by (λ (m : Note). m.number) r ≡ note_rule z → Some n ≡ result_ok r → n.number ≡ z
  note_tried n (Err d) e h = absurd (none-some n (sym h))
  note_tried n (Ok m) e h = ap (λ (k : Note). k.number) (same_Some n m h) ∙ the_note e

-- ---- a record from a note

module _ (z : ℤ) (h : is_note z ≡ true) where
  raised_bounds : (pos 1 ≤ℤ (z +ℤ pos 301)) × (z ≤ℤ pos 500)
  raised_bounds = (grind (arith, ints), grind (arith, ints))

  pub raised_fits : SFits w32 (z +ℤ pos 301)
  raised_fits = let b = raised_bounds in omega (arith, ints)

  -- the place is read back from the record
  pub place_record : (c : ℕ) → place_of (record_of z c) ≡ some (record { channel = channel_of c; note = z })
  unfolding place_of record_of note_of
  place_record c =
      let b = raised_bounds in
      let n = nat_abs (z +ℤ pos 301) in
      let k = c % 16 in
      let is : z +ℤ pos 301 ≡ pos n = grind (arith, ints) in
      let few : k < 16 = mod-lt c {m = 16} (omega arith) in
      let most : n ≤ 801 = omega (arith, ints) in
      let note : pos ((n + 1024 * k) % 1024) -ℤ pos 301 ≡ z = omega (arith, ints) in
      let channel : (n + 1024 * k) / 1024 % 16 ≡ k = omega arith in
      rw (h, note, h, channel)

  pub place_record_low : (c : ℕ) → c < 16 → place_of (record_of z c) ≡ some (record { channel = c; note = z })
  place_record_low c few = place_record c ∙ ap (λ (k : ℕ). some (record { channel = k; note = z })) (mod-eq_of_lt few)
