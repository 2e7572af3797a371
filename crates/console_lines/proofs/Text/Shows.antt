-- Laws of the answer lines.
use Prim.Native.Nat.{ℕ, suc, ◌+◌, ◌-◌, ◌*◌, ◌/◌, ◌%◌, ◌≤◌, ◌<◌}
use native.Mathlib.Omega.{arith}
use mathlib.Core.Path.{◌≡◌, refl, ◌∙◌, ap}
use mathlib.Core.List.{List, [], ◌∷◌, ◌++◌, append_assoc}
use lib.ListN.{length, take, drop, get_or, set}
use lib.Seq.{take_at, drop_at, drop-drop, length-take-le, take-length}
use lib.Dec.{lit<}
use borrow.Author.Tests.{lt-ltb, le-ltb}
use borrow.Rule.Slice.PartMut.{put_mid}
use Rattle.std.proofs.lemmas.List.{take_more}
use Rattle.arithmetic.specs.Refusal.{number}
use Rattle.arithmetic.specs.declared.refusal.Refusal.{Refusal}
use Rattle.arithmetic.specs.declared.refusal.Refusal.TheVariants.{PitchOutOfRange, NotMeasurable, DetuningOutOfRange, NoteOutOfRange, KeyTwice, ChannelOver15, ChannelTwice}
use Rattle.arithmetic.specs.declared.refusal.Refusal.TheVariants.{DataByteOver127, BendOutOfRange, BufferTooShort, KeyHeld, ListsUnequal, LineMalformed}
use Rattle.console_lines.specs.Show.{bytes_line, refusal_line, further, decimal_of, hex_digit}

-- ---- the line of a refusal

module _ (n : ℕ) where
  pub refusal_line_below_10 : n < 10 → refusal_line n ≡ 82 ∷ (48 + n) ∷ 10 ∷ []
  unfolding refusal_line decimal_of
  refusal_line_below_10 h = rw (lt-ltb n 10 h)

  pub refusal_line_below_100 : 10 ≤ n → n < 100 → refusal_line n ≡ 82 ∷ (48 + n / 10) ∷ (48 + n % 10) ∷ 10 ∷ []
  unfolding refusal_line decimal_of
  refusal_line_below_100 l h = rw (le-ltb n 10 l, lt-ltb n 100 h)

pub number_below_100 : (r : Refusal) → number r < 100
number_below_100 PitchOutOfRange = lit< tt
number_below_100 NotMeasurable = lit< tt
number_below_100 DetuningOutOfRange = lit< tt
number_below_100 NoteOutOfRange = lit< tt
number_below_100 KeyTwice = lit< tt
number_below_100 ChannelOver15 = lit< tt
number_below_100 ChannelTwice = lit< tt
number_below_100 DataByteOver127 = lit< tt
number_below_100 BendOutOfRange = lit< tt
number_below_100 BufferTooShort = lit< tt
number_below_100 KeyHeld = lit< tt
number_below_100 ListsUnequal = lit< tt
number_below_100 LineMalformed = lit< tt

-- ---- the line of bytes

pub bytes_line_nil : (bs : List ℕ) → length bs ≡ 0 → bytes_line bs ≡ 45 ∷ 10 ∷ []
unfolding bytes_line
bytes_line_nil [] h = refl
bytes_line_nil (b ∷ bs) h = absurd (omega arith)

-- bytes as they are shown, each with a space behind it
abbrev pub spaced : List ℕ → List ℕ
spaced [] = []
spaced (b ∷ bs) = hex_digit (b / 16) ∷ hex_digit (b % 16) ∷ 32 ∷ spaced bs

pub length-spaced : (bs : List ℕ) → length (spaced bs) ≡ 3 * length bs
length-spaced [] = refl
length-spaced (b ∷ bs) = omega (arith, length-spaced bs)

spaced-append : (bs cs : List ℕ) → spaced (bs ++ cs) ≡ spaced bs ++ spaced cs
spaced-append [] cs = refl
spaced-append (b ∷ bs) cs = ap (λ (l : List ℕ). hex_digit (b / 16) ∷ hex_digit (b % 16) ∷ 32 ∷ l) (spaced-append bs cs)

-- the first i bytes stand so in a buffer that was `old`
pub record Spaced (bs old : List ℕ) (i end : ℕ) (out : List ℕ) : Type 0 where
  pub end_is : end ≡ 3 * i
  pub out_is : out ≡ spaced (take i bs) ++ drop end old

-- one byte more, in the k places behind them
pub spaced_more : {bs old out : List ℕ} {i end : ℕ} (k : ℕ) → Spaced bs old i end out → i < length bs → k ≡ 3
    → Spaced bs old (i + 1) (end + 3) (put_mid end k out (spaced (get_or bs i 0 ∷ [])))
spaced_more {bs} {old} {out} {i} {end} k r h three =
    let front = spaced (take i bs) in
    let more = spaced (get_or bs i 0 ∷ []) in
    let size : length front ≡ end = length-spaced (take i bs) ∙ omega (arith, length-take-le i bs (omega arith)) in
    let before : take end out ≡ front = ap (take end) r.out_is ∙ take_at front (drop end old) end size in
    let behind : drop k (drop end out) ≡ drop (end + 3) old = rw (r.out_is, drop_at front (drop end old) end size, drop-drop k end old, three) in
    let all : spaced (take (i + 1) bs) ≡ front ++ more = ap spaced (take_more bs i 0 h) ∙ spaced-append (take i bs) (get_or bs i 0 ∷ []) in
    record { end_is = omega arith; out_is = rw (before, behind, all, append_assoc front more (drop (end + 3) old)) }

-- the feed in the place of the last space
pub spaced_end : (bs rest : List ℕ) → 0 < length bs → set (spaced bs ++ rest) (3 * length bs - 1) 10 ≡ bytes_line bs ++ rest
unfolding bytes_line further
spaced_end [] rest h = absurd (omega arith)
spaced_end (b ∷ []) rest h = refl
spaced_end (b ∷ c ∷ bs) rest h =
    let e : 3 * length (b ∷ c ∷ bs) - 1 ≡ suc (suc (suc (3 * length (c ∷ bs) - 1))) = omega arith in
    ap (λ (i : ℕ). set (spaced (b ∷ c ∷ bs) ++ rest) i 10) e
    ∙ ap (λ (l : List ℕ). hex_digit (b / 16) ∷ hex_digit (b % 16) ∷ 32 ∷ l) (spaced_end (c ∷ bs) rest (omega arith))

-- how long it is
further_length : (bs : List ℕ) → length (further bs) ≡ 3 * length bs + 1
unfolding further
further_length [] = refl
further_length (b ∷ bs) = omega (arith, further_length bs)

pub length_bytes_line : (bs : List ℕ) → 0 < length bs → length (bytes_line bs) ≡ 3 * length bs
unfolding bytes_line
length_bytes_line [] h = absurd (omega arith)
length_bytes_line (b ∷ bs) h = omega (arith, further_length bs)

-- all bytes stand so, and then the feed: the line is written
pub spaced_all : {bs old out : List ℕ} {i end : ℕ} → Spaced bs old i end out → i ≡ length bs → 0 < length bs
    → (set out (end - 1) 10 ≡ bytes_line bs ++ drop (length (bytes_line bs)) old) × (end ≡ length (bytes_line bs))
spaced_all {bs} {old} {out} {i} {end} r all some =
    let l : end ≡ length (bytes_line bs) = omega (arith, length_bytes_line bs some) in
    let e : end - 1 ≡ 3 * length bs - 1 = omega arith in
    let o : out ≡ spaced bs ++ drop end old = r.out_is ∙ ap (λ (k : ℕ). spaced (take k bs) ++ drop end old) all ∙ rw take-length in
    (ap (λ (m : List ℕ). set m (end - 1) 10) o ∙ ap (λ (k : ℕ). set (spaced bs ++ drop end old) k 10) e ∙ spaced_end bs (drop end old) some ∙ rw l, l)
