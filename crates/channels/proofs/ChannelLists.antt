-- Channels and channel lists: which numbers are channels; which lists are listed and which are refused, by which number; what a stored list has as entries, at
-- most sixteen below 16; and what one more channel does to it.
use mathlib.Core.Path.{◌≡◌, refl, sym, ap, ◌∙◌}
use mathlib.Core.Bool.{Bool, true, false, not, ◌||◌}
use mathlib.Core.Logic.{◌⊎◌, ◌↔◌}
use mathlib.Core.List.{List, [], ◌∷◌, ◌++◌, append-nil, append_assoc, map}
use mathlib.Core.Option.{some, none}
use Prim.Native.Nat.{ℕ, zero, suc, min, ◌+◌, ◌%◌, ◌<◌, ◌≤◌}
use native.Mathlib.Nat.{mod-eq_of_lt}
use native.Mathlib.Numerals.{add-one}
use native.Mathlib.Omega.{arith}
use borrow.Author.Tests.{le-leb, lt-leb, leb-true, leb-false}
use lib.Dec.{leb, eqb}
use lib.ListN.{length, get_or, get_elem?, take, drop, set, length-append, length-map, length-take, drop_of_length-le}
use lib.Seq.{drop-cons}
use Rattle.std.specs.List.{list_any}
use Rattle.std.proofs.lemmas.List.{take_min, take_more_set, map_push}
use Rattle.arithmetic.specs.Outcome.{value, refused}
use Rattle.channels.specs.Lists.{member, Fresh}
use Rattle.channels.specs.Places.{channel_of}
use Rattle.channels.specs.ChannelList.{entry_rule, list_rule, Channels, entries}
use Rattle.channels.specs.declared.list.ChannelList.{ChannelList}
use Rattle.channels.proofs.Lists.Pigeonhole.{pigeonhole}
use Rattle.channels.specs.Refusal.{channel_over15, channel_twice}
use Rattle.channels.specs.Channel.{channel_rule}
use Rattle.channels.specs.FirstRefusal.{one_by_one}
use Rattle.arithmetic.proofs.Rules.Outcomes.{no_value, passed_of_value, refuses_once, refuses_twice}

-- ---- the rule of a number

-- a number with a channel is up to 15, and the channel's
pub channel_of_number : (n c : ℕ) → value c ≡ channel_rule n → (c ≡ n) × (n ≤ 15)
unfolding channel_rule
channel_of_number n c e = let p = passed_of_value channel_over15 (leb n 15) n e in (p.1, leb-true n 15 p.0)

-- one that is refused is over 15, and by 6
pub refused_over : (n k : ℕ) → refused k ≡ channel_rule n → (15 < n) × (k ≡ 6)
unfolding channel_rule
refused_over n k e = let p = (refuses_once channel_over15 k (leb n 15) n).0 (sym e) in (leb-false n 15 p.0, p.1)

-- ---- which lists are listed

-- what is wrong with an entry
pub entry_refuses : (before : List ℕ) (c n : ℕ)
    → (entry_rule before c ≡ refused n)
    ↔ (((leb c 15 ≡ false) × (n ≡ channel_over15)) ⊎ ((leb c 15 ≡ true) × ((not (member c before) ≡ false) × (n ≡ channel_twice))))
unfolding entry_rule
entry_refuses before c n = refuses_twice channel_over15 channel_twice n (leb c 15) (not (member c before)) c

module _ (before : List ℕ) (c : ℕ) (cs : List ℕ) where
  pub entry_over : 15 < c → one_by_one entry_rule before (c ∷ cs) ≡ refused 6
  unfolding one_by_one entry_rule
  entry_over h = rw (lt-leb c 15 h)

  pub entry_twice : c ≤ 15 → member c before ≡ true → one_by_one entry_rule before (c ∷ cs) ≡ refused 7
  unfolding one_by_one entry_rule
  entry_twice h e = rw (le-leb c 15 h, e)

  pub entry_fine : c ≤ 15 → member c before ≡ false → one_by_one entry_rule before (c ∷ cs) ≡ one_by_one entry_rule (before ++ (c ∷ [])) cs
  unfolding one_by_one entry_rule
  entry_fine h e = rw (le-leb c 15 h, e)

  -- one of the three
  entry_cases : {P : Type 0} → (15 < c → P) → (c ≤ 15 → member c before ≡ true → P) → (c ≤ 15 → member c before ≡ false → P) → P
  entry_cases {P} f g h = go (leb c 15) refl (member c before) refl
    where
      go : (a : Bool) → leb c 15 ≡ a → (b : Bool) → member c before ≡ b → P
      go false p b q = f (leb-false c 15 p)
      go true p true q = g (leb-true c 15 p) q
      go true p false q = h (leb-true c 15 p) q

-- A list with a value is listed as it was given, and nothing is wrong with it.
value_channels : (before cs l : List ℕ) → one_by_one entry_rule before cs ≡ value l → (l ≡ before ++ cs) × Channels before cs
unfolding one_by_one
value_channels before [] l e = let same : before ≡ l = cc in (sym same ∙ sym (append-nil before), tt)
value_channels before (c ∷ cs) l e =
    entry_cases before c cs
    (λ h. no_value l 6 (sym e ∙ entry_over before c cs h))
    (λ h m. no_value l 7 (sym e ∙ entry_twice before c cs h m))
    (λ h m. later h m (value_channels (before ++ (c ∷ [])) cs l (sym (entry_fine before c cs h m) ∙ e)))
  where
    later : c ≤ 15 → member c before ≡ false → (l ≡ (before ++ (c ∷ [])) ++ cs) × Channels (before ++ (c ∷ [])) cs
        → (l ≡ before ++ c ∷ cs) × Channels before (c ∷ cs)
    later h m r = (r.0 ∙ append_assoc before (c ∷ []) cs, (h, m, r.1))

pub listed_channels : (cs l : List ℕ) → list_rule cs ≡ value l → (l ≡ cs) × Channels [] cs
unfolding list_rule
listed_channels cs l e = value_channels [] cs l e

-- ---- so a listed list is short: sixteen different numbers below 16

pub channels_fresh : (before cs : List ℕ) → Channels before cs → Fresh before cs
channels_fresh before [] f = tt
channels_fresh before (c ∷ cs) f = (f.1, channels_fresh (before ++ (c ∷ [])) cs f.2)

pub channels_low : (before cs : List ℕ) → Channels before cs → (i : ℕ) → i < length cs → get_or cs i 0 < 16
channels_low before [] f i h = absurd (omega arith)
channels_low before (c ∷ cs) f zero h = omega (arith, f.0)
channels_low before (c ∷ cs) f (suc i) h = channels_low (before ++ (c ∷ [])) cs f.2 i (omega arith)

pub channels_few : (cs : List ℕ) → Channels [] cs → length cs ≤ 16
channels_few cs f = pigeonhole 16 cs (channels_fresh [] cs f) (channels_low [] cs f)

-- ---- the loop over the entries, where the rule of all is that of those from i on behind `es`

module _ (es cs : List ℕ) (i : ℕ) (rule : list_rule cs ≡ one_by_one entry_rule es (drop i cs)) where
  pub over_at : i < length cs → 15 < get_or cs i 0 → refused 6 ≡ list_rule cs
  over_at h p = sym (rule ∙ rw (drop-cons cs i 0 h) (entry_over es (get_or cs i 0) (drop (suc i) cs) p))

  pub twice_at : i < length cs → get_or cs i 0 ≤ 15 → member (get_or cs i 0) es ≡ true → refused 7 ≡ list_rule cs
  twice_at h p e = sym (rule ∙ rw (drop-cons cs i 0 h) (entry_twice es (get_or cs i 0) (drop (suc i) cs) p e))

  pub fine_at : i < length cs → get_or cs i 0 ≤ 15 → member (get_or cs i 0) es ≡ false
      → list_rule cs ≡ one_by_one entry_rule (es ++ (get_or cs i 0 ∷ [])) (drop (i + 1) cs)
  fine_at h p e = rule ∙ rw (drop-cons cs i 0 h, add-one) (entry_fine es (get_or cs i 0) (drop (suc i) cs) p e)

  pub all_fine : length cs ≤ i → value es ≡ list_rule cs
  unfolding one_by_one
  all_fine h = sym (rule ∙ rw (drop_of_length-le cs {i = i} h))

-- ---- one more entry

-- to a list that is fine so far
pub channels_push : (before cs : List ℕ) (c : ℕ) → Channels before cs → c ≤ 15 → member c (before ++ cs) ≡ false → Channels before (cs ++ (c ∷ []))
channels_push before [] c f h e = (h, rw append-nil at e, tt)
channels_push before (d ∷ cs) c f h e = (f.0, f.1, channels_push (before ++ (d ∷ [])) cs c f.2 h (rw (append_assoc before (d ∷ []) cs) e))

-- so there is a place for it
pub channels_room : (cs : List ℕ) (c : ℕ) → Channels [] cs → c ≤ 15 → member c cs ≡ false → length cs < 16
channels_room cs c f h e = omega (arith, channels_few (cs ++ (c ∷ [])) (channels_push [] cs c f h e), length-append cs (c ∷ []))

-- ---- what is stored

-- channels as they are read: each is below 16, and found and searched in the list as it is
low_read : (xs : List ℕ) (i : ℕ) → i < length (map channel_of xs) → get_or (map channel_of xs) i 0 < 16
low_read [] i h = absurd (omega arith)
low_read (x ∷ xs) zero h = omega arith
low_read (x ∷ xs) (suc i) h = low_read xs i (omega arith)

read_at : (n : ℕ) (xs : List ℕ) (i : ℕ) → i < length (map channel_of (take n xs)) → some (get_or xs i 0 % 16) ≡ get_elem? (map channel_of (take n xs)) i
read_at zero xs i h = absurd (omega arith)
read_at (suc n) [] i h = absurd (omega arith)
read_at (suc n) (x ∷ xs) zero h = refl
read_at (suc n) (x ∷ xs) (suc i) h = read_at n xs i (omega arith)

read_past : (xs : List ℕ) (i : ℕ) → length xs ≤ i → none ≡ get_elem? xs i
read_past [] i h = refl
read_past (x ∷ xs) zero h = absurd (omega arith)
read_past (x ∷ xs) (suc i) h = read_past xs i (omega arith)

read_any : (c : ℕ) (xs : List ℕ) → list_any (λ (n : ℕ). eqb (n % 16) c) xs ≡ member c (map channel_of xs)
read_any c [] = refl
read_any c (x ∷ xs) = ap (λ (b : Bool). eqb (x % 16) c || b) (read_any c xs)

-- so many places of the first n are the first of those
take_stored : (n m : ℕ) (xs : List ℕ) → m ≡ min (min n 16) (length xs) → take m xs ≡ take (min n 16) xs
take_stored n m xs e = rw (e, take_min (min n 16) xs)

module _ (l : ChannelList) where
  length_entries_min : length (entries l) ≡ min (min l.count 16) (length l.channels)
  unfolding entries
  length_entries_min = length-map (take (min l.count 16) l.channels) channel_of ∙ length-take (min l.count 16) l.channels

  -- Every stored list has at most sixteen entries, each below 16.
  pub entries_few : length (entries l) ≤ 16
  entries_few = omega (arith, length_entries_min)

  pub entries_low : (i : ℕ) → i < length (entries l) → get_or (entries l) i 0 < 16
  unfolding entries
  entries_low = low_read (take (min l.count 16) l.channels)

  pub length_entries : length l.channels ≡ 16 → length (entries l) ≡ min l.count 16
  length_entries h = omega (arith, length_entries_min, h)

  pub entry_at : (i : ℕ) → i < length (entries l) → some (get_or l.channels i 0 % 16) ≡ get_elem? (entries l) i
  unfolding entries
  entry_at = read_at (min l.count 16) l.channels

  pub entry_past : (i : ℕ) → length (entries l) ≤ i → none ≡ get_elem? (entries l) i
  entry_past = read_past (entries l)

  -- a search of so many places
  pub member_entries : (n c : ℕ) → n ≡ length (entries l) → list_any (λ (k : ℕ). eqb (k % 16) c) (take n l.channels) ≡ member c (entries l)
  unfolding entries
  member_entries n c e =
      rw (take_stored l.count n l.channels (e ∙ length_entries_min)) (read_any c (take (min l.count 16) l.channels))

  -- one more is stored behind the others
  pub entries_push :
      (c : ℕ) → c ≤ 15 → l.count < length l.channels → l.count < 16
      → entries (record { channels = set l.channels l.count c; count = l.count + 1 }) ≡ entries l ++ (c ∷ [])
  unfolding entries
  entries_push c h k few =
      let this : min l.count 16 ≡ l.count = omega (arith, few) in
      let next : min (l.count + 1) 16 ≡ l.count + 1 = omega (arith, few) in
      rw (this, next)
      (ap (map channel_of) (take_more_set l.channels l.count c k)
      ∙ map_push channel_of (take l.count l.channels) c
      ∙ ap (λ (n : ℕ). map channel_of (take l.count l.channels) ++ (n ∷ [])) (mod-eq_of_lt (omega arith)))
