-- The keys in order, with one line more: they hold the list's lines, and a list that meets no refusal has at most one for each key.
use mathlib.Core.Path.{◌≡◌, refl, sym, ap, ◌∙◌, subst}
use mathlib.Core.Bool.{true, false, or-false}
use Rattle.std.proofs.Math.Bool.{or-true}
use mathlib.Core.List.{List, [], ◌∷◌, ◌++◌, map}
use mathlib.Core.Option.{some}
use Prim.Native.Nat.{ℕ, zero, suc, ◌<◌, ◌≤◌}
use native.Mathlib.Omega.{arith}
use lib.Dec.{T, eqb, eqb→eq, eqb_refl}
use lib.Ieee.{Float, nan, binary64, fits, le}
use lib.ListN.{length, get_or, set, replicate, length-replicate, length-map, length-set, length-append}
use Rattle.std.specs.List.{insert}
use lib.Seq.{get_or-set_same, get_or-set_other}
use Rattle.arithmetic.specs.Note.{is_note}
use Rattle.arrayvec.specs.ArrayVec.{ArrayVec}
use Rattle.channels.specs.Lists.{Each, member}
use Rattle.plans.specs.PlanLine.{PlanLine, rising, keys}
use Rattle.plans.specs.PlanLists.{key_count}
use Rattle.channels.specs.Places.{is_held, note_of, place_of}
use Rattle.plans.specs.declared.sorted_keys.SortedKeys.{SortedKeys}
use Rattle.plans.specs.PlanInternal.{Accepted, Holds, Rises, line_at, lines_of, before, put_in}
use Rattle.channels.proofs.Lists.Laws.{tested, passed, failed, true→T, not_false, Each-map, Each-image, at_member, distinct_length_le, below, below_length, below_member, Each-snoc, member_snoc, distinct_snoc}
use Rattle.channels.proofs.Records.{place_parts}
use Rattle.plans.proofs.Lines.Rising.{others_of_key, append, Each-rising, length_rising, rising_sorted, rising_snoc}
use Rattle.plans.specs.PlanOrder.{Positive, Sorted}

-- ---- lists with one element more
pub keys_snoc : (lines : List PlanLine) (x : PlanLine) → keys (lines ++ (x ∷ [])) ≡ keys lines ++ (x.key ∷ [])
keys_snoc [] x = refl
keys_snoc (y ∷ lines) x = ap (λ (l : List ℕ). y.key ∷ l) (keys_snoc lines x)

-- ---- accepted lists
pub accepted_snoc : (lines : List PlanLine) (x : PlanLine) → Accepted lines → member x.key (keys lines) ≡ false → x.key < key_count → is_note x.note ≡ true
    → Positive x → T (fits binary64 x.detuning)
    → Accepted (lines ++ (x ∷ []))
accepted_snoc lines x ok new b n p f = record {
  distinct = rw (keys_snoc lines x) (distinct_snoc (keys lines) x.key ok.distinct new);
  bytes = Each-snoc (λ (l : PlanLine). l.key < key_count) lines x ok.bytes b;
  notes = Each-snoc (λ (l : PlanLine). is_note l.note ≡ true) lines x ok.notes n;
  detunings = Each-snoc Positive lines x ok.detunings p;
  fitting = Each-snoc (λ (l : PlanLine). T (fits binary64 l.detuning)) lines x ok.fitting f;
}

pub accepted_nil : Accepted []
accepted_nil = record { distinct = tt; bytes = tt; notes = tt; detunings = tt; fitting = tt }

-- Lists may be longer than there are keys: among 257 lines some key comes twice.
pub accepted_few : (lines : List PlanLine) → Accepted lines → length lines ≤ key_count
accepted_few lines ok =
    let h : length (keys lines) ≤ length (below key_count) = distinct_length_le (keys lines) (below key_count) ok.distinct
    (λ k m. below_member key_count k
    (at_member (λ (j : ℕ). j < key_count) (keys lines) (Each-image (λ (j : ℕ). j < key_count) (λ (l : PlanLine). l.key) lines ok.bytes) k m)) in
    omega (arith, h, below_length key_count, length-map lines (λ (l : PlanLine). l.key))

-- ---- a key put in
module _ (records : List ℕ) (ds : List Float) where
  abbrev line : ℕ → PlanLine
  line k = line_at records ds k

  put_is : (k : ℕ) (xs : List ℕ) → map line (put_in ds (get_or ds k nan) k xs) ≡ append (line k) (map line xs)
  unfolding before append
  put_is k [] = refl
  put_is k (y ∷ xs) = elim (tested (le (get_or ds y nan) (get_or ds k nan))) [
    | passed u ↦ rw u (ap (λ (l : List PlanLine). line y ∷ l) (put_is k xs))
    | failed u ↦ rw u
  ]

  each_keys : (P : PlanLine → Type 0) (xs : List ℕ) → Each P (map line xs) → Each (λ (k : ℕ). P (line k)) xs
  each_keys P [] h = tt
  each_keys P (k ∷ xs) h = (h.0, each_keys P xs h.1)

  sorted_rises : (xs : List ℕ) → Each Positive (map line xs) → Sorted (map line xs) → Rises ds xs
  sorted_rises [] p s = tt
  sorted_rises (k ∷ xs) p s = (
    p.0,
    each_keys (λ (l : PlanLine). T (le (line k).detuning l.detuning)) xs (Each-map (λ l u. u.ordered) (map line xs) s.0),
    sorted_rises xs p.1 s.1,
  )

-- keys other than k read the same after a store at k
pub differs : (y k : ℕ) → eqb y k ≡ false → y ≡ k → ⊥
differs y k h e = not_false h (subst (λ (j : ℕ). T (eqb y j)) e (eqb_refl y))

module _ (records : List ℕ) (ds : List Float) (k raw : ℕ) (d : Float) where
  others_kept : (xs : List ℕ) → Each (λ (l : PlanLine). eqb l.key k ≡ false) (map (line_at records ds) xs)
      → map (line_at (set records k raw) (set ds k d)) xs ≡ map (line_at records ds) xs
  others_kept [] h = refl
  others_kept (y ∷ xs) h =
      let ne = differs y k h.0 in
      rw (get_or-set_other records k y raw 0 ne, get_or-set_other ds k y d nan ne, others_kept xs h.1)

-- nor does the place among other keys
before_kept : (records : List ℕ) (ds : List Float) (k : ℕ) (d : Float) (xs : List ℕ)
    → Each (λ (l : PlanLine). eqb l.key k ≡ false) (map (line_at records ds) xs)
    → put_in ds d k xs ≡ put_in (set ds k d) d k xs
unfolding before
before_kept records ds k d xs h = ap (λ b. insert xs b k) (same xs h)
  where
    same : (xs : List ℕ) → Each (λ (l : PlanLine). eqb l.key k ≡ false) (map (line_at records ds) xs) → before ds d xs ≡ before (set ds k d) d xs
    same [] h = refl
    same (y ∷ xs) h = rw (get_or-set_other ds k y d nan (differs y k h.0), same xs h.1)

-- no line
pub replicated_at : {A : Type 0} (a : A) (n k : ℕ) → get_or (replicate n a) k a ≡ a
replicated_at a zero k = refl
replicated_at a (suc n) zero = refl
replicated_at a (suc n) (suc k) = replicated_at a n k

pub holds_none : (order : ArrayVec ℕ) (d : Float) → order.items ≡ []
    → Holds (record { order = order; records = replicate key_count 0; detunings = replicate key_count d }) []
unfolding lines_of rising
holds_none order d e = record {
  ordered = rw e;
  marked = λ k. ap (λ (c : ℕ). is_held (place_of c)) (replicated_at 0 key_count k) ∙ none_held;
  long = record {
    records = length-replicate {A = ℕ} key_count 0;
    detunings = length-replicate key_count d;
  };
}
  where
    none_held : is_held (place_of 0) ≡ false
    none_held = unfold is_held place_of note_of in refl

-- the keys in order have detunings that rise
pub rises_in : (s : SortedKeys) (lines : List PlanLine) → Holds s lines → Accepted lines → Rises s.detunings s.order.items
unfolding lines_of
rises_in s lines h ok =
    sorted_rises s.records s.detunings s.order.items (rw h.ordered (Each-rising Positive lines ok.detunings))
    (rw h.ordered (rising_sorted lines ok.detunings))

-- there are as many as lines
held_count : (s : SortedKeys) (lines : List PlanLine) → Holds s lines → length s.order.items ≡ length lines
unfolding lines_of
held_count s lines h = sym (length-map s.order.items (line_at s.records s.detunings)) ∙ ap length h.ordered ∙ length_rising lines

-- there is room for one key more
pub room_in : (s : SortedKeys) (lines : List PlanLine) → Holds s lines → Accepted lines → (x : PlanLine) → Accepted (lines ++ (x ∷ []))
    → length s.order.items < key_count
room_in s lines h ok x more = omega (arith, held_count s lines h, accepted_few (lines ++ (x ∷ [])) more, length-append lines (x ∷ []))

-- one key more: `raw` is the record of the line x
module _ (s : SortedKeys) (order : ArrayVec ℕ) (raw : ℕ) (x : PlanLine) (lines : List PlanLine) (h : Holds s lines) (ok : Accepted lines)
    (new : member x.key (keys lines) ≡ false) (byte : x.key < key_count) (above : Positive x)
    (found : place_of raw ≡ some (record { channel = 0; note = x.note }))
    (put : order.items ≡ put_in s.detunings x.detuning x.key s.order.items) where
  abbrev k : ℕ
  k = x.key

  abbrev records : List ℕ
  records = set s.records k raw

  abbrev ds : List Float
  ds = set s.detunings k x.detuning

  abbrev after : ℕ → PlanLine
  after = line_at records ds

  own_line : after k ≡ x
  own_line = rw (
    get_or-set_same s.records k raw 0 (omega (arith, h.long.records)),
    get_or-set_same s.detunings k x.detuning nan
        (omega (arith, h.long.detunings)),
    (place_parts raw (record { channel = 0; note = x.note }) found).1,
  )

  ordered_with : map after order.items ≡ rising (lines ++ (x ∷ []))
  unfolding lines_of
  ordered_with =
      let d = x.detuning in
      let ks = s.order.items in
      let e = get_or-set_same s.detunings k d nan (omega (arith, h.long.detunings)) in
      let others = rw (sym h.ordered) at (Each-rising (λ (l : PlanLine). eqb l.key k ≡ false) lines (others_of_key k lines new)) in
      let kept : map after ks ≡ rising lines = others_kept s.records s.detunings k raw d ks others ∙ h.ordered in
      ap (map after)
      (put ∙ before_kept s.records s.detunings k d ks others ∙ ap (λ (f : Float). put_in ds f k ks) (sym e))
      ∙ put_is records ds k ks
      ∙ rw (kept, own_line) (sym (rising_snoc lines x ok.detunings above))

  record_held : is_held (place_of raw) ≡ true
  unfolding is_held
  record_held = rw found

  marked_with : (j : ℕ) → is_held (place_of (get_or records j 0)) ≡ member j (keys (lines ++ (x ∷ [])))
  marked_with j = elim (tested (eqb k j)) [
    | passed e ↦
        subst (λ (i : ℕ). is_held (place_of (get_or records i 0)) ≡ true) (eqb→eq k j (true→T e))
        (rw (get_or-set_same s.records k raw 0 (omega (arith, h.long.records))) record_held)
        ∙ sym (rw (keys_snoc lines x, member_snoc j k (keys lines), e) (or-true (member j (keys lines))))
    | failed e ↦
        ap (λ (c : ℕ). is_held (place_of c)) (get_or-set_other s.records k j raw 0 (λ u. not_false e (subst (λ (i : ℕ). T (eqb k i)) (sym u) (eqb_refl k))))
        ∙ h.marked j
        ∙ sym (rw (keys_snoc lines x, member_snoc j k (keys lines), e) (or-false (member j (keys lines))))
  ]

  pub holds_more : Holds (record { order = order; records = records; detunings = ds }) (lines ++ (x ∷ []))
  unfolding lines_of
  holds_more = record {
    ordered = ordered_with;
    marked = marked_with;
    long = record {
      records = length-set s.records k raw ∙ h.long.records;
      detunings = length-set s.detunings k x.detuning ∙ h.long.detunings;
    };
  }
