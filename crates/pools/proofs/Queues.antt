-- Laws of a queue's items: a count, and a list of which so many count, or all.
use Rattle.std.proofs.Common.{◌≡◌, ℕ, zero, suc, ◌+◌, ◌-◌, ◌<◌, ◌≤◌, min, Bool, true, false, List, [], ◌∷◌, ◌++◌, map, length, get_or, take, drop, set, refl, sym, ap, ◌∙◌, eqb, ltb, add-one, arith}
use Rattle.std.proofs.Math.Nat.{mod-eq_of_lt, zero-min, min-zero, suc-min-suc}
use Rattle.std.proofs.Math.Seq.{paste, take-suc, take-suc-set, take-set-le, drop-set-lt, drop-drop, get_or-drop}
use Rattle.std.proofs.lemmas.List.{append-nil, map-append, take-map, take_all, take_min, length-take, length-take-le, length-drop, length-append, take-append-le, drop-take}
use borrow.Author.Tests.{eq-eqb, ne_eqb, lt-ltb, le-ltb}
use Rattle.std.proofs.Math.Option.{some, none}
use Rattle.std.specs.Bool.{then_some}
use Rattle.arithmetic.specs.Answers.{optional}
use Rattle.channels.specs.Lists.{upward, first, member, without}
use Rattle.channels.proofs.Lists.Laws.{tested, passed, failed, length_without_lt}
use Rattle.channels.specs.Places.{channel_of}
use Rattle.pools.specs.Pool.{enqueue}

-- the items that count
pub counted : (n m : ℕ) (l : List ℕ) → m ≡ length (take n l) → take n l ≡ take m l
counted n m l e = sym (take_min n l) ∙ ap (λ k. take k l) (sym (e ∙ length-take n l))

pub take_range : (n a m : ℕ) → take n (upward a m) ≡ upward a (min n m)
unfolding upward
take_range zero a m = ap (upward a) (sym (zero-min m))
take_range (suc n) a zero = ap (upward a) (sym (min-zero (suc n)))
take_range (suc n) a (suc m) = ap (λ (t : List ℕ). a ∷ t) (take_range n (suc a) m) ∙ ap (upward a) (sym (suc-min-suc n m))

-- the lowest numbers are channels
pub channels_same : (a n : ℕ) → a + n ≤ 16 → map channel_of (upward a n) ≡ upward a n
unfolding upward
channels_same a zero h = refl
channels_same a (suc n) h = rw (mod-eq_of_lt {n = a} {m = 16} (omega arith)) (ap (λ (r : List ℕ). a ∷ r) (channels_same (suc a) n (omega arith)))

-- ---- the front

pub first_map : (f : ℕ → ℕ) (l : List ℕ) (x : ℕ) → first l ≡ some x → first (map f l) ≡ some (f x)
unfolding first
first_map f [] x e = absurd (cc)
first_map f (y ∷ l) x e = let same : y ≡ x = cc in ap (λ (n : ℕ). some (f n)) same

pub first_map_none : (f : ℕ → ℕ) (l : List ℕ) → first l ≡ none → first (map f l) ≡ none
unfolding first
first_map_none f [] e = refl
first_map_none f (y ∷ l) e = absurd (cc)

pub front_is : (n : ℕ) (l : List ℕ) → 0 < length l → optional (then_some (ltb 0 n) (get_or l 0 0)) ≡ first (take n l)
unfolding first
front_is zero l h = refl
front_is (suc n) [] h = absurd (omega arith)
front_is (suc n) (x ∷ l) h = rw (lt-ltb 0 (suc n) (omega arith))

-- what is left behind it, where all others are moved to the front
pub rest_moved : (n : ℕ) (l : List ℕ) → 0 < n → n ≤ length l → take (n - 1) (paste l 0 (drop 1 l) (length l - 1)) ≡ drop 1 (take n l)
rest_moved n l h k =
    let m = length l - 1 in
    let e : 1 + (n - 1) ≡ n = omega arith in
    ap (λ r. take (n - 1) (r ++ drop (0 + m) l)) (take_all m (drop 1 l) (omega (arith, length-drop 1 l)))
    ∙ take-append-le (n - 1) (drop 1 l) (drop (0 + m) l) (omega (arith, length-drop 1 l))
    ∙ sym (drop-take 1 (n - 1) l)
    ∙ ap (λ i. drop 1 (take i l)) e

-- ---- one more at the back

pub enqueue_room : (l : List ℕ) (x : ℕ) → length l < 16 → enqueue l x ≡ l ++ (x ∷ [])
unfolding enqueue
enqueue_room l x h = take_all 16 (l ++ (x ∷ [])) (omega (arith, length-append l (x ∷ [])))

pub enqueue_set : (n : ℕ) (l : List ℕ) (x : ℕ) → n < 16 → n < length l → take (n + 1) (set l n x) ≡ enqueue (take n l) x
enqueue_set n l x h k =
    ap (λ (i : ℕ). take i (set l n x)) (add-one n)
    ∙ take-suc-set l n x k
    ∙ sym (enqueue_room (take n l) x (omega (arith, length-take-le n l (omega arith))))

pub enqueue_full : (l : List ℕ) (x : ℕ) → length l ≡ 16 → l ≡ enqueue l x
unfolding enqueue
enqueue_full l x e = sym (take-append-le 16 l (x ∷ []) (omega arith) ∙ take_all 16 l (omega arith))

pub map_enqueue : (l : List ℕ) (c : ℕ) → c < 16 → map channel_of (enqueue l c) ≡ enqueue (map channel_of l) c
unfolding enqueue
map_enqueue l c h =
    sym (take-map channel_of 16 (l ++ (c ∷ [])))
    ∙ ap (take 16) (map-append channel_of l (c ∷ []))
    ∙ ap (λ n. take 16 (map channel_of l ++ (n ∷ []))) (mod-eq_of_lt h)

pub ruleset enqueued = (counted, enqueue_set, enqueue_full)

-- ---- the items without a number, as far as i

without-append : (x : ℕ) (l m : List ℕ) → without x (l ++ m) ≡ without x l ++ without x m
unfolding without
without-append x [] m = refl
without-append x (y ∷ l) m = elim (tested (eqb y x)) [
  | passed e ↦ rw e (without-append x l m)
  | failed e ↦ rw e (ap (λ (r : List ℕ). y ∷ r) (without-append x l m))
]

-- The first i of the items m have been gone through, and those that are not the number stand first in l.
module _ (x : ℕ) (l m : List ℕ) (i k : ℕ) (h : i < length m) (long : length l ≡ length m) (few : k ≤ i)
    (read : take k l ≡ without x (take i m)) (rest : drop i l ≡ drop i m) where
  get_or_unread : get_or l i 0 ≡ get_or m i 0
  get_or_unread = let at : i ≡ i + 0 = omega arith in rw at (sym (get_or-drop i l 0 0) ∙ ap (λ r. get_or r 0 0) rest ∙ get_or-drop i m 0 0)

  without_one_more : without x (take (i + 1) m) ≡ take k l ++ without x (get_or l i 0 ∷ [])
  without_one_more =
      ap (λ n. without x (take n m)) (add-one i)
      ∙ ap (without x) (take-suc m i 0 h)
      ∙ without-append x (take i m) (get_or m i 0 ∷ [])
      ∙ ap (λ r. r ++ without x (get_or m i 0 ∷ [])) (sym read)
      ∙ ap (λ n. take k l ++ without x (n ∷ [])) (sym get_or_unread)

  pub sifted_here : get_or l i 0 ≡ x → take k (set l k (get_or l i 0)) ≡ without x (take (i + 1) m)
  unfolding without
  sifted_here e = take-set-le k l k (get_or l i 0) (omega arith) ∙ sym (without_one_more ∙ rw (eq-eqb (get_or l i 0) x e) (append-nil (take k l)))

  pub sifted_other : (get_or l i 0 ≡ x → ⊥) → take (k + 1) (set l k (get_or l i 0)) ≡ without x (take (i + 1) m)
  unfolding without
  sifted_other ne =
      ap (λ n. take n (set l k (get_or l i 0))) (add-one k)
      ∙ take-suc-set l k (get_or l i 0) (omega arith)
      ∙ sym (without_one_more ∙ rw (ne_eqb (get_or l i 0) x ne))

  pub sifted_rest : drop (i + 1) (set l k (get_or l i 0)) ≡ drop (i + 1) m
  sifted_rest = drop-set-lt (i + 1) l k (get_or l i 0) (omega arith) ∙ sym (drop-drop 1 i l) ∙ ap (drop 1) rest ∙ drop-drop 1 i m

-- ---- whether the number was there

pub without_none : (x : ℕ) (l : List ℕ) → member x l ≡ false → without x l ≡ l
unfolding without
without_none x [] h = refl
without_none x (y ∷ l) h = elim (tested (eqb y x)) [
  | passed e ↦ absurd (let z : ◌≡◌ {A = Bool} true false = rw e at h in cc)
  | failed e ↦ rw e (ap (λ (r : List ℕ). y ∷ r) (without_none x l (rw e at h)))
]

-- fewer are left where the number was there
pub length_fewer : (x : ℕ) (l : List ℕ) (m n : ℕ) → m ≡ length (without x l) → n ≡ length l → ltb m n ≡ member x l
length_fewer x l m n e f = elim (tested (member x l)) [
  | passed h ↦ lt-ltb m n (omega (arith, length_without_lt x l h)) ∙ sym h
  | failed h ↦ le-ltb m n (omega (arith, ap length (without_none x l h))) ∙ sym h
]

-- a channel that a key gives up
pub ruleset put_back = (map_enqueue, without_none)
