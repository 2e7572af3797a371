-- A plan key by key, in groups of any kind: the channel that a key is on, and how far the detuning that the channel has for its group is from the key's own.
use Rattle.std.specs.Prelude.{filter}
use mathlib.Core.Path.{◌≡◌, refl, sym, ap, ◌∙◌, subst}
use mathlib.Core.Bool.{true, ◌&&◌}
use mathlib.Core.List.{List, [], ◌∷◌, ◌++◌, append_assoc, nil≢cons}
use mathlib.Core.Option.{Option, none, some}
use Prim.Native.Nat.{ℕ, zero, suc, ◌≤◌}
use native.Mathlib.Omega.{arith}
use lib.Dec.{eqb, eqb_refl}
use lib.IntN.{ℤ}
use lib.Ieee.{Float}
use lib.ListN.{length, get_or}
use Rattle.plans.specs.declared.aot.GroupBy.{GroupBy}
use Rattle.channels.specs.Lists.{Each}
use Rattle.plans.specs.PlanLine.{PlanLine, of_group, rising, group}
use Rattle.plans.specs.Walk.{walk, count, replaced, entry_from, entry, assignment}
use Rattle.plans.specs.PlanInternal.{Accepted}
use lib.Ieee.Bits.{is_true}
use Rattle.channels.proofs.Lists.Laws.{Each-map, Each-zip, filter_same}
use Rattle.plans.proofs.Lines.Rising.{rising_Each}
use Rattle.plans.proofs.Walk.Sweep.{own_group}
use Rattle.plans.proofs.Model.Models.{planned_cases}
use Rattle.plans.specs.Walk.{channel}
use Rattle.plans.proofs.Planning.Plan.{number_is}
use Rattle.plans.proofs.Planning.Plan.{walk_best, together_is}
use Rattle.theorems.proofs.Plans.Entries.{Assigned, assigned}
use Rattle.plans.specs.Carried.{last_of}
use Rattle.plans.proofs.Walk.Carried.{replaced_is}
use Rattle.arithmetic.specs.Outcome.{value}
use Rattle.plans.specs.Placing.{Joined, together}
use Rattle.theorems.specs.PlannedKeys.{is_on, row, last_detuning, JoinChain, Placed}
use Rattle.plans.specs.Plan.{Model, tuned, planned_model, planned}
use Rattle.channels.proofs.Lists.Laws.{filter_Each}

-- ---- a channel takes the keys of a group that come first
module _ (kind : GroupBy) (g : ℤ) where
  -- A channel with keys of the group has the last one's detuning.
  pub entry_own : (ts : List (List PlanLine)) (c : ℕ) (e : Option Float) (x : PlanLine) (l : List PlanLine) → filter (of_group kind g) (get_or ts c []) ≡ x ∷ l
      → entry_from kind g e ts c ≡ last_of none (x ∷ l)
  unfolding entry_from
  entry_own [] c e x l h = absurd (nil≢cons h)
  entry_own (t ∷ ts) zero e x l h = replaced_is kind g e t ∙ ap (last_of e) h
  entry_own (t ∷ ts) (suc c) e x l h = entry_own ts c (replaced kind g e t) x l h

-- ---- on one channel

last_of_last_detuning : (x : PlanLine) (l : List PlanLine) → last_of (some x.detuning) l ≡ some (last_detuning x l)
last_of_last_detuning x [] = refl
last_of_last_detuning x (y ∷ l) = last_of_last_detuning y l

-- Where a row joins, each of its keys has a chain up to the last.
joined_chains : (p : List PlanLine) (x : PlanLine) (l : List PlanLine) → Joined (x ∷ l)
    → Each (λ (y : PlanLine). JoinChain (p ++ (x ∷ l)) y (last_detuning x l)) (x ∷ l)
joined_chains p x [] j = (record { before = p; behind = []; row_is = refl; joined = tt; last_is = refl }, tt)
joined_chains p x (y ∷ l) j =
    let r = joined_chains (p ++ (x ∷ [])) y l j.1 in (
      record { before = p; behind = y ∷ l; row_is = refl; joined = j; last_is = refl },
      subst (λ (t : List PlanLine). Each (λ (z : PlanLine). JoinChain t z (last_detuning y l)) (y ∷ l)) (append_assoc p (x ∷ []) (y ∷ l)) r,
    )

each_all : {A B : Type 0} (Q : B → A → Type 0) (l : List A) → ((b : B) → Each (Q b) l) → Each (λ (x : A). (b : B) → Q b x) l
each_all Q [] h = tt
each_all Q (x ∷ l) h = (λ b. (h b).0, each_all Q l (λ b. (h b).1))

module _ (kind : GroupBy) (lines : List PlanLine) (ok : Accepted lines) where
  -- The row of the group g on channel c, by the channels of the walk.
  abbrev row_of : ℕ → ℤ → List PlanLine
  row_of c g = together kind lines (channel kind lines) c g

  -- The entry of the group g on channel c is the last detuning of its row, to which a chain leads from the line.
  abbrev Near : ℕ × ℤ → PlanLine → Type 0
  Near b l = (d : Float) × (entry kind lines b.0 b.1 ≡ some d) × JoinChain (row_of b.0 b.1) l d

  near : (c : ℕ) (g : ℤ) → Each (Near (c, g)) (filter (of_group kind g) (filter (λ (l : PlanLine). eqb (channel kind lines l.key) c) (rising lines)))
  unfolding entry
  near c g = subst (Each (Near (c, g))) (together_is kind lines ok (channel kind lines) c g) (go (row_of c g) refl ((walk_best kind lines ok).in_order c g))
    where
      go : (t : List PlanLine) → row_of c g ≡ t → Joined t → Each (Near (c, g)) t
      go [] e j = tt
      go (x ∷ t) e j =
          let own = entry_own kind g (walk kind lines) c none x t
          (ap (filter (of_group kind g)) (sym (number_is kind lines ok c)) ∙ sym (together_is kind lines ok (channel kind lines) c g) ∙ e) in
          let last = last_detuning x t in
          Each-map (λ y h. (last, own ∙ last_of_last_detuning x t, subst (λ (u : List PlanLine). JoinChain u y last) (sym e) h)) (x ∷ t)
          (joined_chains [] x t j)

  own_channel : (l : PlanLine) → eqb (channel kind lines l.key) (channel kind lines l.key) ≡ true
  own_channel l = is_true (eqb (channel kind lines l.key) (channel kind lines l.key)) (eqb_refl (channel kind lines l.key))

  keys_near : Each (λ (l : PlanLine). Near (channel kind lines l.key, group kind l.note) l) lines
  keys_near =
      Each-map (λ l h. h (channel kind lines l.key, group kind l.note) (own_channel l) (own_group kind l)) lines
      (each_all {B = ℕ × ℤ} (λ b l. eqb (channel kind lines l.key) b.0 ≡ true → of_group kind b.1 l ≡ true → Near b l) lines
      (λ b. rising_Each (λ (l : PlanLine). eqb (channel kind lines l.key) b.0 ≡ true → of_group kind b.1 l ≡ true → Near b l) lines
      (filter_Each (λ (l : PlanLine). of_group kind b.1 l ≡ true → Near b l) (λ (l : PlanLine). eqb (channel kind lines l.key) b.0) (rising lines)
      (filter_Each (Near b) (of_group kind b.1) (filter (λ (l : PlanLine). eqb (channel kind lines l.key) b.0) (rising lines)) (near b.0 b.1)))))

-- ---- the theorem

-- The row by the plan's own lookup is the row by the channels of the walk.
row_by_lookup : (kind : GroupBy) (lines : List PlanLine) (ok : Accepted lines) (c : ℕ) (g : ℤ)
    → row kind lines (assignment kind lines) c g ≡ row_of kind lines ok c g
unfolding row together
row_by_lookup kind lines ok c g =
    ap rising
    (filter_same
    (λ (l : PlanLine). is_on c (assignment kind lines l.key) && of_group kind g l)
    (λ (l : PlanLine). eqb (channel kind lines l.key) c && of_group kind g l) lines
    (Each-map (λ l h. ap (λ (o : Option (ℕ × ℤ)). is_on c o && of_group kind g l) h.0) lines (assigned kind lines ok)))

-- After a tuned answer of count n each key of the list is placed on one of the n channels, and there are as many.
pub planned_keys : (m : Model) (lines : List PlanLine) → Accepted lines → (n : ℕ) → (planned m (value lines)).1 ≡ tuned n
    → let next = (planned m (value lines)).0 in (next.num_channels ≡ n) × (n ≤ length m.channels) × Each (Placed next lines n) lines
planned_keys m lines ok n =
    planned_cases m lines (λ r. r.1 ≡ tuned n → (r.0.num_channels ≡ n) × (n ≤ length m.channels) × Each (Placed r.0 lines n) lines)
    (λ h e.
    let by = m.group_by in
    let q : count by lines ≡ n = cc in
    (q, omega (arith, h), Each-zip (λ l s f. line_placed q l s f) lines (assigned by lines ok) (keys_near by lines ok)))
    (λ h e. absurd (let z : ◌≡◌ {A = ℕ} 0 1 = cc in omega arith))
  where
    line_placed : count m.group_by lines ≡ n → (l : PlanLine) → Assigned m.group_by lines ok l
        → Near m.group_by lines ok (channel m.group_by lines l.key, group m.group_by l.note) l → Placed (planned_model m lines) lines n l
    line_placed q l s f =
        let c = channel m.group_by lines l.key in
        record {
          channel = c;
          below = omega (arith, s.1, q);
          found = s.0;
          detuning = f.0;
          entered = f.1;
          chain =
              subst (λ (t : List PlanLine). JoinChain t l f.0) (sym (row_by_lookup m.group_by lines ok c (group m.group_by l.note))) f.2;
        }
