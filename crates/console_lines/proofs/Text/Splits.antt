-- Laws of `split`.
use Prim.Native.Nat.{ℕ}
use mathlib.Core.Path.{◌≡◌, refl, sym, ◌∙◌, ap}
use mathlib.Core.Bool.{Bool, true, false, cond}
use mathlib.Core.List.{List, [], ◌∷◌, ◌++◌, append_assoc, append-nil}
use lib.Dec.{eqb}
use denote.Ref.{Bor}
use denote.Param.Members.{Mut}
use borrow.Author.Tests.{eq-eqb, ne_eqb}
use Rattle.std.specs.Prelude.{Option, Some, None}
use Rattle.std.specs.List.{slice_split, onto_first}
use Rattle.std.specs.Fn.{CalledAt}
use Rattle.std.specs.Slice.Iter as slice
use Rattle.std.proofs.lemmas.Iterator.{YieldsList}
use Rattle.std.proofs.lemmas.Iterator.Splits.{YieldsList-from_slice_split}
use Rattle.console_lines.specs.Split.{into, split}

pub into_into : (p q : List ℕ) (x : List (List ℕ)) → into (p ++ q) x ≡ into p (into q x)
unfolding into
into_into p q [] = refl
into_into p q (f ∷ fs) = simp append_assoc

-- a separator ends the first part
pub split_sep : (sep b : ℕ) (s : List ℕ) → b ≡ sep → split sep (b ∷ s) ≡ [] ∷ split sep s
unfolding split
split_sep sep b s e = simp (eq-eqb b sep e)

-- any other byte belongs to it
pub split_other : (sep b : ℕ) (s : List ℕ) → (b ≡ sep → ⊥) → split sep (b ∷ s) ≡ into (b ∷ []) (split sep s)
unfolding split
split_other sep b s n = simp (ne_eqb b sep n)

-- there is a first part
pub into_none : (sep : ℕ) (s : List ℕ) → into [] (split sep s) ≡ split sep s
unfolding into split
into_none sep [] = refl
into_none sep (b ∷ s) = go (eqb b sep)
  where
    go : (t : Bool) → into [] (cond t ([] ∷ split sep s) (into (b ∷ []) (split sep s))) ≡ cond t ([] ∷ split sep s) (into (b ∷ []) (split sep s))
    go true = refl
    go false = sym (into_into [] (b ∷ []) (split sep s))

-- the parts are those of the library's `split`
pub parts_are : (sep : ℕ) (s : List ℕ) → slice_split (λ b. eqb b sep) s ≡ split sep s
unfolding split into
parts_are sep [] = refl
parts_are sep (b ∷ s) =
    ap (λ (x : List (List ℕ)). cond (eqb b sep) ([] ∷ x) (onto_first b x)) (parts_are sep s) ∙ go (eqb b sep) (split sep s)
  where
    go : (t : Bool) (x : List (List ℕ)) → cond t ([] ∷ x) (onto_first b x) ≡ cond t ([] ∷ x) (into (b ∷ []) x)
    go true x = refl
    go false [] = refl
    go false (f ∷ fs) = refl

-- ---- calls of `next`, of an iterator that yields a list: `front` is what it has yielded of it

pub record Yielded {S A B : Type 0} (steps : S → Option A → S → Type 0) (v : A → B) (all front : List B) (s : S) : Type 0 where
  pub rest : List B
  pub all_is : all ≡ front ++ rest
  pub yields : YieldsList steps v s rest

module _ {S A B : Type 0} {steps : S → Option A → S → Type 0} {v : A → B} {all front : List B} {s t : S} {r : Option A} where
  -- one part more
  pub yielded_some : {x : A} → Yielded steps v all front s → steps s r t → r ≡ Some x → Yielded steps v all (front ++ (v x ∷ [])) t
  yielded_some {x} g n e = go g.rest g.all_is g.yields
    where
      go : (ys : List B) → all ≡ front ++ ys → YieldsList steps v s ys → Yielded steps v all (front ++ (v x ∷ [])) t
      go [] i y = absurd (y.runs x t (rw e at n))
      go (z ∷ zs) i y =
          let h = y.runs.1 x t (rw e at n) in
          record {
            rest = zs;
            all_is = i ∙ ap (λ (w : B). front ++ (w ∷ zs)) (sym h.0) ∙ sym (append_assoc front (v x ∷ []) zs);
            yields = record { runs = h.1 };
          }

  -- no more
  pub yielded_all : Yielded steps v all front s → steps s r t → r ≡ None → all ≡ front
  yielded_all g n e = go g.rest g.all_is g.yields
    where
      go : (ys : List B) → all ≡ front ++ ys → YieldsList steps v s ys → all ≡ front
      go [] i y = i ∙ append-nil front
      go (z ∷ zs) i y = absurd (y.runs.0 t (rw e at n))

-- the library's `split`, before the first
pub yielded_none : {F : Type 0} {s : _} (g : Mut F (Bor ℕ × Unit {0}) Bool) (sep : ℕ) {f : F} (xs : List ℕ)
    → slice.split_rest s ≡ xs → slice.split_done s ≡ false → slice.split_callee s ≡ f
    → ((x : ℕ) (b : Bool) (q : F) → CalledAt g f x b q → (q ≡ f) × (b ≡ eqb x sep))
    → Yielded (slice.split_steps g) (λ x. x.now) (split sep xs) [] s
yielded_none g sep xs rest more is closure =
    record {
      rest = split sep xs;
      all_is = refl;
      yields = rw (← parts_are sep xs) (YieldsList-from_slice_split g (λ x. eqb x sep) xs rest more is closure);
    }
