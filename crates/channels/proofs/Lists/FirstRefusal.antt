-- A list that is read entry by entry is refused exactly by its first offence.
use mathlib.Core.Path.{◌≡◌, refl, sym, ap, ◌∙◌}
use mathlib.Core.List.{List, [], ◌∷◌, ◌++◌, append-nil, append_assoc}
use Prim.Native.Nat.{ℕ}
use Rattle.arithmetic.specs.Outcome.{Outcome, value, refused}
use Rattle.arithmetic.proofs.Rules.Outcomes.{no_value}
use Rattle.channels.specs.FirstRefusal.{onward, one_by_one, Offence}

module _ {A B : Type 0} (rule : List B → A → Outcome B) where
  pub refused_offence : (before : List B) (entries : List A) (n : ℕ) → one_by_one rule before entries ≡ refused n → Offence rule before entries n
  unfolding one_by_one
  refused_offence before [] n e = no_value before n e
  refused_offence before (x ∷ rest) n e = go (λ b f. refused_offence b rest n f) (rule before x) refl e
    where
      go : ((b : List B) → one_by_one rule b rest ≡ refused n → Offence rule b rest n) → (o : Outcome B) → rule before x ≡ o
          → onward o (λ y. one_by_one rule (before ++ (y ∷ [])) rest) ≡ refused n → Offence rule before (x ∷ rest) n
      go more (refused m) p e =
          let same : m ≡ n = cc in
          record {
            good = [];
            values = [];
            entry = x;
            behind = rest;
            parts = refl;
            fine = ap value (sym (append-nil before));
            wrong = rw append-nil (p ∙ ap refused same);
          }
      go more (value y) p e =
          let o = more (before ++ (y ∷ [])) e in
          record {
            good = x ∷ o.good;
            values = y ∷ o.values;
            entry = o.entry;
            behind = o.behind;
            parts = ap (λ (l : List A). x ∷ l) o.parts;
            fine = rw p (o.fine ∙ ap value (append_assoc before (y ∷ []) o.values));
            wrong = rw (← (append_assoc before (y ∷ []) o.values)) o.wrong;
          }

  one_by_one-append : (before : List B) (good rest : List A)
      → one_by_one rule before (good ++ rest) ≡ onward (one_by_one rule before good) (λ bs. one_by_one rule bs rest)
  unfolding one_by_one
  one_by_one-append before [] rest = refl
  one_by_one-append before (x ∷ good) rest = go (λ b. one_by_one-append b good rest) (rule before x)
    where
      go : ((b : List B) → one_by_one rule b (good ++ rest) ≡ onward (one_by_one rule b good) (λ bs. one_by_one rule bs rest)) → (o : Outcome B)
          → onward o (λ y. one_by_one rule (before ++ (y ∷ [])) (good ++ rest))
          ≡ onward (onward o (λ y. one_by_one rule (before ++ (y ∷ [])) good)) (λ bs. one_by_one rule bs rest)
      go more (value y) = more (before ++ (y ∷ []))
      go more (refused m) = refl

  pub offence_refused : (before : List B) (entries : List A) (n : ℕ) → Offence rule before entries n → one_by_one rule before entries ≡ refused n
  unfolding one_by_one
  offence_refused before entries n o = rw (o.parts, one_by_one-append before o.good (o.entry ∷ o.behind), o.fine, o.wrong)
