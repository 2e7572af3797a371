-- What a list is that meets no refusal, of each kind: its keys are distinct, its notes are notes, and its detunings are f64s, finite and above zero.
use mathlib.Core.Path.{◌≡◌, refl, sym, subst}
use mathlib.Core.Bool.{Bool, true, false, ◌&&◌}
use mathlib.Core.List.{List, [], ◌∷◌, ◌++◌}
use Prim.Native.Nat.{ℕ, ◌<◌}
use lib.Dec.{T, eqb}
use lib.IntN.{ℤ}
use lib.Ieee.{Float, binary64, fits}
use lib.ListN.{length}
use Rattle.arithmetic.specs.Outcome.{Outcome, value, refused, refuse◌unless◌then◌}
use Rattle.arithmetic.specs.Note.{is_note}
use Rattle.arithmetic.specs.Nearest.{nearest_rule}
use Rattle.arithmetic.proofs.Rules.Outcomes.{no_value}
use Rattle.channels.specs.FirstRefusal.{one_by_one}
use Rattle.channels.specs.Lists.{Each, member}
use Rattle.plans.specs.PlanLine.{PlanLine, keys}
use Rattle.plans.specs.PlanLists.{key_count, is_planned, with_key, note_line, note_lines, pitch_line, pitch_lines, line_rule, line_by_line, note_lists, pitch_lists}
use Rattle.plans.specs.PlanInternal.{Accepted}
use Rattle.channels.proofs.Lists.Laws.{tested, passed, failed}
use Rattle.plans.proofs.Lines.SortedKeys.{accepted_snoc, accepted_nil}
use Rattle.plans.proofs.Lines.Check.{Sound, note_lines_each, pitch_lines_each, planned_positive, nearest_sound}

-- a line that passes by itself is sound
abbrev SoundIfValue : Outcome PlanLine → Type 0
SoundIfValue o = (l : PlanLine) → o ≡ value l → Sound l

-- the lines that are accepted, where each that passes by itself is sound
lines_accepted : (before : List PlanLine) (rest : List (Outcome PlanLine)) (lines : List PlanLine) → Accepted before
    → Each SoundIfValue rest
    → line_by_line before rest ≡ value lines → Accepted lines
unfolding one_by_one line_rule
lines_accepted before [] lines ok h e = let q : before ≡ lines = cc in subst Accepted q ok
lines_accepted before (refused n ∷ rest) lines ok h e = no_value lines n (sym e)
lines_accepted before (value l ∷ rest) lines ok h e = elim (tested (member l.key (keys before))) [
  | passed m ↦ no_value lines 5 (sym (rw m at e))
  | failed m ↦
      let s = h.0 l refl in
      lines_accepted (before ++ (l ∷ [])) rest lines (accepted_snoc before l ok m s.byte s.note s.above s.fitting) h.1 (rw m at e)
]

-- a list's own refusal, 12, stands before its lines
pub value_of_passed : (n : ℕ) (test : Bool) (o : Outcome (List PlanLine)) (lines : List PlanLine) → (refuse n unless test then o) ≡ value lines
    → o ≡ value lines
value_of_passed n true o lines e = e
value_of_passed n false o lines e = no_value lines n (sym e)

-- ---- lists of notes

note_sound : (k : ℕ) (z : ℤ) (d : Float) → k < key_count → T (fits binary64 d) → (l : PlanLine) → note_line k z d ≡ value l → Sound l
unfolding note_line
note_sound k z d b f l e = elim (tested (is_note z)) [
  | failed u ↦ no_value l 4 (sym (rw u at e))
  | passed u ↦ elim (tested (is_planned d)) [
    | failed v ↦ no_value l 3 (sym (rw (u, v) at e))
    | passed v ↦
        let x : PlanLine = record { key = k; note = z; detuning = d } in
        let q : value x ≡ value l = rw (u, v) at e in
        let r : x ≡ l = cc in
        subst Sound r (record { byte = b; note = u; above = planned_positive d v; fitting = f })
  ]
]

-- Lists of keys that are bytes, notes, and detunings that are f64s.
pub notes_accepted : (ks : List ℕ) (ns : List ℤ) (ds : List Float) (lines : List PlanLine) → Each (λ (k : ℕ). k < key_count) ks
    → Each (λ (d : Float). T (fits binary64 d)) ds
    → note_lists ks ns ds ≡ value lines → Accepted lines
unfolding note_lists
notes_accepted ks ns ds lines b f e =
    lines_accepted [] (note_lines ks ns ds) lines accepted_nil (note_lines_each SoundIfValue note_sound ks ns ds b f)
    (value_of_passed 12 (eqb (length ns) (length ks) && eqb (length ds) (length ks)) (line_by_line [] (note_lines ks ns ds)) lines e)

-- ---- lists of pitches

pitch_sound : (k : ℕ) (hz : Float) → k < key_count → (l : PlanLine) → pitch_line k hz ≡ value l → Sound l
unfolding pitch_line
pitch_sound k hz b l e = go (nearest_rule hz) refl e
  where
    go : (o : Outcome (ℤ × Float)) → nearest_rule hz ≡ o → with_key k o ≡ value l → Sound l
    go (refused n) p e = no_value l n (sym e)
    go (value x) p e =
        let y : PlanLine = record { key = k; note = x.0; detuning = x.1 } in
        let q : value y ≡ value l = e in
        let r : y ≡ l = cc in
        subst Sound r (nearest_sound k hz x.0 x.1 b (sym p))

-- Lists of keys that are bytes and pitches, any f64s.
pub pitches_accepted : (ks : List ℕ) (hzs : List Float) (lines : List PlanLine) → Each (λ (k : ℕ). k < key_count) ks → pitch_lists ks hzs ≡ value lines
    → Accepted lines
unfolding pitch_lists
pitches_accepted ks hzs lines b e =
    lines_accepted [] (pitch_lines ks hzs) lines accepted_nil (pitch_lines_each SoundIfValue pitch_sound ks hzs b)
    (value_of_passed 12 (eqb (length hzs) (length ks)) (line_by_line [] (pitch_lines ks hzs)) lines e)
