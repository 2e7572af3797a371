-- The pass at a key: which lines are done, what the table of groups and the records of keys then hold, and that the end is the walk's.
use mathlib.Core.Path.{◌≡◌, refl, sym, ap, ◌∙◌, subst}
use mathlib.Core.Bool.{true, false}
use mathlib.Core.List.{List, [], ◌∷◌, map}
use mathlib.Core.Option.{Option, none, some}
use Prim.Native.Nat.{ℕ, zero, suc, ◌+◌, ◌-◌, ◌<◌, ◌≤◌, max}
use native.Mathlib.Nat.{mod-eq_of_lt}
use native.Mathlib.Omega.{arith}
use lib.Dec.{T, eqb, eqb_refl}
use lib.IntN.{ℤ}
use lib.Ieee.{Float, nan}
use lib.ListN.{length, get_or, drop, set, length-set}
use lib.Seq.{get_or-set_same, get_or-set_other}
use Rattle.arithmetic.specs.Note.{is_note}
use Rattle.plans.specs.declared.aot.GroupBy.{GroupBy}
use Rattle.channels.specs.Lists.{Each, member, Pairwise}
use Rattle.plans.specs.PlanLine.{PlanLine, group, of_group, joins, rising, keys}
use Rattle.plans.specs.PlanLists.{key_count}
use Rattle.channels.specs.Places.{Place, note_of, channel_of, place_of}
use Rattle.plans.specs.Walk.{count, assignment, channel}
use Rattle.plans.specs.Plan.{KeyRecord, no_key, is_in, key_records}
use Rattle.plans.specs.declared.placing.Run.{Run}
use Rattle.plans.specs.PlanInternal.{Accepted, Assignments, channels_with, line_at, slot_of}
use Rattle.channels.proofs.Lists.Laws.{tested, passed, failed, true→T, not_false, Each-map, Each-all, Each-zip, own_image}
use Rattle.plans.proofs.Lines.Rising.{other_sym, distinct_apart, rising_Each}
use Rattle.plans.specs.PlanOrder.{Other}
use Rattle.channels.proofs.Records.{place_parts}
use Rattle.plans.proofs.Model.Records.{key_records_at, length_key_records}
use Rattle.plans.proofs.Walk.Sweep.{own_group, of_group_is}
use Rattle.plans.proofs.Planning.Plan.{below_count}
use Rattle.plans.proofs.Walk.OnePass.{find_channel, one_pass_count}
use Rattle.plans.specs.OnePass.{Mark, mark, number_after, number_of_next, numbers, top, find}
use Rattle.plans.proofs.Walk.Assignments.{lines_assigned}
use Rattle.plans.proofs.Walk.Slots.{group_note, slot_below, slot_one}
use lib.Ieee.Bits.{is_true}

-- the lines that are done, the latest first, before those that are left
abbrev pub onto : List PlanLine → List PlanLine → List PlanLine
onto [] l = l
onto (x ∷ d) l = onto d (x ∷ l)

Each-onto : (P : PlanLine → Type 0) (d l : List PlanLine) → Each P d → Each P l → Each P (onto d l)
Each-onto P [] l h k = k
Each-onto P (x ∷ d) l h k = Each-onto P d (x ∷ l) h.1 (h.0, k)

onto_Each : (P : PlanLine → Type 0) (d l : List PlanLine) → Each P (onto d l) → Each P d
onto_Each P d l h = (go d l h).0
  where
    go : (d l : List PlanLine) → Each P (onto d l) → Each P d × Each P l
    go [] l h = (tt, h)
    go (x ∷ d) l h = let r = go d (x ∷ l) h in ((r.1.0, r.0), r.1.1)

-- what stands for a group beyond the table
abbrev pub no_run : Run
no_run = record { used = 0; last = 0 }

-- what the table holds of a group: nothing yet, or how many channels it uses and a key with its last detuning
abbrev pub Agrees : List Float → Option Mark → Run → Type 0
Agrees ds none r = r.used ≡ 0
Agrees ds (some m) r = (r.used ≡ suc m.number) × (get_or ds r.last nan ≡ m.last)

channels_are : (ds : List Float) (o : Option Mark) (r : Run) (d : Float) → Agrees ds o r
    → channels_with r.used (get_or ds r.last nan) d ≡ suc (number_after o d)
unfolding channels_with
channels_are ds none r d h = rw h
channels_are ds (some m) r d h = rw (h.0, h.1) (elim (tested (joins m.last d)) [ passed e ↦ rw e | failed e ↦ rw e ])

pub some_channel : (u : ℕ) (f d : Float) → 1 ≤ channels_with u f d
unfolding channels_with
some_channel zero f d = omega arith
some_channel (suc u) f d = elim (tested (joins f d)) [ passed e ↦ rw e (omega arith) | failed e ↦ rw e (omega arith) ]

pub one_more_channel : (u : ℕ) (f d : Float) → channels_with u f d ≤ u + 1
unfolding channels_with
one_more_channel zero f d = omega arith
one_more_channel (suc u) f d = elim (tested (joins f d)) [ passed e ↦ rw e (omega arith) | failed e ↦ rw e (omega arith) ]

-- the number of a mark is below n
abbrev Numbered : ℕ → Option Mark → Type 0
Numbered n none = Unit {0}
Numbered n (some m) = m.number < n

Numbered_suc : (n : ℕ) (o : Option Mark) → Numbered n o → Numbered (suc n) o
Numbered_suc n none b = tt
Numbered_suc n (some m) b = omega arith

next_below : (n : ℕ) (o : Option Mark) (d : Float) → Numbered n o → number_after o d < suc n
next_below n none d b = omega arith
next_below n (some m) d b = elim (tested (joins m.last d)) [ passed j ↦ rw j (omega arith) | failed j ↦ rw j (omega arith) ]

-- a group uses at most as many channels as it has lines
mark_below : (ds : List Float) (by : GroupBy) (g : ℤ) (done : List PlanLine) (r : Run) → Agrees ds (mark by g done) r → r.used ≤ length done
mark_below ds by g done r h = go (mark by g done) (number_below done) h
  where
    number_below : (done : List PlanLine) → Numbered (length done) (mark by g done)
    number_below [] = tt
    number_below (x ∷ done) = elim (tested (of_group by g x)) [
      | passed e ↦ rw e (next_below (length done) (mark by g done) x.detuning (number_below done))
      | failed e ↦ rw e (Numbered_suc (length done) (mark by g done) (number_below done))
    ]

    go : (o : Option Mark) → Numbered (length done) o → Agrees ds o r → r.used ≤ length done
    go none b h = omega arith
    go (some m) b h = omega (arith, b, h.0)

-- the place of a line's key, on the channel that the pass gives it
abbrev pub place_in : GroupBy → List PlanLine → PlanLine → Place
place_in by all l = record { channel = channel_of (find by l.key [] all); note = l.note }

pub record Pass (by : GroupBy) (all : List PlanLine) (ds : List Float) (records : List ℕ) (runs : List Run) (n i : ℕ) (rest : List PlanLine) : Type 0 where
  pub done : List PlanLine
  pub reached : length done ≡ i
  pub whole : all ≡ onto done rest
  pub table : (g : ℤ) → is_note g ≡ true → Agrees ds (mark by g done) (get_or runs (slot_of g) no_run)
  pub ahead : Each (λ (l : PlanLine). find by l.key [] all ≡ find by l.key done rest) rest
  pub placed : Each (λ (l : PlanLine). place_of (get_or records l.key 0) ≡ some (place_in by all l)) done
  pub noted : Each (λ (l : PlanLine). note_of (get_or records l.key 0) ≡ l.note) rest
  pub out : (k : ℕ) → Each (λ (l : PlanLine). eqb l.key k ≡ false) done → Each (λ (l : PlanLine). eqb l.key k ≡ false) rest
      → is_note (note_of (get_or records k 0)) ≡ false
  pub counted : top (numbers by [] all) ≡ max n (top (numbers by done rest))
  pub fresh : Each (λ (l : PlanLine). Each (Other l) rest) done
  pub apart : Pairwise Other rest
  pub records_long : length records ≡ key_count
  pub runs_long : length runs ≡ 801

module _ (by : GroupBy) (all : List PlanLine) (ds : List Float) (records : List ℕ) (runs : List Run) (n i : ℕ) (x : PlanLine) (rest : List PlanLine) where
  abbrev slot : ℕ
  slot = slot_of (group by x.note)

  abbrev run : Run
  run = get_or runs slot no_run

  module _ (p : Pass by all ds records runs n i (x ∷ rest)) (note : is_note x.note ≡ true) where
    -- the channels that the group uses with x
    next_is : channels_with run.used (get_or ds run.last nan) x.detuning ≡ suc (number_of_next by p.done x)
    next_is = channels_are ds (mark by (group by x.note) p.done) run x.detuning (p.table (group by x.note) (group_note by x.note note))

    pub used_few : run.used ≤ i
    used_few = subst (λ (j : ℕ). run.used ≤ j) p.reached
        (mark_below ds by (group by x.note) p.done run (p.table (group by x.note) (group_note by x.note note)))

    abbrev c : ℕ
    c = number_of_next by p.done x

    abbrev gx : ℤ
    gx = group by x.note

    -- its group with x
    abbrev next_run : Run
    next_run = record { used = suc c; last = x.key }

    module _ (own_detuning : get_or ds x.key nan ≡ x.detuning) where
      table_own : Agrees ds (mark by gx (x ∷ p.done)) (get_or (set runs slot next_run) slot no_run)
      table_own =
          let b : slot < 801 = slot_below gx (group_note by x.note note) in
          rw (own_group by x, get_or-set_same runs slot next_run no_run (omega (arith, p.runs_long))) (refl, own_detuning)

      table_next : (g : ℤ) → is_note g ≡ true → Agrees ds (mark by g (x ∷ p.done)) (get_or (set runs slot next_run) (slot_of g) no_run)
      table_next g h = elim (tested (of_group by g x)) [
        | passed e ↦ subst (λ (i : ℤ). Agrees ds (mark by i (x ∷ p.done)) (get_or (set runs slot next_run) (slot_of i) no_run)) (of_group_is by g x e) table_own
        | failed e ↦
            let ne : (slot_of g ≡ slot → ⊥) = λ u. not_false e
            (true→T (subst (λ (i : ℤ). of_group by i x ≡ true) (sym (slot_one g gx h (group_note by x.note note) u)) (own_group by x))) in
            rw (e, get_or-set_other runs slot (slot_of g) next_run no_run ne) (p.table g h)
      ]

    ahead_next : Each (λ (y : PlanLine). find by y.key [] all ≡ find by y.key (x ∷ p.done) rest) rest
    unfolding find
    ahead_next = Each-zip (λ y o h. h ∙ rw o) rest p.apart.0 p.ahead.1

    own_find : find by x.key [] all ≡ c
    unfolding find
    own_find = p.ahead.0 ∙ rw (is_true (eqb x.key x.key) (eqb_refl x.key))

    differs : (k : ℕ) → eqb x.key k ≡ false → k ≡ x.key → ⊥
    differs k h e = not_false h (subst (λ (j : ℕ). T (eqb x.key j)) (sym e) (eqb_refl x.key))

    kept_at : (raw k : ℕ) → eqb x.key k ≡ false → get_or (set records x.key raw) k 0 ≡ get_or records k 0
    kept_at raw k h = get_or-set_other records x.key k raw 0 (differs k h)

    placed_next : (raw : ℕ) → Each (λ (l : PlanLine). place_of (get_or (set records x.key raw) l.key 0) ≡ some (place_in by all l)) p.done
    placed_next raw = Each-zip (λ l f h. ap place_of (kept_at raw l.key (other_sym l x f.0)) ∙ h) p.done p.fresh p.placed

    noted_next : (raw : ℕ) → Each (λ (l : PlanLine). note_of (get_or (set records x.key raw) l.key 0) ≡ l.note) rest
    noted_next raw = Each-zip (λ l f h. ap note_of (kept_at raw l.key f) ∙ h) rest p.apart.0 p.noted.1

    -- one key more
    pass_one : get_or ds x.key nan ≡ x.detuning → x.key < key_count → (m : ℕ) → m ≡ max n (suc c) → (raw : ℕ)
        → place_of raw ≡ some (record { channel = channel_of c; note = x.note })
        → Pass by all ds (set records x.key raw) (set runs slot next_run) m (i + 1) rest
    pass_one own byte m counts raw found = record {
      done = x ∷ p.done;
      reached = omega (arith, p.reached);
      whole = p.whole;
      table = table_next own;
      ahead = ahead_next;
      placed = (
        ap place_of (get_or-set_same records x.key raw 0 (omega (arith, p.records_long))) ∙ found
            ∙ ap (λ (j : ℕ). some (record { channel = channel_of j; note = x.note })) (sym own_find),
        placed_next raw,
      );
      noted = noted_next raw;
      out = λ k h o. ap (λ (z : ℕ). is_note (note_of z)) (kept_at raw k h.0) ∙ p.out k h.1 (h.0, o);
      counted = p.counted ∙ rw counts (omega arith);
      fresh = (p.apart.0, Each-map (λ l h. h.1) p.done p.fresh);
      apart = p.apart.1;
      records_long = simp length-set p.records_long;
      runs_long = simp length-set p.runs_long;
    }

    -- the same of what the code leaves
    pub pass_next : get_or ds x.key nan ≡ x.detuning → x.key < key_count → (used : ℕ) → used ≡ channels_with run.used (get_or ds run.last nan) x.detuning
        → (m : ℕ) → m ≡ max n used → (raw : ℕ) → place_of raw ≡ some (record { channel = channel_of (used - 1); note = x.note })
        → Pass by all ds (set records x.key raw) (set runs slot (record { used = used; last = x.key })) m (i + 1) rest
    pass_next own byte used channels m counts raw found =
        let used_is : used ≡ suc c = channels ∙ next_is in
        let lower : used - 1 ≡ c = omega arith in
        subst (λ (j : ℕ). Pass by all ds (set records x.key raw) (set runs slot (record { used = j; last = x.key })) m (i + 1) rest) (sym used_is)
        (pass_one own byte m (counts ∙ ap (max n) used_is) raw
        (found ∙ ap (λ (j : ℕ). some (record { channel = channel_of j; note = x.note })) lower))

-- ---- the end

module _ (by : GroupBy) (all : List PlanLine) (ok : Accepted all) (ordered : rising all ≡ all) where
  own_channel : (l : PlanLine) → T (member l.key (keys all)) → find by l.key [] all ≡ channel by all l.key
  own_channel l m =
      subst (λ (w : List PlanLine). find by l.key [] w ≡ channel by all l.key) ordered
      (find_channel by all ok l.key (subst (λ (w : List PlanLine). T (member l.key (keys w))) (sym ordered) m))

  -- where a key is, of its record
  module _ (records : List ℕ) (ds : List Float) (same : length records ≡ length ds) where
    abbrev rec : ℕ → KeyRecord
    rec k = get_or (key_records records ds) k no_key

    parts : (l : PlanLine) → place_of (get_or records l.key 0) ≡ some (place_in by all l) → ((rec l.key).channel ≡ channel_of (find by l.key [] all))
        × ((rec l.key).note ≡ l.note)
    parts l h =
        let q = place_parts (get_or records l.key 0) (place_in by all l) h in
        let e = key_records_at records ds l.key same in
        (ap (λ (r : KeyRecord). r.channel) e ∙ q.0, ap (λ (r : KeyRecord). r.note) e ∙ q.1)

    channels_assigned : count by all ≤ 16 → (l : List PlanLine) → Each (λ (x : PlanLine). T (member x.key (keys all))) l
        → Each (λ (x : PlanLine). channel by all x.key < count by all) l
        → Each (λ (x : PlanLine). assignment by all x.key ≡ some (channel by all x.key, x.note)) l
        → Each (λ (x : PlanLine). place_of (get_or records x.key 0) ≡ some (place_in by all x)) l
        → Each (λ (x : PlanLine). assignment by all x.key ≡ some ((rec x.key).channel, x.note)) l
    channels_assigned few l m b h k =
        Each-zip {P = λ x. T (member x.key (keys all)) × (channel by all x.key < count by all)} (λ x n g. g n) l (Each-zip (λ x m b. (m, b)) l m b)
        (Each-zip {R = λ x. T (member x.key (keys all)) × (channel by all x.key < count by all) → assignment by all x.key ≡ some ((rec x.key).channel, x.note)}
        (λ x s g n. s ∙ ap (λ (c : ℕ). some (c, x.note)) (sym ((parts x g).0 ∙ ap channel_of (own_channel x n.0) ∙ mod-eq_of_lt (omega (arith, n.1))))) l h k)

    pub pass_ends : length records ≡ key_count → Each (λ (l : PlanLine). get_or ds l.key nan ≡ l.detuning) all → (kept : List Float) (runs : List Run) (n i : ℕ)
        → Pass by all kept records runs n i [] → Assignments by all (key_records records ds) n
    pass_ends long detuned kept runs n i p =
        let placed = rw (← p.whole) at (Each-onto (λ (l : PlanLine). place_of (get_or records l.key 0) ≡ some (place_in by all l)) p.done [] p.placed tt) in
        let counted = subst (λ (w : List PlanLine). top (numbers by [] w) ≡ count by all) ordered (one_pass_count by all ok) in
        let below = rising_Each (λ (l : PlanLine). channel by all l.key < count by all) all (below_count by all ok) in
        let n_is : n ≡ count by all = omega (arith, p.counted, counted) in
        record {
          count_is = n_is;
          channel_is = λ few. channels_assigned (omega (arith, n_is)) all (own_image (λ (l : PlanLine). l.key) all) below (lines_assigned by all ok) placed;
          note_is = Each-map (λ l e. (parts l e).1) all placed;
          detuning_is = Each-map (λ l e. ap (λ (r : KeyRecord). r.detuning) (key_records_at records ds l.key same) ∙ e) all detuned;
          no_other = λ k h. is_out k (p.out k
              (onto_Each (λ (l : PlanLine). eqb l.key k ≡ false) p.done [] (subst (Each (λ (l : PlanLine). eqb l.key k ≡ false)) p.whole h)) tt);
          long = length_key_records records ds same ∙ long;
        }
      where
        is_out : (k : ℕ) → is_note (note_of (get_or records k 0)) ≡ false → is_in (rec k) ≡ false
        is_out k e = unfold is_in in rw (key_records_at records ds k same) e

  -- ---- the beginning

  pub pass_begins : (ds : List Float) (records : List ℕ) (runs : List Run) → Each (λ (l : PlanLine). note_of (get_or records l.key 0) ≡ l.note) all
      → ((k : ℕ) → Each (λ (l : PlanLine). eqb l.key k ≡ false) all → is_note (note_of (get_or records k 0)) ≡ false)
      → ((k : ℕ) → (get_or runs k no_run).used ≡ 0)
      → length records ≡ key_count → length runs ≡ 801 → Pass by all ds records runs 0 0 all
  pass_begins ds records runs noted out none-used a b = record {
    done = [];
    reached = refl;
    whole = refl;
    table = λ g h. none-used (slot_of g);
    ahead = Each-all (λ (l : PlanLine). find by l.key [] all ≡ find by l.key [] all) (λ l. refl) all;
    placed = tt;
    noted = noted;
    out = λ k d h. out k h;
    counted = omega arith;
    fresh = tt;
    apart = distinct_apart all ok.distinct;
    records_long = a;
    runs_long = b;
  }

-- what the lines of keys say of their own records and detunings
pub own_lines : (records : List ℕ) (ds : List Float) (ks : List ℕ) → let all = map (line_at records ds) ks in
    Each (λ (l : PlanLine). note_of (get_or records l.key 0) ≡ l.note) all × Each (λ (l : PlanLine). get_or ds l.key nan ≡ l.detuning) all
own_lines records ds [] = (tt, tt)
own_lines records ds (k ∷ ks) = let r = own_lines records ds ks in ((refl, r.0), (refl, r.1))

-- ---- the lines from an index on
pub Each-map_drop : (P : PlanLine → Type 0) (f : ℕ → PlanLine) (l : List ℕ) (i : ℕ) → Each P (map f l) → Each P (map f (drop i l))
Each-map_drop P f l zero h = h
Each-map_drop P f [] (suc i) h = tt
Each-map_drop P f (k ∷ l) (suc i) h = Each-map_drop P f l i h.1
