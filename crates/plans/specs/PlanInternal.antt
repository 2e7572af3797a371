-- What the private functions of a plan yield. No public contract cites it.
use Rattle.std.specs.Prelude.{◌≡◌, true, false, cond, ◌&&◌, List, [], ◌∷◌, map, ℕ, zero, suc, ◌+◌, ◌-◌, ◌<◌, ◌≤◌, T, eqb, leb, ℤ, pos, negsuc, length, get_or, Float, Result, Ok, Err}
use Rattle.std.specs.Prelude.{Option as Optional, Some, None, ◌/◌, insert, filter, All, Contains, ◌≤ℤ◌}
use Rattle.std.specs.List.{filter_map}
use Rattle.std.proofs.Math.Option.{Option, none, some}
use Rattle.std.specs.Int.Signed.{le_z}
use Rattle.std.specs.Float.{nan, binary64}
use Rattle.std.specs.Float.Ieee.{fits, le, lt}
use Rattle.std.specs.Float.Ieee.Positive.{positive}
use Rattle.arithmetic.specs.Outcome.{Outcome, value, refused}
use Rattle.arithmetic.specs.Note.{is_note}
use Rattle.arithmetic.specs.declared.refusal.Refusal.{Refusal}
use Rattle.arithmetic.specs.Refusal.{number}
use Rattle.plans.specs.declared.aot.GroupBy.{GroupBy}
use Rattle.plans.specs.declared.sorted_keys.SortedKeys.{SortedKeys}
use Rattle.channels.specs.Lists.{Each, member, Distinct}
use Rattle.plans.specs.PlanLine.{PlanLine, joins, rising, group, keys}
use Rattle.plans.specs.Walk.{count, assignment}
use Rattle.channels.specs.Places.{is_held, note_of, channel_of, place_of}
use Rattle.plans.specs.Plan.{KeyRecord, no_key, is_in}
use Rattle.plans.specs.PlanLists.{key_count, line_by_line}

-- SPEC 6.1b: what a list is that meets no refusal. Its keys are distinct bytes, its notes are notes, its detunings are f64s, finite and above zero.
pub record Accepted (lines : List PlanLine) : Type 0 where
  pub distinct : Distinct (keys lines)
  pub bytes : Each (λ (l : PlanLine). l.key < key_count) lines
  pub notes : Each (λ (l : PlanLine). is_note l.note ≡ true) lines
  pub detunings : Each (λ (l : PlanLine). T (positive l.detuning)) lines
  pub fitting : Each (λ (l : PlanLine). T (fits binary64 l.detuning)) lines

-- The lines of a list that is not refused are accepted.
abbrev pub Fine : Outcome (List PlanLine) → Type 0
Fine (value lines) = Accepted lines
Fine (refused n) = Unit {0}

-- ---- SPEC 6.3: the keys in order

-- A key's line, of the records and the detunings by key.
abbrev pub line_at : List ℕ → List Float → ℕ → PlanLine
line_at records ds k = record { key = k; note = note_of (get_or records k 0); detuning = get_or ds k nan }

-- The lines of the keys in order.
unfoldable pub lines_of : SortedKeys → List PlanLine
lines_of s = map (line_at s.records s.detunings) s.order.items

-- Each table has a place for each key.
pub record Long (s : SortedKeys) : Type 0 where
  pub records : length s.records ≡ key_count
  pub detunings : length s.detunings ≡ key_count

-- The keys are those of these lines, in order, and no other key has a note.
pub record Holds (s : SortedKeys) (lines : List PlanLine) : Type 0 where
  pub ordered : lines_of s ≡ rising lines
  pub marked : (k : ℕ) → is_held (place_of (get_or s.records k 0)) ≡ member k (keys lines)
  pub long : Long s

-- What the check of a plan's lists answers: the keys in order, or the refusal.
abbrev pub Checked : Outcome (List PlanLine) → Result SortedKeys Refusal → Type 0
Checked (value lines) (Ok s) = Accepted lines × Holds s lines
Checked (value lines) (Err r) = ⊥
Checked (refused n) (Ok s) = ⊥
Checked (refused n) (Err r) = n ≡ number r

-- Some lines were accepted, and are held.
abbrev pub Filled : SortedKeys → Type 0
Filled s = (lines : List PlanLine) × Accepted lines × Holds s lines

-- The check of one line more.
abbrev pub Adds : PlanLine → Result (Unit {0}) Refusal → SortedKeys → SortedKeys → Type 0
Adds x (Ok u) s t = (lines : List PlanLine) → Accepted lines → Holds s lines → Checked (line_by_line lines (value x ∷ [])) (Ok t)
Adds x (Err r) s t = (lines : List PlanLine) → Accepted lines → Holds s lines → Checked (line_by_line lines (value x ∷ [])) (Err r)

-- The detunings of these keys are above zero and rise.
abbrev pub Rises : List Float → List ℕ → Type 0
Rises ds [] = Unit {0}
Rises ds (k ∷ ks) = T (positive (get_or ds k nan)) × Each (λ (j : ℕ). T (le (get_or ds k nan) (get_or ds j nan))) ks × Rises ds ks

-- How many of the keys stand before the first whose detuning is not at most d: one above d, or a NaN, which never stands there.
unfoldable pub before : List Float → Float → List ℕ → ℕ
before ds d [] = zero
before ds d (k ∷ ks) = let r = before ds d ks in cond (le (get_or ds k nan) d) (suc r) zero

abbrev pub before_in : SortedKeys → Float → ℕ
before_in s d = before s.detunings d s.order.items

-- The keys, and one more with the detuning d at its place.
abbrev pub put_in : List Float → Float → ℕ → List ℕ → List ℕ
put_in ds d k ks = insert ks (before ds d ks) k

-- ---- the pass

-- A group's place in a table of all groups, from -300 on.
unfoldable pub slot_of : ℤ → ℕ
slot_of (pos n) = n + 300
slot_of (negsuc n) = 299 - n

-- How many channels a group uses with one key more.
unfoldable pub channels_with : ℕ → Float → Float → ℕ
channels_with zero before d = 1
channels_with (suc n) before d = cond (joins before d) (suc n) (suc (suc n))

-- The records have each key of the list where the walk assigns it, if the channels are no more than sixteen, and no other key; the count is the walk's.
pub record Assignments (by : GroupBy) (lines : List PlanLine) (rs : List KeyRecord) (n : ℕ) : Type 0 where
  pub count_is : n ≡ count by lines
  pub channel_is : n ≤ 16 → Each (λ (l : PlanLine). assignment by lines l.key ≡ some ((get_or rs l.key no_key).channel, l.note)) lines
  pub note_is : Each (λ (l : PlanLine). (get_or rs l.key no_key).note ≡ l.note) lines
  pub detuning_is : Each (λ (l : PlanLine). (get_or rs l.key no_key).detuning ≡ l.detuning) lines
  pub no_other : (k : ℕ) → Each (λ (l : PlanLine). eqb l.key k ≡ false) lines → is_in (get_or rs k no_key) ≡ false
  pub long : length rs ≡ key_count

-- ---- the scans

-- The larger of the largest so far, if there is one, and one more; of two that are equal the new one.
abbrev pub raised : Option Float → Float → Option Float
raised none d = some d
raised (some other) d = cond (lt d other) (some other) (some d)

-- The group of a key up to channel c, by its record.
unfoldable pub group_up_to : GroupBy → ℕ → ℕ → Optional ℤ
group_up_to by c raw = cond (leb (channel_of (raw / 1024)) c && is_note (note_of raw)) (Some (group by (note_of raw))) None

-- The groups of these records up to channel c that are not below `from`.
abbrev pub groups_from : GroupBy → ℕ → ℤ → List ℕ → List ℤ
groups_from by c from records = filter (le_z from) (filter_map (group_up_to by c) records)

-- The group g is the least of these, if there is one.
abbrev pub IsLeast : List ℤ → Optional ℤ → Type 0
IsLeast gs None = gs ≡ []
IsLeast gs (Some g) = Contains gs g × All (λ h. g ≤ℤ h) gs
