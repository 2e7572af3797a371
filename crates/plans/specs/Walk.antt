-- How a plan is made, SPEC 6.3 to 6.5: for each channel from 0 on a walk over the waiting keys. What each channel takes, how many channels that needs, where a
-- key then is, and the detuning entries of each channel.
use Rattle.std.specs.Prelude.{Bool, true, cond, List, [], ◌∷◌, ℕ, zero, suc, eqb, ℤ, length, Float}
use Rattle.std.proofs.Math.Option.{Option, none, some}
use Rattle.channels.specs.Lists.{member}
use Rattle.plans.specs.declared.aot.GroupBy.{GroupBy}
use Rattle.plans.specs.PlanLine.{PlanLine, keys, group, of_group, joins, rising}

-- SPEC 6.3a: the detuning that the group g has on a channel is that of the key of the group that was taken last. `taken` has the last one first.
unfoldable pub latest : GroupBy → ℤ → List PlanLine → Option Float
latest by g [] = none
latest by g (x ∷ taken) = let r = latest by g taken in cond (of_group by g x) (some x.detuning) r

-- SPEC 6.3a: a key is taken if its group has no detuning yet on this channel, or if its detuning joins that one.
unfoldable pub accepts : Option Float → Float → Bool
accepts none d = true
accepts (some before) d = joins before d

-- The channel takes the key.
unfoldable pub takes : GroupBy → List PlanLine → PlanLine → Bool
takes by taken x = accepts (latest by (group by x.note) taken) x.detuning

-- What the channel has taken after the key.
unfoldable pub next : GroupBy → List PlanLine → PlanLine → List PlanLine
next by taken x = cond (takes by taken x) (x ∷ taken) taken

-- SPEC 6.3a: one channel's walk over the waiting keys, by those that it takes, and by those that it leaves waiting.
unfoldable pub taken_keys : GroupBy → List PlanLine → List PlanLine → List PlanLine
taken_keys by taken [] = []
taken_keys by taken (x ∷ w) = let r = taken_keys by (next by taken x) w in cond (takes by taken x) (x ∷ r) r

unfoldable pub deferred_keys : GroupBy → List PlanLine → List PlanLine → List PlanLine
deferred_keys by taken [] = []
deferred_keys by taken (x ∷ w) = let r = deferred_keys by (next by taken x) w in cond (takes by taken x) r (x ∷ r)

-- SPEC 6.3, 6.3b: the keys of channel 0, of channel 1, and so on, until none waits; each channel begins with no group having a detuning. A channel takes at
-- least the first key that waits, so there are at most as many as keys.
unfoldable pub channels : GroupBy → ℕ → List PlanLine → List (List PlanLine)
channels by zero w = []
channels by (suc n) [] = []
channels by (suc n) (x ∷ w) = taken_keys by [] (x ∷ w) ∷ channels by n (deferred_keys by [] (x ∷ w))

-- SPEC 6.3: what each channel takes, of the keys in their order.
unfoldable pub walk : GroupBy → List PlanLine → List (List PlanLine)
walk by lines = channels by (length lines) (rising lines)

-- SPEC 6.4: the count is the number of channels that this takes.
unfoldable pub count : GroupBy → List PlanLine → ℕ
count by lines = length (walk by lines)

-- ---- SPEC 6.5: where a key is

-- The note of a key, if it is one of the lines'.
unfoldable pub note_of : ℕ → List PlanLine → Option ℤ
note_of k [] = none
note_of k (x ∷ l) = let r = note_of k l in cond (eqb x.key k) (some x.note) r

abbrev pub assigned : ℕ → Option ℤ → Option (ℕ × ℤ) → Option (ℕ × ℤ)
assigned c (some n) r = some (c, n)
assigned c none r = r

-- A key's channel and note, where the first of the channels is number c.
unfoldable pub assignment_from : ℕ → ℕ → List (List PlanLine) → Option (ℕ × ℤ)
assignment_from k c [] = none
assignment_from k c (t ∷ ts) = let r = assignment_from k (suc c) ts in assigned c (note_of k t) r

-- SPEC 6.5: the channel and the note of a key of the list.
unfoldable pub assignment : GroupBy → List PlanLine → ℕ → Option (ℕ × ℤ)
assignment by lines k = assignment_from k 0 (walk by lines)

-- The number of the first of these channels that takes the key, counted from 0; how many there are where none does.
unfoldable pub number_of : ℕ → List (List PlanLine) → ℕ
number_of k [] = 0
number_of k (t ∷ ts) = let n = number_of k ts in cond (member k (keys t)) 0 (suc n)

-- The walk as a placing (SPEC 6.6): the channel that takes the key.
unfoldable pub channel : GroupBy → List PlanLine → ℕ → ℕ
channel by lines k = number_of k (walk by lines)

-- ---- SPEC 6.5a: an entry carries over to later channels until it is replaced

-- The entry of the group g after a channel has taken these keys, one after the other.
unfoldable pub replaced : GroupBy → ℤ → Option Float → List PlanLine → Option Float
replaced by g e [] = e
replaced by g e (x ∷ t) = replaced by g (cond (of_group by g x) (some x.detuning) e) t

-- The entry of the group g on the channel that is number c among these, where e is carried over to the first.
unfoldable pub entry_from : GroupBy → ℤ → Option Float → List (List PlanLine) → ℕ → Option Float
entry_from by g e [] c = none
entry_from by g e (t ∷ ts) zero = replaced by g e t
entry_from by g e (t ∷ ts) (suc c) = entry_from by g (replaced by g e t) ts c

-- SPEC 6.5a: the detuning entry of a group on a channel.
unfoldable pub entry : GroupBy → List PlanLine → ℕ → ℤ → Option Float
entry by lines c g = entry_from by g none (walk by lines) c
