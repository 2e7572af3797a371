-- Pools of channels, SPEC 7: presses, releases, lookups, repitches and stop, over lists. A channel is a number from 0, which stands for
-- that entry of the channel list (SPEC 1.6a); a key is a number below `key_count`; a note is a whole number.
use Rattle.std.specs.Prelude.{ℕ, suc, not, cond, List, [], ◌∷◌, ◌++◌, ℤ, Float, length, take, drop, get_or, set, replicate, Bool, true, false, ◌||◌}
use Rattle.std.proofs.Math.Option.{Option, some, none}
use Rattle.arithmetic.specs.Refusal.{pitch_out_of_range, key_held}
use Rattle.arithmetic.specs.Outcome.{Outcome, value, refused, refuse◌unless◌then◌}
use Rattle.arithmetic.specs.Note.{letter_of}
use Rattle.arithmetic.specs.Pitch.{is_pitch, detuning_of}
use Rattle.arithmetic.specs.Nearest.{nearest_note}
pub use Rattle.channels.specs.Keys.{key_count}
use Rattle.channels.specs.Places.{Place, is_held}
use Rattle.channels.specs.Lists.{member, without, upward, first}
use Rattle.channels.specs.ChannelList.{list_rule, present}
use Rattle.pools.specs.declared.settings.PoolGroupBy.{PoolGroupBy}
use Rattle.pools.specs.declared.settings.PoolGroupBy.TheVariants.{NoteLetter, Channel}
use Rattle.pools.specs.declared.settings.PoolingMode.{PoolingMode}
use Rattle.pools.specs.declared.settings.PoolingMode.TheVariants.{Block, Stop, Ignore}
use Rattle.pools.specs.declared.settings.Retrigger.{Retrigger}
use Rattle.pools.specs.declared.settings.Retrigger.TheVariants.{Off, On}

-- ---- the state

-- SPEC 7.2c, 7.3b: the free channels, the next one first, and the keys that still have their channels, the longest held first.
pub record Pool : Type 0 where
  pub free : List ℕ
  pub order : List ℕ

-- SPEC 7.1: the state of a model. `keys` has the place of each key that is held, by rising key.
pub record State : Type 0 where
  pub channels : List ℕ
  pub group : PoolGroupBy
  pub mode : PoolingMode
  pub retrigger : Retrigger
  pub pools : List Pool
  pub keys : List (Option Place)

-- SPEC 7.1a: one pool for all notes, or one for each letter.
unfoldable pub pool_count : PoolGroupBy → ℕ
pool_count NoteLetter = 12
pool_count Channel = 1

unfoldable pub pool_of : PoolGroupBy → ℤ → ℕ
pool_of NoteLetter note = letter_of note
pool_of Channel note = 0

abbrev pub empty_pool : Pool
empty_pool = record { free = []; order = [] }

unfoldable pub pool : State → ℤ → Pool
pool s note = get_or s.pools (pool_of s.group note) empty_pool

-- SPEC 7.2: where a key is found; a key is held if it is found.
unfoldable pub found : State → ℕ → Option Place
found s key = get_or s.keys key none

-- SPEC 7.1b: a pool begins with its channels free, from 0 on.
abbrev pub fresh_pool : ℕ → Pool
fresh_pool n = record { free = upward 0 n; order = [] }

-- SPEC 7.1, 7.1b: each pool has as many channels as the channel list, and no key is held.
unfoldable pub fresh : List ℕ → PoolGroupBy → PoolingMode → Retrigger → State
fresh channels group mode retrigger =
    record {
      channels = channels;
      group = group;
      mode = mode;
      retrigger = retrigger;
      pools = replicate (pool_count group) (fresh_pool (length channels));
      keys = replicate key_count none;
    }

-- SPEC 7.1, 6.2a: a model is opened on a channel list, or without channels where the list is refused.
unfoldable pub open_rule : List ℕ → PoolGroupBy → PoolingMode → Retrigger → Outcome (List ℕ) × State
open_rule channels group mode retrigger = (list_rule channels, fresh (present (list_rule channels)) group mode retrigger)

-- ---- the changes of a state

-- The state with the pool of a note set anew.
unfoldable pub with_pool : State → ℤ → Pool → State
with_pool s note p =
    record {
      channels = s.channels;
      group = s.group;
      mode = s.mode;
      retrigger = s.retrigger;
      pools = set s.pools (pool_of s.group note) p;
      keys = s.keys;
    }

-- The state with the place of a key set anew.
unfoldable pub with_key : State → ℕ → Option Place → State
with_key s key place =
    record {
      channels = s.channels;
      group = s.group;
      mode = s.mode;
      retrigger = s.retrigger;
      pools = s.pools;
      keys = set s.keys key place;
    }

-- SPEC 7.1b: one more at the back of a list that never has more than sixteen, the number of MIDI channels.
unfoldable pub enqueue : List ℕ → ℕ → List ℕ
enqueue l x = take 16 (l ++ (x ∷ []))

-- SPEC 7.2c: a press takes the front, and the key is held on that channel from then on.
unfoldable pub taken_in : Pool → ℕ → Pool
taken_in p key = record { free = drop 1 p.free; order = enqueue p.order key }

unfoldable pub taken : State → ℕ → ℤ → ℕ → State
taken s key note channel = with_key (with_pool s note (taken_in (pool s note) key)) key (some (record { channel = channel; note = note }))

-- SPEC 7.4: a release puts the channel at the back, unless the key has lost it.
unfoldable pub freed_in : Pool → ℕ → ℕ → Pool
freed_in p key channel = cond (member key p.order) (record { free = enqueue p.free channel; order = without key p.order }) p

unfoldable pub freed : State → ℕ → Place → State
freed s key place = with_pool s place.note (freed_in (pool s place.note) key place.channel)

unfoldable pub without_key : State → ℕ → State
without_key s key = with_key s key none

-- ---- SPEC 7.4: a release; of a key that is not held it does nothing

unfoldable pub released_from : Option Place → State → ℕ → State
released_from (some p) s key = without_key (freed s key p) key
released_from none s key = s

unfoldable pub released : State → ℕ → State
released s key = released_from (found s key) s key

-- ---- SPEC 7.2, 7.3: a press of a key that is not held

-- A held key and where it is.
pub record Held : Type 0 where
  pub key : ℕ
  pub place : Place

unfoldable pub held_at : ℕ → Option Place → Option Held
held_at key (some p) = some (record { key = key; place = p })
held_at key none = none

-- SPEC 7.3b: the key that has held a channel of the note's pool longest, among those that still have theirs.
unfoldable pub oldest_of : State → Option ℕ → Option Held
oldest_of s (some key) = held_at key (found s key)
oldest_of s none = none

unfoldable pub oldest : State → ℤ → Option Held
oldest s note = oldest_of s (first (pool s note).order)

-- The state in which a press seeks its channel, and the note that was stopped for it.
pub record Reclaimed : Type 0 where
  pub state : State
  pub stopped : Option ℤ

abbrev pub reclaimed : State → Option ℤ → Reclaimed
reclaimed s note = record { state = s; stopped = note }

-- SPEC 7.3: if none is free, Block rejects. Stop releases the longest-held key that still has its channel, and names its note. Ignore frees that key's channel,
-- but the old key stays held, and its later release frees nothing.
unfoldable pub reclaim_by_mode : PoolingMode → State → Option Held → Reclaimed
reclaim_by_mode Block s old = reclaimed s none
reclaim_by_mode Stop s none = reclaimed s none
reclaim_by_mode Stop s (some old) = reclaimed (released s old.key) (some old.place.note)
reclaim_by_mode Ignore s none = reclaimed s none
reclaim_by_mode Ignore s (some old) = reclaimed (freed s old.key old.place) none

unfoldable pub reclaim_unless_free : Option ℕ → State → ℤ → Reclaimed
reclaim_unless_free (some channel) s note = reclaimed s none
reclaim_unless_free none s note = reclaim_by_mode s.mode s (oldest s note)

unfoldable pub reclaim : State → ℤ → Reclaimed
reclaim s note = reclaim_unless_free (first (pool s note).free) s note

-- SPEC 7.2c: what a press answers is its channel, the note stopped for it, its own note and that note's detuning; or that it is rejected.
pub data Press : Type 0 where
  accepted : (channel : ℕ) (stopped : Option ℤ) (started : ℤ) (detuning : Float) → Press
  rejected : Press

-- SPEC 7.2c, 7.3d: the press takes the front, where there is one now; else it is rejected, and the state stays.
unfoldable pub pressed_on : Option ℕ → Reclaimed → State → ℕ → ℤ → Float → Press × State
pressed_on (some channel) r s key note detuning = (accepted channel r.stopped note detuning, taken r.state key note channel)
pressed_on none r s key note detuning = (rejected, s)

unfoldable pub pressed : State → ℕ → ℤ → Float → Press × State
pressed s key note detuning = let r = reclaim s note in pressed_on (first (pool r.state note).free) r s key note detuning

-- ---- the rules of the calls

-- SPEC 7.2d: whether a held key may be pressed again.
unfoldable pub is_on : Retrigger → Bool
is_on On = true
is_on Off = false

-- SPEC 7.2d: what a press answers: where the key was held and released first, if it was, and then the press's own answer.
pub record Pressing : Type 0 where
  pub released : Option Place
  pub press : Press

-- SPEC 7.2d: the release of the key, which does nothing where it is not held, and then the press. A press that is rejected then leaves the release.
unfoldable pub repeated : State → ℕ → ℤ → Float → Pressing × State
repeated s key note detuning =
    let r = pressed (released s key) key note detuning in
    (record { released = found s key; press = r.0 }, r.1)

-- SPEC 7.2b, 7.2d: a press of a held key is refused (11) without retrigger, also where no channel is free.
unfoldable pub may_press : State → ℕ → Bool
may_press s key = is_on s.retrigger || not (is_held (found s key))

unfoldable pub unless_held : State → ℕ → ℤ → Float → Outcome (Pressing × State)
unless_held s key note detuning = refuse key_held unless may_press s key then value (repeated s key note detuning)

-- SPEC 7.2a: a press takes the nearest note of the pitch; it is refused by 1, then 11.
unfoldable pub register_rule : State → ℕ → Float → Outcome (Pressing × State)
register_rule s key hz = refuse pitch_out_of_range unless is_pitch hz then unless_held s key (nearest_note hz) (detuning_of hz (nearest_note hz))

-- SPEC 1.9a: a refusal leaves the state as it was.
unfoldable pub outcome_and_state : {A : Type 0} → State → Outcome (A × State) → Outcome A × State
outcome_and_state s (value r) = (value r.0, r.1)
outcome_and_state s (refused n) = (refused n, s)

-- SPEC 7.5: a repitch gives where the key is held, and the pitch's detuning for its note. It is refused by 1, also where the key is unknown.
unfoldable pub tuning : Float → Option Place → Option (Place × Float)
tuning hz (some p) = some (p, detuning_of hz p.note)
tuning hz none = none

unfoldable pub repitch_rule : State → ℕ → Float → Outcome (Option (Place × Float))
repitch_rule s key hz = refuse pitch_out_of_range unless is_pitch hz then value (tuning hz (found s key))

-- ---- SPEC 7.7: the held keys, by rising key

unfoldable pub held_from : ℕ → List (Option Place) → List Held
held_from key [] = []
held_from key (some p ∷ l) = record { key = key; place = p } ∷ held_from (suc key) l
held_from key (none ∷ l) = held_from (suc key) l

-- Those from a number on.
unfoldable pub held_keys : State → ℕ → List Held
held_keys s from = held_from from (drop from s.keys)

unfoldable pub released_all : State → List Held → State
released_all s [] = s
released_all s (h ∷ hs) = released_all (released s h.key) hs

-- SPEC 7.6: every held key is released, by rising key.
unfoldable pub stopped : State → State
stopped s = released_all s (held_keys s 0)
