-- Laws of a pool model's state in memory: what a change of a pool or of a key's record does to the state.
use Rattle.std.proofs.Common.{◌≡◌, ℕ, ◌<◌, ◌≤◌, map, length, get_or, set, ℤ, true, sym, ap, ◌∙◌, arith}
use Rattle.std.proofs.Math.ListN.{get_or-map, get_or-eq_default}
use Rattle.std.proofs.Math.Nat.{mod-eq_of_lt}
use Rattle.std.proofs.Math.Option.{some, none}
use Rattle.std.proofs.Math.Seq.{take-set-lt, get_or-take}
use Rattle.std.proofs.lemmas.List.{map-set, length-take, length-map, get_or-map as get_or-map'}
use Rattle.arithmetic.specs.Note.{is_note}
use Rattle.arithmetic.specs.Outcome.{Outcome, value, refused}
use Rattle.arithmetic.proofs.Notes.Bounds.{letter_below}
use Rattle.channels.specs.Places.{Place, channel_of, place_of, note_of}
use Rattle.channels.proofs.Records.{place_sound}
use Rattle.pools.specs.Pool.{Pool, State, pool_count, pool_of, pool, empty_pool, found, taken_in, freed_in, with_pool, with_key, taken, freed, without_key, outcome_and_state}
use Rattle.pools.specs.View.{pool_in, group_by_of, state_with, view, StateMeets}
use Rattle.pools.specs.declared.jit.JitTuningModel.{JitTuningModel}
use Rattle.pools.specs.declared.settings.PoolGroupBy.{PoolGroupBy}
use Rattle.pools.specs.declared.settings.PoolGroupBy.TheVariants.{NoteLetter, Channel}
use Rattle.pools.specs.declared.pool.Pool as C
use Rattle.pools.proofs.Pools.HeldKeys.{held_keys_found, held_keys_skip, held_keys_end}
use Rattle.pools.proofs.Pools.Releases.{stop_turn, released_keys}

pub key_changed : (m : JitTuningModel) (key n : ℕ) → view (record m { records = set m.records key n }) ≡ with_key (view m) key (place_of n)
unfolding view state_with with_key
key_changed m key n = rw (map-set place_of m.records key n)

pub pool_small : (g : PoolGroupBy) (z : ℤ) → pool_of g z < pool_count g
unfolding pool_of pool_count
pool_small NoteLetter z = letter_below z
pool_small Channel z = omega arith

pool_count_few : (g : PoolGroupBy) → pool_count g ≤ 12
unfolding pool_count
pool_count_few NoteLetter = omega arith
pool_count_few Channel = omega arith

module _ (m : JitTuningModel) where
  -- ---- a key's record

  pub key_forgotten : (key : ℕ) → view (record m { records = set m.records key 0 }) ≡ without_key (view m) key
  unfolding without_key place_of note_of
  key_forgotten key = key_changed m key 0

  -- a number past all records finds none, as 0 does
  pub key_here : (key : ℕ) → place_of (get_or m.records key 0) ≡ found (view m) key
  unfolding view state_with found place_of note_of
  key_here key = sym (get_or-map place_of m.records key 0)

  pub key_past : (key : ℕ) → length m.records ≤ key → found (view m) key ≡ none
  unfolding place_of note_of
  key_past key h = sym (key_here key) ∙ ap place_of (get_or-eq_default m.records 0 {n = key} h)

  -- a found key's channel is below 16, and its note is a note
  pub key_channel : (key : ℕ) (p : Place) → found (view m) key ≡ some p → channel_of p.channel ≡ p.channel
  key_channel key p e = mod-eq_of_lt (place_sound (get_or m.records key 0) p (key_here key ∙ e)).0

  pub found_note : (key : ℕ) (p : Place) → found (view m) key ≡ some p → is_note p.note ≡ true
  found_note key p e = (place_sound (get_or m.records key 0) p (key_here key ∙ e)).1

  pub keys_many : length (view m).keys ≡ length m.records
  unfolding view state_with
  keys_many = length-map m.records place_of

  -- ---- the pool of a note

  pub pool_there : (note : ℤ) → length m.pools ≡ 12 → pool_of (group_by_of m.group_by) note < length (view m).pools
  unfolding view state_with
  pool_there note e =
      let group = group_by_of m.group_by in
      omega (arith, pool_small group note, pool_count_few group, length-take (pool_count group) (map pool_in m.pools), length-map m.pools pool_in)

  module _ (note : ℤ) (i : ℕ) (at : i ≡ pool_of (group_by_of m.group_by) note) where
    pub pool_here : (d : C.Pool) → i < length m.pools → pool_in (get_or m.pools i d) ≡ pool (view m) note
    unfolding view state_with pool
    pool_here d h =
        let few = pool_small (group_by_of m.group_by) note in
        sym (get_or-map' pool_in m.pools i d empty_pool h)
        ∙ ap (λ k. get_or (map pool_in m.pools) k empty_pool) at
        ∙ sym (get_or-take (pool_count (group_by_of m.group_by)) (map pool_in m.pools) (pool_of (group_by_of m.group_by) note) empty_pool few)

    pub pool_changed : (p : C.Pool) → view (record m { pools = set m.pools i p }) ≡ with_pool (view m) note (pool_in p)
    unfolding view state_with with_pool
    pool_changed p =
        let group = group_by_of m.group_by in
        let j = pool_of group note in
        rw (at, map-set pool_in m.pools j p, take-set-lt (pool_count group) (map pool_in m.pools) j (pool_in p) (pool_small group note))

    -- ---- the steps of a press and of a release

    module _ (p d : C.Pool) (h : i < length m.pools) (key channel : ℕ) where
      pub view_freed : pool_in p ≡ freed_in (pool_in (get_or m.pools i d)) key channel
          → view (record m { pools = set m.pools i p }) ≡ freed (view m) key (record { channel = channel; note = note })
      unfolding freed
      view_freed e = pool_changed p ∙ ap (with_pool (view m) note) (e ∙ ap (λ (q : Pool). freed_in q key channel) (pool_here d h))

      pub view_taken : (n : ℕ) → pool_in p ≡ taken_in (pool_in (get_or m.pools i d)) key → place_of n ≡ some (record { channel = channel; note = note })
          → view (record m { pools = set m.pools i p; records = set m.records key n }) ≡ taken (view m) key note channel
      unfolding taken
      view_taken n e f =
          let kept : JitTuningModel = record m { pools = set m.pools i p } in
          key_changed kept key n
          ∙ ap (with_key (view kept) key) f
          ∙ ap (λ (s : State). with_key s key (some (record { channel = channel; note = note })))
          (pool_changed p ∙ ap (with_pool (view m) note) (e ∙ ap (λ (q : Pool). taken_in q key) (pool_here d h)))

-- a walk over the keys, and a release of each
pub ruleset next_keys = (held_keys_found, held_keys_skip, held_keys_end, key_here, keys_many)

pub ruleset stops = (held_keys_end, stop_turn, released_keys, keys_many)

-- ---- a call in place leads to the rule's state, also where it is refused

pub moves_state : {A : Type 0} (rule : Outcome (A × State)) (old new : JitTuningModel)
    → StateMeets rule old new → view new ≡ (outcome_and_state (view old) rule).1
unfolding outcome_and_state
moves_state (value r) old new h = h
moves_state (refused n) old new h = ap view h
