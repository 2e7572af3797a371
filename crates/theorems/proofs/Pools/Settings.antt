-- A model keeps the channel list, the kind of group, the pooling mode and the retrigger setting that it was opened with, whatever is called.
use Prim.Native.Nat.{ℕ}
use mathlib.Core.Path.{◌≡◌, refl, ◌∙◌}
use mathlib.Core.List.{List}
use mathlib.Core.Option.{Option, some, none}
use lib.IntN.{ℤ}
use lib.Ieee.{Float}
use Rattle.pools.specs.declared.settings.PoolGroupBy.{PoolGroupBy}
use Rattle.pools.specs.declared.settings.PoolingMode.{PoolingMode}
use Rattle.pools.specs.declared.settings.Retrigger.{Retrigger}
use Rattle.pools.specs.declared.settings.PoolingMode.TheVariants.{Block, Stop, Ignore}
use Rattle.channels.specs.Lists.{first}
use Rattle.channels.specs.ChannelList.{list_rule, present}
use Rattle.channels.specs.Places.{Place}
use Rattle.pools.specs.Pool.{State, Held, pool, found, fresh, open_rule, with_pool, with_key, taken, freed, without_key, released, released_from, oldest, Reclaimed, reclaim_by_mode, reclaim_unless_free, reclaim, pressed_on, pressed}
use Rattle.theorems.specs.PoolCalls.{Call, run, reached}
use Rattle.theorems.proofs.Pools.Kept.{run_kept}

pub record SettingsKept (s t : State) : Type 0 where
  pub channels : t.channels ≡ s.channels
  pub group : t.group ≡ s.group
  pub mode : t.mode ≡ s.mode
  pub retrigger : t.retrigger ≡ s.retrigger

settings_same : (s : State) → SettingsKept s s
settings_same s = record { channels = refl; group = refl; mode = refl; retrigger = refl }

settings_trans : (s t u : State) → SettingsKept s t → SettingsKept t u → SettingsKept s u
settings_trans s t u a b =
    record {
      channels = b.channels ∙ a.channels;
      group = b.group ∙ a.group;
      mode = b.mode ∙ a.mode;
      retrigger = b.retrigger ∙ a.retrigger;
    }

freed_same : (s : State) (key : ℕ) (q : Place) → SettingsKept s (freed s key q)
unfolding freed with_pool
freed_same s key q = record { channels = refl; group = refl; mode = refl; retrigger = refl }

released_by : (p : Option Place) (s : State) (key : ℕ) → SettingsKept s (released_from p s key)
unfolding released_from freed without_key with_pool with_key
released_by (some p) s key = record { channels = refl; group = refl; mode = refl; retrigger = refl }
released_by none s key = settings_same s

pub released_same : (s : State) (key : ℕ) → SettingsKept s (released s key)
unfolding released
released_same s key = released_by (found s key) s key

reclaim_by_mode_same : (mode : PoolingMode) (s : State) (old : Option Held) → SettingsKept s (reclaim_by_mode mode s old).state
unfolding reclaim_by_mode
reclaim_by_mode_same Block s old = settings_same s
reclaim_by_mode_same Stop s none = settings_same s
reclaim_by_mode_same Stop s (some o) = released_same s o.key
reclaim_by_mode_same Ignore s none = settings_same s
reclaim_by_mode_same Ignore s (some o) = freed_same s o.key o.place

reclaim_unless_free_same : (c : Option ℕ) (s : State) (note : ℤ) → SettingsKept s (reclaim_unless_free c s note).state
unfolding reclaim_unless_free
reclaim_unless_free_same (some c) s note = settings_same s
reclaim_unless_free_same none s note = reclaim_by_mode_same s.mode s (oldest s note)

taken_same : (s : State) (key : ℕ) (note : ℤ) (c : ℕ) → SettingsKept s (taken s key note c)
unfolding taken with_pool with_key
taken_same s key note c = record { channels = refl; group = refl; mode = refl; retrigger = refl }

pressed_by : (c : Option ℕ) (r : Reclaimed) (s : State) (key : ℕ) (note : ℤ) (d : Float) → SettingsKept s r.state
    → SettingsKept s (pressed_on c r s key note d).1
unfolding pressed_on
pressed_by (some c) r s key note d h = settings_trans s r.state (taken r.state key note c) h (taken_same r.state key note c)
pressed_by none r s key note d h = settings_same s

pressed_same : (s : State) (key : ℕ) (note : ℤ) (d : Float) → SettingsKept s (pressed s key note d).1
unfolding pressed reclaim
pressed_same s key note d =
    pressed_by (first (pool (reclaim s note).state note).free) (reclaim s note) s key note d (reclaim_unless_free_same (first (pool s note).free) s note)

run_same : (s : State) (cs : List Call) → SettingsKept s (run s cs)
run_same s cs =
    run_kept (SettingsKept s)
    (λ t h key small e note d. settings_trans s t _ h (pressed_same t key note d))
    (λ t h key. settings_trans s t _ h (released_same t key)) s (settings_same s) cs

-- ---- a model that any calls have led to

module _ (channels : List ℕ) (group : PoolGroupBy) (mode : PoolingMode) (retrigger : Retrigger) (calls : List Call) where
  pub channels_kept : (reached channels group mode retrigger calls).channels ≡ present (list_rule channels)
  unfolding open_rule fresh
  channels_kept = (run_same (open_rule channels group mode retrigger).1 calls).channels

  pub group_kept : (reached channels group mode retrigger calls).group ≡ group
  unfolding open_rule fresh
  group_kept = (run_same (open_rule channels group mode retrigger).1 calls).group

  pub mode_kept : (reached channels group mode retrigger calls).mode ≡ mode
  unfolding open_rule fresh
  mode_kept = (run_same (open_rule channels group mode retrigger).1 calls).mode

  pub retrigger_kept : (reached channels group mode retrigger calls).retrigger ≡ retrigger
  unfolding open_rule fresh
  retrigger_kept = (run_same (open_rule channels group mode retrigger).1 calls).retrigger
