-- A pool model as it lies in memory, and the state that it is, SPEC 12.1 and 12.2. Every content is some state: a queue's count that is too large counts as
-- sixteen, a channel is read by its remainder by 16, and a setting that names none is read as 0.
use Rattle.std.specs.Prelude.{ℕ, ◌≡◌, cond, List, map, eqb, ℤ, Float, take}
use Rattle.arithmetic.specs.Note.{is_note}
use Rattle.arithmetic.specs.Outcome.{Outcome, value, refused, refuse◌unless◌then◌}
use Rattle.arithmetic.specs.Refusal.{note_out_of_range}
use Rattle.channels.specs.Places.{channel_of, place_of}
use Rattle.pools.specs.Pool.{Pool, State, pool_count, Pressing, unless_held}
use Rattle.pools.specs.declared.settings.PoolGroupBy.{PoolGroupBy}
use Rattle.pools.specs.declared.settings.PoolGroupBy.TheVariants.{NoteLetter, Channel}
use Rattle.pools.specs.declared.settings.PoolingMode.{PoolingMode}
use Rattle.pools.specs.declared.settings.PoolingMode.TheVariants.{Block, Stop, Ignore}
use Rattle.pools.specs.declared.settings.Retrigger.{Retrigger}
use Rattle.pools.specs.declared.settings.Retrigger.TheVariants.{Off, On}
use Rattle.channels.specs.ChannelList.{entries}
use Rattle.pools.specs.declared.jit.JitTuningModel.{JitTuningModel}
use Rattle.pools.specs.declared.pool.Pool as C
use Rattle.pools.specs.declared.queue.Queue.{Queue}

-- ---- queues and pools

-- A count, then the items, the front first: all of them where the count is larger.
unfoldable pub queue_of : Queue → List ℕ
queue_of q = take q.count q.items

unfoldable pub pool_in : C.Pool → Pool
pool_in p = record { free = map channel_of (queue_of p.free); order = queue_of p.order }

-- ---- SPEC 12.2: the settings

-- SPEC 12.2: 0 is letters, 1 channels.
unfoldable pub group_by_of : ℕ → PoolGroupBy
group_by_of n = cond (eqb n 1) Channel NoteLetter

-- SPEC 12.2: 0 is Block, 1 Stop, 2 Ignore.
unfoldable pub pooling_mode_of : ℕ → PoolingMode
pooling_mode_of n = cond (eqb n 1) Stop (cond (eqb n 2) Ignore Block)

-- SPEC 12.2: retrigger, 0 off and 1 on.
unfoldable pub retrigger_of : ℕ → Retrigger
retrigger_of n = cond (eqb n 1) On Off

-- ---- the state

-- The state with a channel list and settings that may stand elsewhere.
unfoldable pub state_with : List ℕ → PoolGroupBy → PoolingMode → Retrigger → List C.Pool → List ℕ → State
state_with channels group mode retrigger pools records =
    record {
      channels = channels;
      group = group;
      mode = mode;
      retrigger = retrigger;
      pools = take (pool_count group) (map pool_in pools);
      keys = map place_of records;
    }

unfoldable pub view : JitTuningModel → State
view m = state_with (entries m.channels) (group_by_of m.group_by) (pooling_mode_of m.pooling_mode) (retrigger_of m.retrigger) m.pools m.records

-- ---- calls in place

-- SPEC 1.9a: a model after a call is in the state of the rule, and the very same where the call is refused.
abbrev pub StateMeets : {A : Type 0} → Outcome (A × State) → JitTuningModel → JitTuningModel → Type 0
StateMeets (value r) old new = view new ≡ r.1
StateMeets (refused n) old new = new ≡ old

-- SPEC 7.2a: a press for a note and a detuning, which is refused by 4, then 11.
unfoldable pub register_note_rule : State → ℕ → ℤ → Float → Outcome (Pressing × State)
register_note_rule s key note detuning = refuse note_out_of_range unless is_note note then unless_held s key note detuning
