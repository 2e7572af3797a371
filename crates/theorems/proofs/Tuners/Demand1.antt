-- Every call of the tuners and of messages ends in its result, or in a number that it is allowed. A refused call alters neither the state nor one byte lent
-- to it: Refusals `refused_unchanged`.
use mathlib.Core.Path.{◌≡◌, refl, ap}
use mathlib.Core.Logic.{inl, inr}
use mathlib.Core.Bool.{true, ◌&&◌, or-true}
use mathlib.Core.List.{List, [], ◌∷◌, ◌++◌}
use Prim.Native.Nat.{ℕ}
use native.Mathlib.Omega.{arith}
use borrow.Author.Tests.{le-leb}
use lib.Dec.{T, eqb, leb}
use Rattle.channels.specs.Outcome.{Outcome, value, refused}
use Rattle.channels.specs.ChannelList.{list_rule}
use Rattle.plans.specs.PlanLine.{PlanLine}
use Rattle.channels.specs.Lists.{Each, member}
use Rattle.plans.specs.PlanLists.{note_lists, pitch_lists}
use Rattle.plans.specs.Plan as M
use Rattle.plans.specs.Plan.{Model, planned, open_rule}
use Rattle.pools.specs.Pool as Pools
use Rattle.pools.specs.declared.settings.Retrigger.{Retrigger}
use Rattle.pools.specs.declared.settings.Retrigger.TheVariants.{Off as RetriggerOff, On as RetriggerOn}
use Rattle.pools.specs.Pool.{found}
use Rattle.theorems.proofs.ChannelLists.{channel_list_numbers}
use lib.Ieee.Bits.{is_true}
use Rattle.channels.proofs.Lists.Laws.{or_cases}
use Rattle.channels.proofs.Lists.Pigeonhole.{member_self}
use Rattle.theorems.proofs.Plans.Refusals.{note_lists_numbers, pitch_lists_numbers, refused_unchanged}
use Rattle.senders.specs.Buffer.{check_room}
use Rattle.plan_tuner.specs.Aot as Plan
use Rattle.theorems.specs.Entries.{Entry, raw_message, channel_tuning, pool_start, pool_note_on, pool_note_off, pool_note_pitch, pool_note_attr, pool_global_attr, pool_stop, plan_start, plan_set_tuning, plan_set_tuning_of_pitches, plan_note_on, plan_note_off, plan_note_attr, plan_global_attr, plan_stop, press_allowed, allowed, Ends, Among}
use Rattle.senders.specs.declared.tuner.NoteMessage.TheVariants.{Off, On, Pressure}
use Rattle.theorems.proofs.Tuners.Refusals.{among_check_room, message_numbers, tuning_numbers, press_numbers, release_numbers, key_numbers, repitch_numbers, global_numbers, stop_numbers}

-- A number of a list is one of the longer list.
pub member_longer : (n : ℕ) (ns ms : List ℕ) → T (member n ns) → member n (ns ++ ms) ≡ true
member_longer n [] ms h = absurd h
member_longer n (m ∷ ns) ms h = elim (or_cases (eqb m n) (member n ns) h) [
  | inl e ↦ rw (is_true (eqb m n) e)
  | inr u ↦ rw (member_longer n ns ms u, or-true)
]

-- ---- starting: 6, 7

pub channel_list_among : (cs : List ℕ) → Among (6 ∷ 7 ∷ []) (list_rule cs)
channel_list_among cs = by (list_rule cs) refl
  where
    by : (o : Outcome (List ℕ)) → list_rule cs ≡ o → Among (6 ∷ 7 ∷ []) o
    by (value l) e = tt
    by (refused n) e = elim (channel_list_numbers cs n e) [ inl h ↦ ap (λ (k : ℕ). member k (6 ∷ 7 ∷ [])) h | inr h ↦ ap (λ (k : ℕ). member k (6 ∷ 7 ∷ [])) h ]

-- ---- a plan: what its lists refuse, then 10

plan_among :
    (ns : List ℕ) (t : Plan.Tuner) (o : Outcome (List PlanLine)) (room : ℕ) → ((n : ℕ) → o ≡ refused n → T (member n ns))
    → Among (ns ++ (10 ∷ [])) (check_room room (Plan.plan_effect t (planned t.plan o)))
plan_among ns t o room h =
    among_check_room (ns ++ (10 ∷ [])) room (Plan.plan_effect t (planned t.plan o)) (member_self 10 ns) (by (planned t.plan o) refl)
  where
    by : (r : Model × M.PlanAnswer) → planned t.plan o ≡ r → Among (ns ++ (10 ∷ [])) (Plan.plan_effect t r)
    by (m, M.tuned n) e = tt
    by (m, M.untuned n) e = tt
    by (m, M.refused n) e = member_longer n ns (10 ∷ []) (h n (refused_unchanged t.plan o n (ap (λ (x : Model × M.PlanAnswer). x.1) e)).0)

-- Every call, with whatever buffer: its result, or a number that it is allowed.
pub demand_1 : (c : Entry) (room : ℕ) → Ends (λ A o. Among {A = A} (allowed c) o) c room
unfolding open_rule Pools.open_rule
demand_1 (raw_message ch m) room = message_numbers ch m room
demand_1 (channel_tuning kind ch d) room = tuning_numbers kind ch d room
demand_1 (pool_start cs kind mode retrigger) room = channel_list_among cs
demand_1 (pool_note_on t key hz v) room = press_numbers t key hz v room
demand_1 (pool_note_off t key v) room = release_numbers t key v room
demand_1 (pool_note_pitch t key hz) room = repitch_numbers t key hz room
demand_1 (pool_note_attr t key p) room = key_numbers Pressure t.pool.channels p (found t.pool key) room
demand_1 (pool_global_attr t m) room = global_numbers t.tuning_kind t.pool.channels m room
demand_1 (pool_stop t) room = stop_numbers t room
demand_1 (plan_start cs kind) room = channel_list_among cs
demand_1 (plan_set_tuning t ks ns ds) room = plan_among (12 ∷ 4 ∷ 3 ∷ 5 ∷ []) t (note_lists ks ns ds) room (note_lists_numbers ks ns ds)
demand_1 (plan_set_tuning_of_pitches t ks hzs) room = plan_among (12 ∷ 1 ∷ 5 ∷ []) t (pitch_lists ks hzs) room (pitch_lists_numbers ks hzs)
demand_1 (plan_note_on t key v) room = key_numbers On t.plan.channels v (Plan.found t key) room
demand_1 (plan_note_off t key v) room = key_numbers Off t.plan.channels v (Plan.found t key) room
demand_1 (plan_note_attr t key p) room = key_numbers Pressure t.plan.channels p (Plan.found t key) room
demand_1 (plan_global_attr t m) room = global_numbers t.tuning_kind t.plan.channels m room
demand_1 (plan_stop t) room = rw (le-leb 0 room (omega arith)) tt

press_known : (r : Retrigger) → Each (λ (n : ℕ). leb 1 n && leb n 13 ≡ true) (press_allowed r)
press_known RetriggerOff = (refl, (refl, (refl, (refl, tt))))
press_known RetriggerOn = (refl, (refl, (refl, tt)))

-- The numbers are those of refusals, from 1 to 13.
pub numbers_known : (c : Entry) → Each (λ (n : ℕ). leb 1 n && leb n 13 ≡ true) (allowed c)
numbers_known (raw_message ch m) = (refl, (refl, (refl, (refl, tt))))
numbers_known (channel_tuning kind ch d) = (refl, (refl, (refl, tt)))
numbers_known (pool_start cs kind mode retrigger) = (refl, (refl, tt))
numbers_known (pool_note_on t key hz v) = press_known t.pool.retrigger
numbers_known (pool_note_off t key v) = (refl, (refl, tt))
numbers_known (pool_note_pitch t key hz) = (refl, (refl, tt))
numbers_known (pool_note_attr t key p) = (refl, (refl, tt))
numbers_known (pool_global_attr t m) = (refl, (refl, (refl, tt)))
numbers_known (pool_stop t) = (refl, tt)
numbers_known (plan_start cs kind) = (refl, (refl, tt))
numbers_known (plan_set_tuning t ks ns ds) = (refl, (refl, (refl, (refl, (refl, tt)))))
numbers_known (plan_set_tuning_of_pitches t ks hzs) = (refl, (refl, (refl, (refl, tt))))
numbers_known (plan_note_on t key v) = (refl, (refl, tt))
numbers_known (plan_note_off t key v) = (refl, (refl, tt))
numbers_known (plan_note_attr t key p) = (refl, (refl, tt))
numbers_known (plan_global_attr t m) = (refl, (refl, (refl, tt)))
numbers_known (plan_stop t) = tt
