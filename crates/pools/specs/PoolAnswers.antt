-- What the answers of pools are in the words of the rules, SPEC 7.
use Rattle.std.specs.Prelude.{ℤ, Float, List, Result, Some, None}
use Rattle.std.specs.Prelude.{Option as Optional}
use Rattle.std.proofs.Math.Option.{Option, some, none}
use Rattle.arithmetic.specs.declared.note.Note.{Note}
use Rattle.arithmetic.specs.declared.refusal.Refusal.{Refusal}
use Rattle.arithmetic.specs.Answers.{outcome_by}
use Rattle.arithmetic.specs.Outcome.{Outcome}
use Rattle.channels.specs.Places.{Place, place_in, place}
use Rattle.channels.specs.declared.keys.HeldKey.{HeldKey}
use Rattle.pools.specs.Pool.{Held, Press, accepted, rejected, Pressing, held_keys}
use Rattle.pools.specs.View.{view}
use Rattle.pools.specs.declared.jit.HeldKeys.{HeldKeys}
use Rattle.pools.specs.declared.jit.Registered.{Registered}
use Rattle.pools.specs.declared.jit.Pressing as C
use Rattle.pools.specs.declared.jit.Repitched.{Repitched}

abbrev pub held_view : HeldKey → Held
held_view h = record { key = h.key; place = place_in h.place }

-- SPEC 7.7: the held keys that an iterator has left.
abbrev pub remaining : HeldKeys → List Held
remaining it = held_keys (view it.model.now) it.from

unfoldable pub next_held : Optional HeldKey → Option Held
next_held (Some h) = some (held_view h)
next_held None = none

abbrev pub stopped_note : Optional Note → Option ℤ
stopped_note (Some note) = some note.number
stopped_note None = none

abbrev pub registered_view : Optional Registered → Press
registered_view (Some r) = accepted r.channel (stopped_note r.stopped_note) r.started_note.number r.detuning
registered_view None = rejected

abbrev pub pressing_view : C.Pressing → Pressing
pressing_view p = record { released = place p.released; press = registered_view p.registered }

abbrev pub press_outcome : Result C.Pressing Refusal → Outcome Pressing
press_outcome r = outcome_by pressing_view r

abbrev pub repitched_view : Optional Repitched → Option (Place × Float)
repitched_view (Some r) = some (place_in r.place, r.detuning)
repitched_view None = none

abbrev pub repitch_outcome : Result (Optional Repitched) Refusal → Outcome (Option (Place × Float))
repitch_outcome r = outcome_by repitched_view r
