-- `JitTuningModel::allocate_key` meets its contract: the press is that of the nearest note.
use Rattle.std.proofs.Common.{◌≡◌, ℤ, Float, Some, None, MatchOption, false, refl, sym, ap, ◌∙◌, rules}
use Rattle.std.specs.Prelude.{Option as Optional, IsSomeAnd}
use Rattle.arithmetic.specs.Outcome.{value}
use Rattle.pools.specs.PoolAnswers.{registered_view}
use Rattle.pools.specs.PoolInternal.{press_of, press_and_state}
use Rattle.pools.specs.declared.jit.allocation.Allocation.{Allocation}
use Rattle.pools.specs.declared.jit.Registered.{Registered}
use Rattle.std.proofs.Math.Option.{Option, some, none}
use Rattle.channels.specs.Places.{Place, place, is_held}
use Rattle.pools.proofs.Models.Views.{key_here}
use Rattle.pools.specs.Pool.{State, Press, pressed, outcome_and_state}
use Rattle.pools.specs.View.{view}
use Rattle.pools.proofs.Pools.Presses.{register_found, unless_held_new}
use Rattle.pools.proofs.jit.JitTuningModel.allocate_key.Goals as goal

-- what `map` makes of an allocation, by what the closure does to it
map_registered : (a : Optional Allocation) (r : Optional Registered) (P : Allocation → Registered → Type 0) (note : ℤ) (d : Float)
    → MatchOption a (r ≡ None) (λ x. IsSomeAnd r (P x))
    → ((x : Allocation) (y : Registered) → P x y → registered_view (Some y) ≡ press_of (Some x) note d) → registered_view r ≡ press_of a note d
map_registered (Some x) (Some y) P note d h f = f x y h
map_registered (Some x) None P note d h f = absurd h
map_registered None r P note d h f = rw h

-- a key that is not held is not found
none_held : (o : Option Place) → false ≡ is_held o → o ≡ none
unfolding is_held
none_held (some p) e = absurd (cc)
none_held none e = refl

pub returns : goal.returns
unfolding outcome_and_state place
returns c =
    let nearest = c.in_ok-nearest.nearest in
    let s = view c.args.self.now in
    let d = nearest.detuning in
    let z = nearest.note.number in
    let new = none_held _ (c.if-is_found.ensures ∙ ap is_held (key_here c.args.self.now c.args.key)) in
    let allocated : pressed s c.args.key z d ≡ press_and_state s c.args.key z d c.channel_for-allocation.result =
    c.channel_for-allocation.ensures c.args.key d in
    rw (sym (register_found c.args.pitch.hz s c.args.key z d c.in_ok-nearest.ensures), unless_held_new s c.args.key z d new)
    (ap (λ (p : Press). value (record { released = none; press = p }))
    (map_registered c.channel_for-allocation.result c.map.result _ z d c.map.ensures.cases (λ x y h. search (rules, h))
    ∙ sym (ap (λ (r : Press × State). r.0) allocated)))
