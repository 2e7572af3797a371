-- `JitTuningModel::release_for_press` meets its contract, by whether the key is held and what the model was opened with.
use Rattle.std.proofs.Common.{◌≡◌, ℕ, refl, sym, ap, ◌∙◌}
use Rattle.std.proofs.Math.Option.{some}
use Rattle.arithmetic.specs.Outcome.{value}
use Rattle.channels.specs.Places.{Place, place}
use Rattle.pools.specs.Pool.{found, freed, without_key, outcome_and_state}
use Rattle.pools.specs.PoolInternal.{held_place, held_by}
use Rattle.pools.specs.View.{view, state_with}
use Rattle.pools.proofs.Pools.Releases.{held_at_is, held_at_none}
use Rattle.pools.proofs.Pools.Presses.{release_rule_new, release_rule_off, release_rule_on}
use Rattle.pools.proofs.jit.JitTuningModel.release_for_press.Goals as goal
use Rattle.pools.proofs.jit.JitTuningModel.release_for_press.Goals.{In-Some}

module _ (c : In-Some) where
  abbrev p : Place
  p = held_place c.in-Some.held

  held : (c.in-Some.held.key ≡ c.args.key) × (found (view c.args.self.now) c.args.key ≡ some p)
  unfolding held_by
  held = held_at_is c.args.key _ (record { key = c.in-Some.held.key; place = p }) (sym c.in-Some.ensures)

pub returns-in_default-clause-answer : goal.returns-in_default-clause-answer
unfolding outcome_and_state held_by place
returns-in_default-clause-answer c =
    rw (release_rule_new (view c.args.self.now) c.args.key (held_at_none c.args.key _ (sym c.in_default.ensures))) refl

pub returns-in_default-clause-state : goal.returns-in_default-clause-state
unfolding held_by
returns-in_default-clause-state c =
    rw (release_rule_new (view c.args.self.now) c.args.key (held_at_none c.args.key _ (sym c.in_default.ensures))) refl

pub returns-in-Off-clause-answer : goal.returns-in-Off-clause-answer
unfolding outcome_and_state view state_with
returns-in-Off-clause-answer c =
    let i = (goal.at.returns-in-Off-clause-answer c).In-Some in
    rw (release_rule_off (view c.args.self.now) c.args.key (p i) (held i).1 (sym c.from.ensures ∙ c.in-Off.is)) refl

pub returns-in-Off-clause-state : goal.returns-in-Off-clause-state
unfolding view state_with
returns-in-Off-clause-state c =
    let i = (goal.at.returns-in-Off-clause-state c).In-Some in
    rw (release_rule_off (view c.args.self.now) c.args.key (p i) (held i).1 (sym c.from.ensures ∙ c.in-Off.is)) refl

pub returns-in-On-clause-answer : goal.returns-in-On-clause-answer
unfolding outcome_and_state place view state_with
returns-in-On-clause-answer c =
    let i = (goal.at.returns-in-On-clause-answer c).In-Some in
    rw (release_rule_on (view c.args.self.now) c.args.key (p i) (held i).1 (sym c.from.ensures ∙ c.in-On.is))
    (ap (λ (q : Place). value (some q)) c.place.ensures)

pub returns-in-On-clause-state : goal.returns-in-On-clause-state
unfolding view state_with
returns-in-On-clause-state c =
    let i = (goal.at.returns-in-On-clause-state c).In-Some in
    rw (release_rule_on (view c.args.self.now) c.args.key (p i) (held i).1 (sym c.from.ensures ∙ c.in-On.is))
    (c.release.ensures ∙ ap (λ (k : ℕ). without_key (freed (view c.args.self.now) k (p i)) k) (held i).0)
