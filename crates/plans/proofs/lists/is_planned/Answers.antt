-- `lists::is_planned` meets its contract, by its two tests.
use lib.Ieee.{of_bits}
use Rattle.plans.specs.PlanLists.{is_planned}
use Rattle.plans.proofs.lists.is_planned.Goals as goal

pub returns-then-detuning : goal.returns-then-detuning
unfolding is_planned of_bits
returns-then-detuning c = rw c.if-detuning.true

pub returns-else-detuning : goal.returns-else-detuning
unfolding is_planned of_bits
returns-else-detuning c = rw c.if-detuning.false
