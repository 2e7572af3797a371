-- `tuning::within` meets its contract: the table has the twelve boundaries, which antt computes.
use mathlib.Core.Path.{◌≡◌, refl, ◌∙◌}
use borrow.Author.Rules.{rules}
use borrow.Author.Tests.{tests}
use lib.Dec.{T}
use Prim.Native.Nat.{ℕ, ◌^◌, ◌<◌}
use native.Mathlib.Omega.{arith}
use Rattle.std.specs.List.{sum_by}
use Rattle.std.proofs.lemmas.Iterator.{YieldsList-from_slice, YieldsList-from_map}
use Rattle.std.proofs.lemmas.Iterator.Consumers.{sum_by_from_yields_List, fits_by_from_yields_list}
use Rattle.arithmetic.specs.Measure.{square, digit, next, digits}
use Rattle.arithmetic.specs.Internal.{within, boundary, come_to}
use Rattle.arithmetic.specs.declared.tuning.TheConstants.{BOUNDARIES}
use Rattle.arithmetic.proofs.Numbers.Tables.{all_below}
use Rattle.arithmetic.proofs.Notes.Boundaries.{all_counted, within_small}
use Rattle.arithmetic.proofs.tuning.within.Goals as goal

table-passes : T (all_below (boundary BOUNDARIES) 12)
unfolding within digits digit next square
table-passes = tt

counted : (y : ℕ) → y < 2 ^ 32 → sum_by (come_to y) BOUNDARIES ≡ within y
counted y h = all_counted BOUNDARIES refl table-passes y h

pub returns : goal.returns
returns c =
    sum_by_from_yields_List (come_to c.args.first) BOUNDARIES c.map.result _ c.sum.ensures.ran
    (YieldsList-from_map _ (come_to c.args.first) (YieldsList-from_slice BOUNDARIES (cc)) c.map.ensures.closure (λ x r q k. search (rules, tests)))
    ∙ counted c.args.first c.requires

pub sum-requires-clause-fits : goal.sum-requires-clause-fits
sum-requires-clause-fits c =
    fits_by_from_yields_list (come_to c.args.first) BOUNDARIES c.map.result _
    (YieldsList-from_map _ (come_to c.args.first) (YieldsList-from_slice BOUNDARIES (cc)) c.map.ensures.closure (λ x r q k. search (rules, tests)))
    (omega (arith, counted c.args.first c.requires, within_small c.args.first))
