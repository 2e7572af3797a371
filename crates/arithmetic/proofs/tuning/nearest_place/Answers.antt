-- `tuning::nearest_place` meets its contract: a pitch over 440 is positive and finite, so it has first digits; they write its measure.
use mathlib.Core.Path.{◌≡◌, sym, subst}
use native.Mathlib.Omega.{arith}
use lib.Dec.{T}
use lib.Ieee.{of_bits}
use Rattle.arithmetic.specs.Pitch.{is_pitch}
use Rattle.arithmetic.specs.Nearest.{over_a4}
use Rattle.arithmetic.proofs.Notes.Boundaries.{within_small}
use Rattle.arithmetic.proofs.Notes.Nearest.{has_digits, stands_at, nearest_is_note}
use Rattle.arithmetic.proofs.tuning.nearest_place.Goals as goal
use Rattle.arithmetic.proofs.tuning.nearest_place.Goals.{After-between_pitches-over_a4, Start}

pitched : (s : Start) → T (is_pitch s.args.pitch.hz)
pitched s = subst T (sym s.requires) tt

-- what is split is the pitch over 440
ratio : (c : After-between_pitches-over_a4) → c.between_pitches-over_a4.result.float_value ≡ over_a4 c.before.before.args.pitch.hz
unfolding over_a4 of_bits
ratio c = rw (sym c.before.from_hz.ensures) c.between_pitches-over_a4.ensures

pub unwrap-binary-requires : goal.unwrap-binary-requires
unwrap-binary-requires c =
    let a = goal.at.unwrap-binary-requires c in
    has_digits c.args.pitch.hz _ (pitched a.Start) (ratio a.After-between_pitches-over_a4) c.binary.result c.binary.ensures

pub returns : goal.returns
returns c =
    let a = goal.at.returns c in
    stands_at c.args.pitch.hz _ (pitched a.Start) (ratio a.After-between_pitches-over_a4) c.unwrap-binary.result _
    (rw c.unwrap-binary.ensures at c.binary.ensures) c.within-semitones.ensures

pub invariant_of-result : goal.invariant_of-result
invariant_of-result c =
    let a = goal.at.invariant_of-result c in
    let hz = c.args.pitch.hz in
    let e =
    stands_at hz _ (pitched a.Start) (ratio a.After-between_pitches-over_a4) c.unwrap-binary.result _
    (rw c.unwrap-binary.ensures at c.binary.ensures) c.within-semitones.ensures in
    record { is_note = rw e (nearest_is_note hz (pitched a.Start)); few = omega (arith, c.within-semitones.ensures, within_small) }
