-- `tuning::octave_pitch` meets its contract: the table has 440 * 2 ^ j at each place, which antt computes.
use mathlib.Core.Path.{◌≡◌, ap, ◌∙◌}
use Prim.Native.Nat.{ℕ}
use native.Mathlib.Omega.{arith}
use lib.IntN.{pos, nat_abs, ◌+ℤ◌}
use lib.ListN.{get_or}
use lib.Ieee.{nan, of_bits, odd}
use mir.Syntax.{w32}
use mir.Val.{to_z, of_z}
use Rattle.std.proofs.lemmas.Int.{ints}
use Rattle.arithmetic.specs.Pitch.{octave_pitch}
use Rattle.arithmetic.specs.declared.tuning.TheConstants.{OCTAVE_PITCHES}
use Rattle.arithmetic.proofs.Numbers.Tables.{tabulate_at}
use Rattle.arithmetic.proofs.Notes.Pitches.{octave_place, octave_at, octave_at_place}
use Rattle.arithmetic.proofs.tuning.octave_pitch.Goals as goal

pub returns : goal.returns
unfolding of_bits odd octave_pitch
returns c =
    let j = c.args.j in
    let n = nat_abs (j +ℤ pos 31) in
    let p = octave_place j c.requires.0 c.requires.1 in
    let e : to_z w32 (of_z w32 (to_z w32 (of_z w32 j) +ℤ pos 31)) ≡ pos n = omega (arith, ints, p.raised, p.small) in
    ap (λ (i : ℕ). get_or OCTAVE_PITCHES i nan) (ap nat_abs e) ∙ tabulate_at octave_at nan 67 n p.small ∙ octave_at_place j n p
