-- `bits_of` meets its contract: the bits of an f64 are its own.
use mathlib.Core.Path.{ap, ◌∙◌}
use lib.Dec.{T}
use lib.Ieee.{binary64, fits, of_bits}
use lib.Ieee.Bits.{of_bits-to_bits}
use borrow.Author.Rules.{rules}
use Rattle.plans.proofs.aot.bits_of.Goals as goal

pub returns : goal.returns
returns c =
    let held : T (fits binary64 c.args.detuning) = search rules in
    ap (of_bits binary64) c.f64_to_bits_with_nan.ensures ∙ of_bits-to_bits binary64 c.args.detuning held
