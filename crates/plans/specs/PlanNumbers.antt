-- How the numbers of a plan model, which may lie in the memory of programs in C, are read, SPEC 12.1 and 12.2. Every content is some model: a detuning that is
-- no number is read as zero, and a group that names none as 0.
use Rattle.std.specs.Prelude.{ℕ, List, map, cond, eqb, Float, is_nan}
use Rattle.std.specs.Float.{binary64}
use Rattle.std.specs.Float.Ieee.{of_bits}
use Rattle.plans.specs.declared.aot.GroupBy.{GroupBy}
use Rattle.plans.specs.declared.aot.GroupBy.TheVariants.{Note, NoteLetter, Channel}

-- Floats of their bits.
abbrev pub floats : List ℕ → List Float
floats bits = map (of_bits binary64) bits

-- SPEC 12.1: a detuning that is no number is read as zero.
unfoldable pub detuning_of : Float → Float
detuning_of d = cond (is_nan d) (of_bits binary64 0) d

-- SPEC 12.2: 0 is notes, 1 letters, 2 channels.
unfoldable pub group_by_of : ℕ → GroupBy
group_by_of n = cond (eqb n 1) NoteLetter (cond (eqb n 2) Channel Note)
