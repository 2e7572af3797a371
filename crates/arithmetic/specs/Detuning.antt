-- Where the detunings lie that pitches and plans have: the largest pitch range over all note pitches, and 0.5 to 2, are within it.
use Rattle.std.specs.Prelude.{false, pos, negsuc, T, Float}
use Rattle.std.specs.Float.{fin}
use Rattle.std.specs.Float.Ieee.{le}

-- 2 ^ -65. (`fin false m e` is the f64 m * 2 ^ e.)
abbrev pub low_detuning : Float
low_detuning = fin false 1 (negsuc 64)

-- 2 ^ 63.
abbrev pub high_detuning : Float
high_detuning = fin false 1 (pos 63)

-- The f64 lies between them.
pub record Detuning (x : Float) : Type 0 where
  pub low : T (le low_detuning x)
  pub high : T (le x high_detuning)
