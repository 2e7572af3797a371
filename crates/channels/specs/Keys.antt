-- A key is a number from 0 to 255, SPEC 1.1.
use Rattle.std.specs.Prelude.{ℕ}

-- SPEC 1.1: how many there are, as `KEYS` of the code; the size of every table by keys follows from it.
abbrev pub key_count : ℕ
key_count = 256
