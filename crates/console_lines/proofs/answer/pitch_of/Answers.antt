-- `answer::pitch_of`: 1000.0 is the whole number 1000.
use lib.Ieee.{of_bits, of_int}
use Rattle.console_lines.specs.Console.{pitch_of}
use Rattle.console_lines.proofs.answer.pitch_of.Goals as goal

pub returns : goal.returns
unfolding pitch_of of_bits of_int
returns c = c.from_hz.ensures
