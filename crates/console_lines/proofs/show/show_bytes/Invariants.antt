-- `show::show_bytes`: the bytes so far are shown at the buffer's start, each with a space behind it.
use Rattle.console_lines.proofs.Text.Shows.{Spaced}
use Rattle.console_lines.proofs.show.show_bytes.Given as goal

abbrev pub invariant-loop-byte : goal.invariant-loop-byte
invariant-loop-byte l = Spaced l.bytes l.initial.out l.byte-index l.end l.out
