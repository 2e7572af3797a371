-- `console_io::run`: it has made turns from the start.
use lib.ListN.{length}
use Rattle.console_io.specs.Stream.{view}
use Rattle.console_io.specs.Bytes.{RanOver}
use Rattle.console_io.proofs.run.Given as goal

abbrev pub invariant-loop : goal.invariant-loop
invariant-loop g l =
    RanOver (length l.initial.piece) (g.R.Read.remaining l.initial.input) (g.R.Read.remaining l.input) (g.W.Write.contents l.initial.output)
    (g.W.Write.contents l.output) (view l.stream l.piece l.out)
