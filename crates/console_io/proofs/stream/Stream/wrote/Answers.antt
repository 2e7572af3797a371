-- `stream::Stream::wrote`: what the write took is no longer to be written.
use Rattle.std.proofs.Common.{ℕ, List, length, ap, ◌∙◌}
use Prim.Native.Nat.{min}
use Rattle.console_io.specs.Stream.{count}
use Rattle.console_io.proofs.Streams.{wrote_law}
use Rattle.console_io.proofs.stream.Stream.wrote.Goals as goal

pub returns : goal.returns
returns c piece =
    wrote_law c.args.self.now c.args.put c.min-taken.result piece c.args.out.now
    (c.min-taken.ensures
    ∙ ap (λ (k : ℕ). min k (length c.of.result.now)) c.unwrap_or.ensures
    ∙ ap (λ (l : List ℕ). min (count c.args.put) (length l)) c.of.ensures)
