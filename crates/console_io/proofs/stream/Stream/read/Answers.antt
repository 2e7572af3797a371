-- `stream::Stream::read`: a read ended the input or brought bytes.
use Rattle.std.proofs.Common.{length, ap, arith}
use Rattle.std.proofs.lemmas.Bool.Decides.{nat_tests}
use Rattle.console_io.proofs.Streams.{read_some, read_none}
use Rattle.console_io.proofs.stream.Stream.read.Goals as goal

pub returns-then-is_empty : goal.returns-then-is_empty
returns-then-is_empty c =
    let size = ap length c.of.ensures in
    read_none c.args.self.now c.args.got c.in-Some.n c.first-brought.result c.args.piece.now c.in-Some.is c.first-brought.ensures
    c.end.new.self c.args.out.now c.end.new.out (grind (arith, nat_tests)) (c.end.ensures c.args.piece.now)

pub returns-else-is_empty : goal.returns-else-is_empty
returns-else-is_empty c =
    let size = ap length c.of.ensures in
    read_some c.args.self.now c.args.got c.in-Some.n c.first-brought.result c.args.piece.now c.in-Some.is c.first-brought.ensures c.args.out.now
    (λ none. grind (arith, nat_tests))
