-- `console_io::run`: a turn more.
use Rattle.std.specs.Prelude.{None}
use Rattle.console_io.proofs.Bytes.{ran_over, over_none, over_more}
use Rattle.console_io.proofs.run.Goals as goal

pub returns-then-out-lt-LONGEST_ANSWER-clause-ran : goal.returns-then-out-lt-LONGEST_ANSWER-clause-ran
returns-then-out-lt-LONGEST_ANSWER-clause-ran g c = ran_over (over_none {size = 0} {a = None} {b = None} (c.new-stream.ensures c.args.piece.now c.args.out.now))

pub returns-then-out-lt-LONGEST_ANSWER-clause-bytes : goal.returns-then-out-lt-LONGEST_ANSWER-clause-bytes
returns-then-out-lt-LONGEST_ANSWER-clause-bytes g c = over_none (c.new-stream.ensures c.args.piece.now c.args.out.now)

pub loop-init : goal.loop-init
loop-init g c = over_none (c.new-stream.ensures c.args.piece.now c.args.out.now)

pub returns-in-Ok-false-clause-ran : goal.returns-in-Ok-false-clause-ran
returns-in-Ok-false-clause-ran g c = ran_over (over_more c.loop.invariant (rw c.loop.auto.piece at c.turn.ensures.bytes))

pub returns-in-Ok-false-clause-bytes : goal.returns-in-Ok-false-clause-bytes
returns-in-Ok-false-clause-bytes g c = over_more c.loop.invariant (rw c.loop.auto.piece at c.turn.ensures.bytes)

pub returns-in-Err-clause-ran : goal.returns-in-Err-clause-ran
returns-in-Err-clause-ran g c = ran_over (over_more c.loop.invariant (rw c.loop.auto.piece at c.turn.ensures.bytes))

pub returns-in-Err-clause-bytes : goal.returns-in-Err-clause-bytes
returns-in-Err-clause-bytes g c = over_more c.loop.invariant (rw c.loop.auto.piece at c.turn.ensures.bytes)

pub loop-preserved : goal.loop-preserved
loop-preserved g c = over_more c.loop.invariant (rw c.loop.auto.piece at c.turn.ensures.bytes)
