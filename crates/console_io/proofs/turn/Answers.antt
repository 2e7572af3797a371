-- `console_io::turn`: it writes, answers, rests or reads.
use Rattle.std.proofs.Common.{length, rules, of_calls, arith, sym, ap, ◌∙◌}
use Rattle.std.proofs.lemmas.Bool.Decides.{nat_tests}
use Rattle.std.proofs.lemmas.List.{nil_from_length}
use Rattle.console_io.specs.Stream.{view}
use Rattle.console_io.proofs.Turns.{idle_from, unread_kept}
use Rattle.console_io.proofs.Bytes.{over_rests, over_writes, over_answers, over_reads, output_failed, input_failed}
use Rattle.console_io.proofs.turn.Goals as goal

pub returns-then-not-is_empty-clause-bytes : goal.returns-then-not-is_empty-clause-bytes
returns-then-not-is_empty-clause-bytes g c =
    over_writes c.write-put.result c.ok.ensures.value (rw (c.unwritten-unwritten.ensures c.args.piece.now) at c.write-put.ensures.bytes)
    (c.wrote.ensures c.args.piece.now)

pub returns-in_err-map_err-clause-bytes : goal.returns-in_err-map_err-clause-bytes
returns-in_err-map_err-clause-bytes g c =
    over_writes c.write-put.result c.ok.ensures.value (rw (c.unwritten-unwritten.ensures c.args.piece.now) at c.write-put.ensures.bytes)
    (c.wrote.ensures c.args.piece.now)

pub returns-in_err-map_err-clause-failed : goal.returns-in_err-map_err-clause-failed
returns-in_err-map_err-clause-failed g c =
    let size = ap length (c.unwritten-unwritten.ensures c.args.piece.now) in
    output_failed c.from_residual.result c.from_residual.ensures.1 c.write-put.result c.goes_on.ensures.err c.ok.ensures.value
    (view c.args.stream.now c.args.piece.now c.args.out.now) (search (rules, of_calls))
    (c.wrote.ensures c.args.piece.now) (grind (arith, nat_tests))

pub returns-then-not-is_empty-2-clause-bytes : goal.returns-then-not-is_empty-2-clause-bytes
returns-then-not-is_empty-2-clause-bytes g c =
    over_answers (length c.args.out.now) (sym (c.unwritten-unwritten.ensures c.args.piece.now) ∙ nil_from_length _ (grind (arith, nat_tests)))
    c.answer.ensures.state_is

pub returns-then-ended-clause-bytes : goal.returns-then-ended-clause-bytes
returns-then-ended-clause-bytes g c = over_rests

pub returns-then-ended-clause-all : goal.returns-then-ended-clause-all
returns-then-ended-clause-all g c =
    λ e.
    record {
      answered = sym (c.unanswered.ensures c.args.out.now) ∙ nil_from_length _ (grind (arith, nat_tests));
      written = sym (c.unwritten-unwritten.ensures c.args.piece.now) ∙ nil_from_length _ (grind (arith, nat_tests));
      ended = sym (c.has_ended-ended.ensures c.args.piece.now c.args.out.now) ∙ c.if-ended.true;
    }

pub returns-in_err-map_err-2-clause-bytes : goal.returns-in_err-map_err-2-clause-bytes
returns-in_err-map_err-2-clause-bytes g c =
    let still = idle_from (view c.args.stream.now c.args.piece.now c.args.out.now) (c.unwritten-unwritten.ensures c.args.piece.now)
    (c.unanswered.ensures c.args.out.now) (c.has_ended-ended.ensures c.args.piece.now c.args.out.now) (grind (arith, nat_tests))
    (grind (arith, nat_tests)) c.if-ended.false in
    over_reads c.args.stream.now c.args.piece.now c.read-got.new.buf c.args.out.now (length c.args.out.now) c.read-got.result c.ok-2.ensures.value
    c.read-got.auto.buf still c.read-got.ensures.bound c.read-got.ensures.bytes c.read.ensures.state_is

pub returns-in_err-map_err-2-clause-failed : goal.returns-in_err-map_err-2-clause-failed
returns-in_err-map_err-2-clause-failed g c =
    let still = idle_from (view c.args.stream.now c.args.piece.now c.args.out.now) (c.unwritten-unwritten.ensures c.args.piece.now)
    (c.unanswered.ensures c.args.out.now) (c.has_ended-ended.ensures c.args.piece.now c.args.out.now) (grind (arith, nat_tests))
    (grind (arith, nat_tests)) c.if-ended.false in
    let kept = unread_kept c.args.stream.now c.args.piece.now c.read-got.new.buf c.args.out.now c.read-got.auto.buf still.answered in
    input_failed c.from_residual-in_err-map_err-2.result c.from_residual-in_err-map_err-2.ensures.1 c.read-got.result c.goes_on-2.ensures.err
    c.ok-2.ensures.value (length c.args.out.now) c.read-got.new.buf (search (rules, of_calls)) c.read.ensures.state_is (rw kept still)

pub returns-clause-bytes : goal.returns-clause-bytes
returns-clause-bytes g c =
    let still = idle_from (view c.args.stream.now c.args.piece.now c.args.out.now) (c.unwritten-unwritten.ensures c.args.piece.now)
    (c.unanswered.ensures c.args.out.now) (c.has_ended-ended.ensures c.args.piece.now c.args.out.now) (grind (arith, nat_tests))
    (grind (arith, nat_tests)) c.if-ended.false in
    over_reads c.args.stream.now c.args.piece.now c.read-got.new.buf c.args.out.now (length c.args.out.now) c.read-got.result c.ok-2.ensures.value
    c.read-got.auto.buf still c.read-got.ensures.bound c.read-got.ensures.bytes c.read.ensures.state_is
