-- `show::show_bytes`: a byte takes three places, and the last space becomes the feed.
use Rattle.std.proofs.Common.{refl, arith}
use Rattle.std.proofs.lemmas.Bool.Decides.{nat_tests}
use Rattle.senders.proofs.Tuners.Buffer.{ends_short}
use Rattle.console_lines.proofs.Text.Puts.{puts}
use Rattle.console_lines.proofs.Text.Shows.{spaced_more, spaced_all, bytes_line_nil, length_bytes_line}
use Rattle.console_lines.proofs.show.show_bytes.Goals as goal

pub returns-then-is_empty : goal.returns-then-is_empty
returns-then-is_empty c = rw (bytes_line_nil c.args.bytes.now (grind (arith, nat_tests))) c.send.ensures

pub returns-then-out-bytes : goal.returns-then-out-bytes
returns-then-out-bytes c = ends_short refl (omega (arith, length_bytes_line c.args.bytes.now (grind (arith, nat_tests))))

pub loop-byte-preserved : goal.loop-byte-preserved
loop-byte-preserved c =
    rw (c.copy_from_slice.ensures.after, c.hex_digit.ensures, c.hex_digit-in-loop-byte.ensures)
    (spaced_more _ c.loop-byte.invariant c.loop-byte-test.true (omega arith))

pub returns : goal.returns
returns c =
    let r = spaced_all c.loop-byte.invariant (omega arith) (grind (arith, nat_tests)) in
    puts r.1 (omega arith) r.0
