-- `show::show_refusal`: the digits of the number are those of its line.
use Rattle.std.proofs.Common.{arith}
use Rattle.console_lines.proofs.Text.Shows.{refusal_line_below_10, refusal_line_below_100, number_below_100}
use Rattle.console_lines.proofs.show.show_refusal.Goals as goal

pub returns-then-number-lt10 : goal.returns-then-number-lt10
returns-then-number-lt10 c = rw (← c.number-number.ensures, refusal_line_below_10 c.number-number.result c.if-number-lt10.true) c.send.ensures

pub returns : goal.returns
returns c =
    let number = c.number-number.result in
    rw (← c.number-number.ensures, refusal_line_below_100 number c.if-number-lt10.false (omega (arith, number_below_100 c.args.refusal))) c.send-2.ensures
