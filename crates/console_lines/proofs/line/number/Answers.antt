-- `line::number`: what a byte more does to the digits and the number so far.
use Rattle.std.proofs.Common.{◌≡◌, ◌+◌, ◌*◌, true, false, get_or, drop, sym, ap, ◌∙◌, arith, rules}
use Rattle.std.proofs.lemmas.Bool.Decides.{nat_tests}
use Rattle.std.specs.Char.{is_ascii_digit}
use mathlib.Core.Bool.{and-false}
use Rattle.std.proofs.lemmas.List.{at_drop_all, at_drop_more}
use Rattle.std.proofs.Math.Option.{some}
use Rattle.console_lines.specs.Line.{number}
use Rattle.console_lines.specs.Grammar.{digits, decimal}
use Rattle.console_lines.proofs.Text.Lines.{number_some, decimal_below, few_digits}
use Rattle.console_lines.proofs.line.number.Goals as goal

pub returns-then-not-is_ascii_digit : goal.returns-then-not-is_ascii_digit
unfolding number digits
returns-then-not-is_ascii_digit c =
    let other : is_ascii_digit (get_or c.args.field.now c.loop-byte.byte-index 0) ≡ false = search (rules, nat_tests) in
    rw (c.loop-byte.invariant.digits_left ∙ at_drop_more digits c.args.field.now c.loop-byte.byte-index 0 (omega arith), other, and-false)

pub overflow_mul-number : goal.overflow_mul-number
overflow_mul-number c = omega (arith, few_digits c.loop-byte.number c.loop-byte.byte-index c.loop-byte.invariant.small (omega arith))

pub overflow_add-number : goal.overflow_add-number
overflow_add-number c = omega (arith, few_digits c.loop-byte.number c.loop-byte.byte-index c.loop-byte.invariant.small (omega arith))

pub loop-byte-preserved : goal.loop-byte-preserved
unfolding digits decimal
loop-byte-preserved c =
    let digit : is_ascii_digit (get_or c.args.field.now c.loop-byte.byte-index 0) ≡ true = search (rules, nat_tests) in
    let s = c.args.field.now in
    let i = c.loop-byte.byte-index in
    record {
      digits_left = c.loop-byte.invariant.digits_left ∙ at_drop_more digits s i 0 (omega arith) ∙ rw digit;
      value =
          c.loop-byte.invariant.value
          ∙ at_drop_more (decimal c.loop-byte.number) s i 0 (omega arith)
          ∙ ap (λ d. decimal (c.loop-byte.number * 10 + d) (drop (i + 1) s)) (sym c.from.ensures);
      small = decimal_below c.loop-byte.number i c.from.result c.loop-byte.invariant.small (omega (arith, c.if-not-is_ascii_digit.ensures.cases));
    }

pub returns : goal.returns
unfolding digits decimal
returns c =
    let s = c.args.field.now in
    let n = c.loop-byte.number in
    let d = at_drop_all digits s c.loop-byte.byte-index (omega arith) in
    let v = at_drop_all (decimal n) s c.loop-byte.byte-index (omega arith) in
    sym (number_some _ s (grind (arith, nat_tests)) (omega arith) (c.loop-byte.invariant.digits_left ∙ d) ∙ ap some (c.loop-byte.invariant.value ∙ v))
