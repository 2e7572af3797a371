-- `line::number`: the bytes so far are digits, and spell `number`.
use Rattle.std.proofs.Common.{◌≡◌, ◌^◌, ◌<◌, drop}
use Rattle.console_lines.specs.Grammar.{digits, decimal}
use Rattle.console_lines.proofs.line.number.Given as goal

abbrev pub invariant-loop-byte : goal.invariant-loop-byte
invariant-loop-byte l = record {
  digits_left : digits l.field ≡ digits (drop l.byte-index l.field);
  value : decimal 0 l.field ≡ decimal l.number (drop l.byte-index l.field);
  small : l.number < 10 ^ l.byte-index;
}
