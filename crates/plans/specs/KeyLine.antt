-- A line of the code in the words of the rules, SPEC 6.1a.
use Rattle.plans.specs.declared.lists.KeyTuning.{KeyTuning}
use Rattle.plans.specs.PlanLine.{PlanLine}

abbrev pub key_line : KeyTuning → PlanLine
key_line t = record { key = t.key; note = t.note.number; detuning = t.detuning }
