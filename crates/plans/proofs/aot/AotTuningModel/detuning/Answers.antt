-- `AotTuningModel::detuning` meets its contract: channels beyond the plan's have no entry.
use Rattle.std.proofs.Common.{rules, ◌≡◌, ℕ, ◌+◌, ◌<◌, List, ◌++◌, ◌∷◌, [], length, get_or, take, true, false, Some, sym, ap, ◌∙◌, arith}
use Rattle.std.proofs.lemmas.List.{length_push, take_all, get_or-map}
use Rattle.std.proofs.lemmas.Slice.Zip.{zip_turn, zip_end}
use Rattle.std.specs.Option.{option_eq}
use Rattle.std.specs.Ordering.{int_eq}
use mir.Syntax.{w32}
use mir.Val.{to_z, of_z}
use mir.Facts.{to_z-of_z}
use borrow.Author.Tests.{lt-ltb}
use lib.Ieee.{Float, nan, binary64, of_bits}
use lib.ListN.{length-map}
use lib.IntN.{ℤ}
use Rattle.plans.specs.PlanNumbers.{detuning_of, floats}
use Rattle.plans.specs.Plan.{counts, detuning_in, highest, view, key_record, records_in}
use Rattle.plans.specs.PlanInternal.{raised}
use Rattle.plans.proofs.Model.Records.{counts_up, same_group, other_group}
use Rattle.plans.proofs.Model.Views.{records_count}
use Rattle.plans.proofs.Model.Largest.{largest_counted, largest_left}
use Rattle.plans.proofs.aot.AotTuningModel.detuning.Goals as goal
use Rattle.plans.proofs.aot.AotTuningModel.detuning.Goals.{In-Some}

-- ---- in a turn
module _ (c : In-Some) where
  abbrev records : List ℕ
  records = c.args.self.now.records

  abbrev bits : List ℕ
  bits = c.args.self.now.detunings

  abbrev ds : List Float
  ds = floats bits

  abbrev n : ℕ
  n = length c.loop-raw.yielded

  abbrev raw : ℕ
  raw = c.in-Some.field-0-0.now

  abbrev d : Float
  d = of_bits binary64 c.in-Some.field-0-1.now

  abbrev g : ℤ
  g = to_z w32 (of_z w32 c.args.group)

  pair_at : (n < length records) × (n < length bits) × ((x : ℕ) → raw ≡ get_or records n x) × ((x : ℕ) → c.in-Some.field-0-1.now ≡ get_or bits n x)
  pair_at =
      zip_turn records bits c.loop-raw.yielded c.into_iter-raw-iterator.result c.loop-raw.raw-iterator c.next.new.self c.next.result (search rules)
      (search rules)
      c.loop-raw.yielded_by (c.in-Some.field-0-0, c.in-Some.field-0-1) c.in-Some.is c.next.ensures.steps

  equally_long : length records ≡ length ds
  equally_long = omega (arith, length-map bits (of_bits binary64))

  within : n < length ds
  within = omega (arith, pair_at.1, length-map bits (of_bits binary64))

  detuning_at : d ≡ get_or ds n nan
  detuning_at = ap (of_bits binary64) (pair_at.3 0) ∙ sym (get_or-map (of_bits binary64) bits n 0 nan pair_at.1)

  largest_more : counts c.group_by-by.result c.args.channel g (key_record raw (detuning_of d)) ≡ true
      → raised (highest c.group_by-by.result c.args.channel g (take n (records_in records ds))) (detuning_of d)
      ≡ highest c.group_by-by.result c.args.channel g (take (n + 1) (records_in records ds))
  largest_more = largest_counted c.group_by-by.result c.args.channel g records ds n raw d equally_long within (pair_at.2 0) detuning_at

  largest_same : counts c.group_by-by.result c.args.channel g (key_record raw (detuning_of d)) ≡ false
      → highest c.group_by-by.result c.args.channel g (take n (records_in records ds))
      ≡ highest c.group_by-by.result c.args.channel g (take (n + 1) (records_in records ds))
  largest_same = largest_left c.group_by-by.result c.args.channel g records ds n raw d equally_long within (pair_at.2 0) detuning_at

  one_more_yielded : highest c.group_by-by.result c.args.channel g (take (n + 1) (records_in records ds))
      ≡ highest c.group_by-by.result c.args.channel g
      (take (length (c.loop-raw.yielded ++ ((c.in-Some.field-0-0, c.in-Some.field-0-1) ∷ []))) (records_in records ds))
  one_more_yielded =
      ap (λ (k : ℕ). highest c.group_by-by.result c.args.channel g (take k (records_in records ds)))
      (sym (length_push c.loop-raw.yielded (c.in-Some.field-0-0, c.in-Some.field-0-1)))

pub loop-raw-preserved-then-eq : goal.loop-raw-preserved-then-eq
loop-raw-preserved-then-eq c =
    let t = (goal.at.loop-raw-preserved-then-eq c).In-Some in
    let by = c.group_by-by.result in
    c.raised-largest.ensures
    ∙ (λ j. raised (c.loop-raw.invariant j) (c.detuning_of.ensures j))
    ∙ largest_more t
    (counts_up by c.args.channel (raw t) (detuning_of (d t)) (g t) (sym c.group_up_to.ensures ∙ same_group (g t) c.group_up_to.result c.if-eq.ensures))
    ∙ one_more_yielded t

pub loop-raw-preserved : goal.loop-raw-preserved
loop-raw-preserved c =
    let t = (goal.at.loop-raw-preserved c).In-Some in
    let by = c.group_by-by.result in
    c.loop-raw.invariant
    ∙ largest_same t
    (other_group (g t) by c.args.channel (raw t) (detuning_of (d t)) (c.if-eq.ensures ∙ ap (λ o. option_eq int_eq o (Some (g t))) c.group_up_to.ensures))
    ∙ one_more_yielded t

pub returns : goal.returns
unfolding view detuning_in
returns c =
    let a = c.args in
    let m = a.self.now in
    let ds = floats m.detunings in
    let rs = records_in m.records ds in
    let e : length m.records ≡ length ds = omega (arith, length-map m.detunings (of_bits binary64)) in
    let end = zip_end m.records m.detunings c.loop-raw.yielded c.into_iter-raw-iterator.result c.loop-raw.raw-iterator c.next.new.self c.next.result
    (search rules) (search rules) c.loop-raw.yielded_by c.in-None.is c.next.ensures.steps in
    let all = take_all (length c.loop-raw.yielded) rs (omega (arith, end, e, records_count m.records ds e)) in
    rw (lt-ltb a.channel m.num_channels c.if-self-channel.false)
    (c.loop-raw.invariant ∙ (λ j. highest (c.group_by-by.ensures j) a.channel (to_z-of_z c.ranges.group j) (all j)))
