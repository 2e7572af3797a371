-- `tuning_value::tunings_of` meets its contract: the measure is refused, or it is small and its values are the answers.
use Rattle.std.proofs.Common.{◌≡◌, ℕ, ◌^◌, ◌<◌, T, ℤ, w64, to_z, of_z, ap, ◌∙◌, rules, arith}
use Rattle.std.proofs.lemmas.Int.{to_z-of_z}
use Rattle.std.proofs.lemmas.Result.{err_from_is_err_and}
use lib.Ieee.{binary64, fits}
use Rattle.std.specs.Int.Signed.{mag}
use mir.Syntax.{w16}
use Rattle.arithmetic.specs.Outcome.{value}
use Rattle.channels.specs.declared.tuning_value.TuningKind.TheVariants.{FineTuning, Bend}
use Rattle.channels.specs.declared.tuning_value.Tuning.TheVariants.{Fine, Bend as Bent}
use Rattle.channels.specs.TuningValue.{fine_value, bend_value, tuning_of}
use Rattle.channels.proofs.Values.{none_measured, Measured, measured, measured_small, measured_value}
use Rattle.channels.proofs.tuning_value.tunings_of.Goals as goal
use Rattle.channels.proofs.tuning_value.tunings_of.Goals.{In_ok-l, Start}

pub returns-in_err-l : goal.returns-in_err-l
returns-in_err-l c =
    let v = c.args.detuning.float_value in
    let p = err_from_is_err_and c.from_residual.result c.from_residual.ensures.1 in
    record {
      fine = rw (p.1, p.2) (none_measured FineTuning v _ c.in_err-l.ensures);
      bend = rw (p.1, p.2) (none_measured Bend v _ c.in_err-l.ensures);
    }

detuning_fits : (s : Start) → T (fits binary64 s.args.detuning.float_value)
detuning_fits s = search rules

level : (c : In_ok-l) → Measured c.args.detuning.float_value c.in_ok-l.l
level c = measured c.args.detuning.float_value c.in_ok-l.l c.in_ok-l.ensures

measure_small : (c : In_ok-l) → mag c.in_ok-l.l < 2 ^ 40
measure_small c = measured_small c.args.detuning.float_value c.in_ok-l.l (detuning_fits c.before.before.before) (level c)

back : (c : In_ok-l) → to_z w64 (of_z w64 c.in_ok-l.l) ≡ c.in_ok-l.l
back c = let h = measure_small c in to_z-of_z w64 c.in_ok-l.l (record { sfits = omega arith })

pub fine_value-requires : goal.fine_value-requires
fine_value-requires c = let a = (goal.at.fine_value-requires c).In_ok-l in rw (back a) (measure_small a)

pub bend_value-requires : goal.bend_value-requires
bend_value-requires c = let a = (goal.at.bend_value-requires c).In_ok-l in rw (back a) (measure_small a)

pub returns : goal.returns
unfolding tuning_of
returns c =
    let v = c.args.detuning.float_value in
    let l = c.in_ok-l.l in
    let a = (goal.at.returns c).In_ok-l in
    record {
      fine = ap (λ (n : ℕ). value (Fine n)) (c.fine_value.ensures ∙ ap fine_value (back a)) ∙ measured_value FineTuning v l (level a);
      bend =
          ap (λ (z : ℤ). value (Bent z)) (to_z-of_z w16 _ (record { sfits = c.bend_value.type_inv }) ∙ c.bend_value.ensures ∙ ap bend_value (back a))
          ∙ measured_value Bend v l (level a);
    }
