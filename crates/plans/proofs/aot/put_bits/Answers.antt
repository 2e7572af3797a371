-- `put_bits` meets its contract: a turn adds the bits of one more detuning.
use Rattle.std.proofs.Common.{◌≡◌, ◌+◌, [], ◌∷◌, ◌++◌, get_or, take, set, ap, sym, ◌∙◌, add-one, arith}
use Rattle.std.proofs.Math.Seq.{take-suc-set}
use Rattle.std.proofs.lemmas.List.{map-append, take_more, take_all, length-set}
use lib.Ieee.{nan, binary64, of_bits}
use Rattle.plans.specs.PlanNumbers.{floats}
use Rattle.plans.proofs.aot.put_bits.Goals as goal

pub loop-i-preserved : goal.loop-i-preserved
loop-i-preserved c =
    let i = c.loop-i.i in
    let bits = c.loop-i.bits in
    let ds = c.args.detunings.now in
    let y = c.bits_of.result in
    let v = c.loop-i.invariant in
    let put : take (i + 1) (set bits i y) ≡ take i bits ++ (y ∷ []) = ap (λ n. take n (set bits i y)) (add-one i) ∙ take-suc-set bits i y (omega (arith, v.long)) in
    let own : of_bits binary64 y ≡ get_or ds i nan = c.bits_of.ensures in
    record {
      long = length-set bits i y ∙ v.long;
      same = ap floats put
          ∙ map-append (of_bits binary64) (take i bits) (y ∷ [])
          ∙ ap (λ t. t ++ (of_bits binary64 y ∷ [])) v.same
          ∙ ap (λ d. take i ds ++ (d ∷ [])) own
          ∙ sym (take_more ds i nan (omega arith));
    }

pub returns : goal.returns
returns c =
    let v = c.loop-i.invariant in
    let ds = c.args.detunings.now in
    ap floats (sym (take_all c.loop-i.i c.loop-i.bits (omega (arith, v.long)))) ∙ v.same ∙ take_all c.loop-i.i ds (omega arith)
