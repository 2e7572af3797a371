-- `tuning_value::bend_value` meets its contract: the step fits, and clamped it fits an i16.
use Rattle.std.proofs.Common.{◌≡◌, pos, ◌*ℤ◌, w64, to_z, of_z, ap, ◌∙◌, arith}
use Rattle.std.proofs.lemmas.Int.{to_z-of_z}
use lib.IntN.{negsuc}
use lib.Signed.{quot_z}
use mir.Syntax.{w16}
use Rattle.channels.specs.TuningValue.{clamp, bend_step, bend_value}
use Rattle.channels.proofs.Values.{clamp_ends, bend_small, times_fits, bend_fits}
use Rattle.channels.proofs.tuning_value.bend_value.Goals as goal

pub returns : goal.returns
unfolding bend_value bend_step
returns c =
    let l = c.args.l in
    let step : to_z w64 (of_z w64 (quot_z (to_z w64 (of_z w64 (to_z w64 (of_z w64 l) *ℤ pos 3))) (pos 1024))) ≡ bend_step l =
    rw (to_z-of_z w64 l c.ranges.l, to_z-of_z w64 (l *ℤ pos 3) (times_fits l c.requires)) (to_z-of_z w64 (bend_step l) (bend_fits l c.requires)) in
    let value : c.clamp.result ≡ bend_value l =
    c.clamp.ensures.value ∙ clamp_ends (negsuc 8191) (pos 8191) _ (omega arith) ∙ ap (clamp (negsuc 8191) (pos 8191)) step in
    rw (to_z-of_z w64 c.clamp.result (record { sfits = c.clamp.type_inv }), value) (to_z-of_z w16 (bend_value l) (bend_small l))
