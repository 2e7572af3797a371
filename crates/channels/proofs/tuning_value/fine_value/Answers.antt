-- `tuning_value::fine_value` meets its contract: the step fits.
use Rattle.std.proofs.Common.{◌≡◌, pos, ◌+ℤ◌, ◌*ℤ◌, w64, to_z, of_z, ap, ◌∙◌, arith}
use Rattle.std.proofs.lemmas.Int.{to_z-of_z}
use lib.Signed.{shr_z}
use Rattle.channels.specs.TuningValue.{clamp, fine_step, fine_value}
use Rattle.channels.proofs.Values.{clamp_ends, times_fits, shift_fits, fine_fits}
use Rattle.channels.proofs.tuning_value.fine_value.Goals as goal

pub returns : goal.returns
unfolding fine_value fine_step
returns c =
    let l = c.args.l in
    let f = times_fits l c.requires in
    let step : to_z w64 (of_z w64 (pos 8192 +ℤ to_z w64 (of_z w64 (shr_z (to_z w64 (of_z w64 (to_z w64 (of_z w64 l) *ℤ pos 3))) 512)))) ≡ fine_step l =
    rw (to_z-of_z w64 l c.ranges.l, to_z-of_z w64 (l *ℤ pos 3) f, to_z-of_z w64 (shr_z (l *ℤ pos 3) 512) (shift_fits l c.requires))
    (to_z-of_z w64 (fine_step l) (fine_fits l c.requires)) in
    let value = c.clamp.ensures.value ∙ clamp_ends (pos 0) (pos 16383) _ (omega arith) ∙ ap (clamp (pos 0) (pos 16383)) step in
    rw (to_z-of_z w64 c.clamp.result (record { sfits = c.clamp.type_inv }), value)
