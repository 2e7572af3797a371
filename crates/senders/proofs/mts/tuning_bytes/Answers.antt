-- `tuning_bytes` meets its contract: the steps of a tuning are in their range, so that a bend is not refused and the high bits of a fine value are seven.
use Rattle.std.proofs.Common.{◌≡◌, ℕ, ◌/◌, ◌%◌, ◌<◌, sym, ap, ◌∙◌, subst, arith, refl, rules, to_z, of_z, w16}
use Rattle.std.proofs.lemmas.Grind.{common_steps}
use Rattle.std.specs.Prelude.{Float}
use Rattle.channels.specs.Outcome.{value}
use Rattle.channels.specs.TuningValue.{InSteps, tuning_rule}
use Rattle.channels.specs.declared.tuning_value.TuningKind.{TuningKind}
use Rattle.channels.specs.declared.tuning_value.Tuning.{Tuning}
use Rattle.channels.proofs.Values.{value_in_steps}
use Rattle.senders.specs.Message.{control}
use Rattle.senders.specs.Midi.{bytes}
use Rattle.senders.specs.Mts.{tuning_bytes}
use Rattle.senders.specs.declared.midi.ChannelMessageType.TheVariants.{PitchBendChange}
use Rattle.senders.proofs.Bytes.Messages.{checked_bytes}
use Rattle.senders.proofs.mts.tuning_bytes.Goals as goal
use Rattle.senders.proofs.mts.tuning_bytes.Goals.{in-Fine, in-Bend+in_ok-bend-in-Bend}

module _ (kind : TuningKind) (v : Float) {t : Tuning} (e : value t ≡ tuning_rule kind v) where
  in_steps : {u : Tuning} → t ≡ u → InSteps u
  in_steps s = subst InSteps s (value_in_steps kind v (sym e))

  is_sent : {u : Tuning} → t ≡ u → (ch : ℕ) → tuning_bytes ch (tuning_rule kind v) ≡ tuning_bytes ch (value u)
  is_sent s ch = rw (← e, s) refl

pub returns-in_err-bend-in-Bend : goal.returns-in_err-bend-in-Bend
returns-in_err-bend-in-Bend c =
    let a = c.args in
    let h = in_steps a.tuning_kind a.detuning.float_value c.in_ok-value.ensures c.in-Bend.is in
    let plain : to_z w16 (of_z w16 c.in-Bend.value) ≡ c.in-Bend.value = search rules in
    let r = rw (plain, h) at c.in_err-bend-in-Bend.ensures in
    absurd (cc)

pub returns : goal.returns
returns c =
    let a = c.args in
    elim c.match-branch-2.branch [
      | in-Fine w ↦
          let v = w.in-Fine.value in
          let h : v < 16384 = in_steps a.tuning_kind a.detuning.float_value c.in_ok-value.ensures w.in-Fine.is in
          let e = is_sent a.tuning_kind a.detuning.float_value c.in_ok-value.ensures w.in-Fine.is a.channel.number in
          let small : v / 128 % 128 ≡ v / 128 = omega arith in
          let high : w.control-in-Fine-2.result ≡ bytes (control a.channel.number 0x06 (v / 128)) =
          w.control-in-Fine-2.ensures ∙ ap (λ (n : ℕ). bytes (control a.channel.number 0x06 n)) (w.lowest_of-msb.ensures ∙ small) in
          rw (e, w.bytes-is) (grind (arith, common_steps))
      | in-Bend+in_ok-bend-in-Bend w ↦
          let h = in_steps a.tuning_kind a.detuning.float_value c.in_ok-value.ensures w.in-Bend.is in
          let e = is_sent a.tuning_kind a.detuning.float_value c.in_ok-value.ensures w.in-Bend.is a.channel.number in
          let plain : to_z w16 (of_z w16 w.in-Bend.value) ≡ w.in-Bend.value = search rules in
          let one = checked_bytes (PitchBendChange w.in-Bend.value) (rw plain at w.in_ok-bend-in-Bend.ensures) a.channel.number in
          rw (e, w.bytes-is) (grind (arith, common_steps))
    ]
