-- `pitch::squarings` meets its contract.
use mathlib.Core.Path.{◌≡◌, sym, ap, ◌∙◌}
use Prim.Native.Nat.{ℕ, suc, ◌+◌, ◌*◌, ◌-◌, ◌/◌, ◌^◌, ◌<◌}
use native.Mathlib.Omega.{arith}
use Rattle.arithmetic.specs.Measure.{digits}
use Rattle.arithmetic.proofs.Measure.Law.{Shifted, shifted, squaring_turn, digits_lt, written_lt}
use Rattle.arithmetic.proofs.pitch.squarings.Goals as goal
use Rattle.arithmetic.proofs.pitch.squarings.Goals.{At-loop, In-loop}

-- the squaring at hand
step : (c : In-loop) → let y = c.before.loop.rest in Shifted y (y * y / 2 ^ 63) (y * y / 2 ^ 31 / 2 ^ (y * y / 2 ^ 63))
step c = shifted c.before.loop.rest c.before.loop.invariant.short

-- what is written is below 2 ^ 24
written_small : (c : At-loop) → c.loop.written < 2 ^ 24
written_small c = written_lt (24 - c.loop.counter) c.loop.written c.loop.rest (digits 24 c.before.args.y) c.loop.invariant.all (digits_lt 24 c.before.args.y)

pub overflow_mul-written : goal.overflow_mul-written
overflow_mul-written c = record { fits = omega (arith, written_small (goal.at.overflow_mul-written c).At-loop) }

pub overflow_add-written : goal.overflow_add-written
overflow_add-written c =
    record { fits = omega (arith, written_small (goal.at.overflow_add-written c).At-loop, (step (goal.at.overflow_add-written c).In-loop).small) }

pub loop-preserved : goal.loop-preserved
loop-preserved c =
    let l = c.loop in
    let n = 24 - (l.counter + 1) in
    let d = step (goal.at.loop-preserved c).In-loop in
    let h : 24 - l.counter ≡ suc n = omega arith in
    let w = l.written * 2 + l.rest * l.rest / 2 ^ 63 in
    let r = l.rest * l.rest / 2 ^ 31 / 2 ^ (l.rest * l.rest / 2 ^ 63) in
    record {
      short = d.high;
      all = sym (squaring_turn n l.written l.rest w r (ap (λ (x : ℕ). l.written * 2 + x) d.is_digit) (sym d.is_next)) ∙ (rw h at l.invariant.all);
    }

no_digits_left : (k w r D : ℕ) → k ≡ 0 → w * 2 ^ k + digits k r ≡ D → w ≡ D
unfolding digits
no_digits_left k w r D e h = let i : w * 1 + 0 ≡ D = rw e at h in omega arith

pub returns : goal.returns
returns c = no_digits_left (24 - c.loop.counter) c.loop.written c.loop.rest (digits 24 c.args.y) (omega arith) c.loop.invariant.all
