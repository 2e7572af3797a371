-- `SortedKeys::add` meets its contract: a key that came before is refused, another one is put in.
use Rattle.std.proofs.Common.{◌≡◌, ◌<◌, ◌≤◌, false, length, get_or, insert, rules, arith, sym, ap, ◌∙◌}
use Rattle.channels.specs.Places.{is_held, place_of}
use Rattle.channels.proofs.Records.{place_record_low}
use Rattle.plans.specs.KeyLine.{key_line}
use Rattle.plans.specs.PlanInternal.{before_in}
use Rattle.plans.proofs.Lines.Insertion.{before_fits}
use Rattle.plans.proofs.Lines.SortedKeys.{room_in, holds_more}
use Rattle.plans.proofs.Lines.Check.{Sound, turn_key_twice, new, more_ok, one_more}
use Rattle.plans.proofs.sorted_keys.SortedKeys.add.Goals as goal
use Rattle.plans.proofs.sorted_keys.SortedKeys.add.Goals.{Else-is_found}

pub returns-then-is_found : goal.returns-then-is_found
returns-then-is_found c lines ok h =
    let t = c.args.line in
    let b : Sound (key_line t) = record { byte = omega arith; note = t.note.is_note; above = t.above_zero; fitting = search rules } in
    turn_key_twice c.args.self.now (key_line t) b lines ok h (sym c.is_found.ensures ∙ c.if-is_found.true)

-- the key is another one, so there is room for it
module _ (c : Else-is_found) where
  sound : Sound (key_line c.args.line)
  sound = record { byte = omega arith; note = c.args.line.note.is_note; above = c.args.line.above_zero; fitting = search rules }

  other : is_held (place_of (get_or c.args.self.now.records c.args.line.key 0)) ≡ false
  other = sym c.is_found.ensures ∙ c.if-is_found.false

  room : length c.args.self.now.order.items < 256
  room =
      let s = c.args.self.now in
      let f = c.requires in
      let x = key_line c.args.line in
      room_in s f.0 f.2 f.1 x (more_ok s x sound f.0 f.1 f.2 other)

  placed : before_in c.args.self.now c.args.line.detuning ≤ length c.args.self.now.order.items
  placed =
      let s = c.args.self.now in
      omega (arith, before_fits s.detunings c.args.line.detuning s.order.items)

pub insert-requires : goal.insert-requires
insert-requires c =
    let t = (goal.at.insert-requires c).Else-is_found in
    (omega arith, (rw c.place-at.ensures (placed t), room t))

pub returns : goal.returns
returns c lines ok h =
    let t = (goal.at.returns c).Else-is_found in
    let s = c.args.self.now in
    let x = key_line c.args.line in
    let e = other t in
    let b = sound t in
    let found = ap place_of c.record.ensures ∙ place_record_low x.note b.note 0 (omega arith) in
    let put = c.insert.ensures.items ∙ ap (λ b. insert s.order.items b x.key) c.place-at.ensures in
    one_more s x b lines ok h e _
    (holds_more s _ c.record.result x lines h ok (new s x b lines ok h e) b.byte b.above found put)
