-- `list::ChannelList::of` meets its contract, entry by entry.
use Rattle.std.proofs.Common.{◌≡◌, ◌<◌, ◌∷◌, [], get_or, length, length-set, length-append, sym, ap, ◌∙◌, arith}
use Rattle.channels.specs.ChannelList.{entries, list_rule}
use Rattle.arithmetic.proofs.Rules.Outcomes.{hands_on_by}
use Rattle.channels.proofs.ChannelLists.{channel_of_number, refused_over, length_entries, entries_push, channels_push, channels_room, over_at, twice_at, fine_at, all_fine}
use Rattle.channels.proofs.list.ChannelList.of.Goals as goal
use Rattle.channels.proofs.list.ChannelList.of.Goals.{Else-is_member}

pub loop-number-init : goal.loop-number-init
unfolding list_rule
loop-number-init c =
    let l = c.none-list.result in
    let places : length l.channels ≡ 16 = omega arith in
    record {
      places = places;
      counted = omega (arith, length_entries l places, ap length c.none-list.ensures);
      fine = rw c.none-list.ensures tt;
      rule = rw c.none-list.ensures;
    }

pub returns-in_err-channel : goal.returns-in_err-channel
returns-in_err-channel c =
    hands_on_by entries c.from_residual.result _ c.from_residual.ensures.1
    (let e = refused_over _ _ c.in_err-channel.ensures in
    rw e.1 (over_at _ _ _ c.loop-number.invariant.rule c.loop-number-test.true e.0))

pub returns-then-is_member : goal.returns-then-is_member
returns-then-is_member c =
    let l = channel_of_number _ _ c.in_ok-channel.ensures in
    twice_at _ _ _ c.loop-number.invariant.rule c.loop-number-test.true l.1 (rw l.0 at (sym c.if-is_member.ensures))

-- one more entry has a place
room : (c : Else-is_member) → c.loop-number.list.count < 16
room c =
    let l = channel_of_number _ _ c.in_ok-channel.ensures in
    omega (arith, channels_room _ _ c.loop-number.invariant.fine l.1 (rw l.0 at (sym c.if-is_member.ensures)), c.loop-number.invariant.counted)

pub overflow_cast-list : goal.overflow_cast-list
overflow_cast-list c = omega (arith, room (goal.at.overflow_cast-list c).Else-is_member)

pub bounds-list-list : goal.bounds-list-list
bounds-list-list c = room (goal.at.bounds-list-list c).Else-is_member

pub overflow_add-list : goal.overflow_add-list
overflow_add-list c = omega (arith, room (goal.at.overflow_add-list c).Else-is_member)

pub loop-number-preserved : goal.loop-number-preserved
loop-number-preserved c =
    let l = c.loop-number.list in
    let at = goal.at.loop-number-preserved c in
    let x = get_or c.args.channels.now c.loop-number.number-index 0 in
    let inv = c.loop-number.invariant in
    let is = channel_of_number _ _ c.in_ok-channel.ensures in
    let new = rw is.0 at (sym c.if-is_member.ensures) in
    let more = entries_push l x is.1 (omega (arith, inv.places, room at.Else-is_member)) (room at.Else-is_member) in
    let same = c.number.ensures ∙ is.0 in
    rw same
    record {
      places = length-set l.channels l.count x ∙ inv.places;
      counted = omega (arith, inv.counted, ap length more, length-append (entries l) (x ∷ []));
      fine = rw more (channels_push [] (entries l) x inv.fine is.1 new);
      rule = rw more (fine_at (entries l) c.args.channels.now c.loop-number.number-index inv.rule c.loop-number-test.true is.1 new);
    }

pub returns : goal.returns
returns c = all_fine _ _ _ c.loop-number.invariant.rule c.loop-number-test.false
