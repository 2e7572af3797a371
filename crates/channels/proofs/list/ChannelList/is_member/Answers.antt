-- `list::ChannelList::is_member` meets its contract: a search of the array's entries as they are read.
use Rattle.std.proofs.Common.{ℕ, ◌%◌, eqb, ◌∙◌, take, arith, rules, tests}
use Rattle.std.proofs.lemmas.Iterator.{YieldsList-from_slice}
use Rattle.std.proofs.lemmas.Iterator.Search.{any_from_yields_List}
use Rattle.channels.proofs.ChannelLists.{entries_few, member_entries}
use Rattle.channels.proofs.list.ChannelList.is_member.Goals as goal

pub shared_ref_as_front-entries : goal.shared_ref_as_front-entries
shared_ref_as_front-entries c = omega (arith, entries_few c.args.self.now)

pub returns : goal.returns
returns c =
    rw (← c.number-number.ensures)
    (any_from_yields_List (λ (n : ℕ). eqb (n % 16) c.number-number.result) _ _ _ c.any.ensures.ran
    (YieldsList-from_slice (take c.len.result c.args.self.now.channels) cc)
    (λ x b q k. search (rules, tests))
    ∙ member_entries c.args.self.now c.len.result c.number-number.result c.len.ensures)
