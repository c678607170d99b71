-- `slot::node_at` meets its contract: the slot's part is lent. Assumes nothing.
use Rattle.table.specs.Slots.{page_at}
use Rattle.table.proofs.slot.node_at.Goals as goal

pub returns : goal.returns
unfolding page_at
returns c =
    let a = c.args in
    rw c.part_of.ensures at c.node_of.ensures
