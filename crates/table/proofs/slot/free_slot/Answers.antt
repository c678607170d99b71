-- `slot::free_slot` meets its contract: the slot's part is lent, and comes back with a free slot's words. Assumes nothing.
use Rattle.table.specs.Page.{free_words}
use Rattle.table.specs.Slots.{freed}
use Rattle.table.proofs.Parts.{back_part}
use Rattle.table.proofs.Slots.{free_length}
use Rattle.table.proofs.slot.free_slot.Goals as goal

pub returns : goal.returns
unfolding freed
returns c =
    let a = c.args in
    let f = c.start in
    let t = c.start-2 in
    let w = c.free_part in
    back_part a.table.now a.slot f.result t.result f.ensures t.ensures w.new.part free_words w.ensures
    free_length
