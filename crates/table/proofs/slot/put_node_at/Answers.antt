-- `slot::put_node_at` meets its contract: the slot's part is lent, and comes back with the node's words. Assumes nothing.
use Rattle.table.specs.Page.{shown, page_words}
use Rattle.table.specs.Slots.{put_page}
use Rattle.table.proofs.Parts.{back_part}
use Rattle.table.proofs.Slots.{page_length}
use Rattle.table.proofs.slot.put_node_at.Goals as goal

pub returns : goal.returns
unfolding put_page
returns c =
    let f = c.start in
    let t = c.start-2 in
    let w = c.put_node in
    let p = shown c.args.n in
    back_part c.args.table.now c.args.slot f.result t.result f.ensures t.ensures w.new.part (page_words p)
    w.ensures (page_length p c.requires.1.few)
