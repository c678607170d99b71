-- `leaving::withdraw::Parent::merge` meets its contract: each step writes what the definition has. Assumes nothing.
use Rattle.table.specs.Page.{shown}
use Rattle.leaving.proofs.WithdrawPages.{merged_fits, shown_fits, joint_few, merge_top}
use Rattle.leaving.proofs.withdraw.Parent.merge.Goals as goal

pub put_node_at-requires-2 : goal.put_node_at-requires-2
put_node_at-requires-2 c =
    let a = c.args in
    let n = a.self.node in
    let j = c.requires.0 in
    let ws = a.table.now in
    let one = c.child_at-c in
    let two = c.child_at-d in
    let put = c.put_node_at in
    let end = c.free_slot in
    let m = c.tightened-m in
    let r = c.without in
    let few = joint_few ws a.self.slot n a.a a.joint j c.requires.1 c.requires.2 in
    let t = merge_top ws a.self.slot n a.a a.joint j c.requires.1 c.requires.2 one.result two.result one.ensures two.ensures put.new.table end.new.table put.ensures end.ensures
    m.result.node r.result m.ensures.node r.ensures in
    (j.mendable.inside, shown_fits t (merged_fits ws a.self.slot (shown n) a.a j few))
