-- `leaving::withdraw::Parent::share` meets its contract: the shares stand in the two slots, and the page above them has both boxes tight. Assumes nothing.
use Rattle.table.specs.Page.{shown}
use Rattle.leaving.proofs.WithdrawPages.{shared_fits, shown_fits, share_top}
use Rattle.leaving.proofs.withdraw.Parent.share.Goals as goal

pub put_node_at-requires : goal.put_node_at-requires
put_node_at-requires c =
    let a = c.args in
    let j = c.requires.0 in
    let one = c.child_at in
    let two = c.child_at-2 in
    let out = c.share_out in
    let half = c.tightened-m in
    let top = c.tightened-o in
    let t = share_top a.table.now a.self.slot a.self.node a.a a.joint j c.requires.1 one.result two.result one.ensures two.ensures out.new.table out.ensures
    half.result.node half.ensures.node top.result.node top.ensures.node in
    (j.mendable.inside, shown_fits t (shared_fits a.table.now a.self.slot (shown a.self.node) a.a j))
