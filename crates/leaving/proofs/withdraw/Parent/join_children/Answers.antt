-- `leaving::withdraw::Parent::join_children` meets its contract: the joint node shows both children's entries, and its number decides. Assumes nothing.
use Prim.Native.Nat.{◌-◌}
use native.Mathlib.Omega.{arith}
use Rattle.table.specs.Page.{held, page, Shows}
use Rattle.leaving.specs.Withdraw.{joint_at}
use Rattle.leaving.proofs.WithdrawPages.{pair_shows, join_merges, join_shares}
use Rattle.leaving.proofs.withdraw.Parent.join_children.Goals as goal

pub returns-then-joint-le-FAN : goal.returns-then-joint-le-FAN
returns-then-joint-le-FAN c =
    let joint : (let a = c.args in Shows c.joined-joint.result (page (a.self.node.level - 1) (joint_at a.table.now (held a.self.node) a.a))) =
    let a = c.args in
    let one = c.child_at in
    let two = c.child_at-2 in
    let x = c.node_at-first in
    let y = c.node_at-other in
    pair_shows a.table.now a.self.slot a.self.node a.a c.requires one.result two.result one.ensures two.ensures x.result y.result x.ensures y.ensures
    c.joined-joint.result c.joined-joint.ensures in
    let a = c.args in
    join_merges a.table.now a.self.slot (a.self.node.level - 1) (held a.self.node) a.a c.merge.new.table
    (omega (arith, (joint).count, c.if-joint-le-FAN.true))
    c.merge.ensures

pub returns : goal.returns
returns c =
    let joint : (let a = c.args in Shows c.joined-joint.result (page (a.self.node.level - 1) (joint_at a.table.now (held a.self.node) a.a))) =
    let a = c.args in
    let one = c.child_at in
    let two = c.child_at-2 in
    let x = c.node_at-first in
    let y = c.node_at-other in
    pair_shows a.table.now a.self.slot a.self.node a.a c.requires one.result two.result one.ensures two.ensures x.result y.result x.ensures y.ensures
    c.joined-joint.result c.joined-joint.ensures in
    let a = c.args in
    join_shares a.table.now a.self.slot (a.self.node.level - 1) (held a.self.node) a.a c.share.new.table
    (omega (arith, (joint).count, c.if-joint-le-FAN.false))
    c.share.ensures
