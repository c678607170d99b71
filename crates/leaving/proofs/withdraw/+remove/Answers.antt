-- `leaving::withdraw::remove`, which calls itself with a level that falls, meets its contract: the number is below the child that is found, and what the call leaves there can be mended. Assumes nothing.
use Prim.Native.Nat.{◌<◌}
use native.Mathlib.Omega.{arith}
use Rattle.change.proofs.Planting.{planted_inside}
use Rattle.leaving.proofs.WithdrawPlanted.{node_below}
use Rattle.leaving.proofs.WithdrawRemoved.{leaf_some, leaf_in, leaf_fits, leaf_done, child_some, child_in, below_removable, mid_mendable, child_done}
use Rattle.leaving.proofs.withdraw.+remove.Goals as goal

pub node_at-n-requires : goal.node_at-n-requires
node_at-n-requires t c = planted_inside c.requires.planted

-- ---- in a leaf

pub unwrap-i-requires : goal.unwrap-i-requires
unwrap-i-requires t c =
    let a = c.args in
    let n = c.node_at-n in
    leaf_some a.table.now a.slot a.number a.level c.requires n.result n.ensures c.if-level-eq0.true c.leaf_place.result c.leaf_place.ensures

pub without-requires : goal.without-requires
without-requires t c =
    let a = c.args in
    let n = c.node_at-n in
    let o = c.leaf_place in
    let i = c.unwrap-i in
    leaf_in a.table.now a.slot a.number a.level c.requires n.result n.ensures c.if-level-eq0.true o.result o.ensures i.result i.ensures

pub put_node_at-requires : goal.put_node_at-requires
put_node_at-requires t c =
    let a = c.args in
    let n = c.node_at-n in
    let o = c.leaf_place in
    let i = c.unwrap-i in
    let m = c.without in (
      planted_inside c.requires.planted,
      leaf_fits a.table.now a.slot a.number a.level c.requires n.result n.ensures c.if-level-eq0.true o.result o.ensures i.result i.ensures m.result m.ensures,
    )

pub returns-then-level-eq0 : goal.returns-then-level-eq0
returns-then-level-eq0 t c =
    let a = c.args in
    let n = c.node_at-n in
    let o = c.leaf_place in
    let i = c.unwrap-i in
    let m = c.without in
    leaf_done a.table.now a.slot a.number a.level c.requires n.result n.ensures c.if-level-eq0.true o.result o.ensures i.result i.ensures m.result m.ensures
    c.put_node_at.new.table c.put_node_at.ensures

-- ---- above the leaves

pub child_place-requires : goal.child_place-requires
child_place-requires t c =
    let a = c.args in
    let n = c.node_at-n in
    node_below a.table.now a.slot a.number a.level n.result n.ensures (omega (arith, c.if-level-eq0.false)) c.requires.planted

pub unwrap-i-requires-2 : goal.unwrap-i-requires-2
unwrap-i-requires-2 t c =
    let a = c.args in
    let n = c.node_at-n in
    child_some a.table.now a.slot a.number a.level c.requires n.result n.ensures (omega (arith, c.if-level-eq0.false)) c.child_place.result c.child_place.ensures

pub child_at-requires : goal.child_at-requires
child_at-requires t c =
    let a = c.args in
    let n = c.node_at-n in
    let o = c.child_place in
    let i = c.unwrap-i-2 in
    let h : 0 < a.level = omega (arith, c.if-level-eq0.false) in
    child_in a.table.now a.slot a.number a.level c.requires n.result n.ensures h o.result o.ensures i.result i.ensures

pub remove-requires : goal.remove-requires
remove-requires t c =
    let a = c.args in
    let n = c.node_at-n in
    let o = c.child_place in
    let i = c.unwrap-i-2 in
    let h : 0 < a.level = omega (arith, c.if-level-eq0.false) in (
      omega (arith, c.decreases, h),
      below_removable a.table.now a.slot a.number a.level c.requires n.result n.ensures h o.result o.ensures i.result i.ensures c.child_at.result c.child_at.ensures,
    )

pub mend-requires : goal.mend-requires
mend-requires t c =
    let a = c.args in
    let n = c.node_at-n in
    let o = c.child_place in
    let i = c.unwrap-i-2 in
    let at = c.child_at in
    let mid = c.remove in
    let h : 0 < a.level = omega (arith, c.if-level-eq0.false) in
    mid_mendable a.table.now a.slot a.number a.level c.requires n.result n.ensures h o.result o.ensures i.result i.ensures at.result at.ensures mid.new.table mid.ensures

pub returns : goal.returns
returns t c =
    let a = c.args in
    let n = c.node_at-n in
    let o = c.child_place in
    let i = c.unwrap-i-2 in
    let at = c.child_at in
    let mid = c.remove in
    let h : 0 < a.level = omega (arith, c.if-level-eq0.false) in
    child_done a.table.now a.slot a.number a.level c.requires n.result n.ensures h o.result o.ensures i.result i.ensures at.result at.ensures mid.new.table mid.ensures
    c.mend.new.table c.mend.ensures
