-- `leaving::withdraw::child_place` and `leaving::withdraw::holds`, which call each other, meet their contracts: the number stands below the child that is found, and below no child passed. Assumes nothing.
use Prim.Native.Nat.{◌<◌}
use native.Mathlib.Omega.{arith}
use mathlib.Core.Path.{sym, ap, ◌∙◌}
use Rattle.std.specs.Prelude.{position}
use Rattle.table.specs.declared.node.Entry.{Entry}
use Rattle.table.specs.Page.{blank_entry}
use Rattle.change.proofs.Planting.{planted_inside}
use Rattle.leaving.specs.Withdraw.{holds as holds_of}
use Rattle.leaving.proofs.WithdrawSearch.{position_at, position_none}
use Rattle.leaving.proofs.WithdrawPlanted.{leaf_found, child_found, node_below}
use Rattle.leaving.proofs.withdraw.+child_place_holds.Goals as goal

pub holds-node_at-n-requires : goal.holds-node_at-n-requires
holds-node_at-n-requires t c = planted_inside c.requires

pub holds-returns-then-level-eq0 : goal.holds-returns-then-level-eq0
holds-returns-then-level-eq0 t c =
    let a = c.args in
    let n = c.node_at-n in
    c.is_some.ensures ∙ leaf_found a.table.now a.slot a.number a.level n.result n.ensures c.leaf_place.result c.leaf_place.ensures c.if-level-eq0.true

pub holds-child_place-requires : goal.holds-child_place-requires
holds-child_place-requires t c =
    let a = c.args in
    let n = c.node_at-n in
    let h : 0 < a.level = omega (arith, c.if-level-eq0.false) in (
      omega (arith, c.decreases, h),
      node_below a.table.now a.slot a.number a.level n.result n.ensures h c.requires,
    )

pub holds-returns : goal.holds-returns
holds-returns t c =
    let a = c.args in
    let n = c.node_at-n in
    c.is_some-2.ensures ∙ child_found a.table.now a.slot a.number a.level n.result n.ensures c.child_place.result c.child_place.ensures
    (omega (arith, c.if-level-eq0.false))

pub child_place-returns-then-holds : goal.child_place-returns-then-holds
child_place-returns-then-holds t c =
    let a = c.args in
    let l = c.loop-i in
    let P = λ (e : Entry). holds_of a.level a.table.now e.reference a.number in
    position_at P c.held-e-items.result.now blank_entry l.i (omega arith) l.invariant (sym c.holds.ensures ∙ c.if-holds.true)
    ∙ ap (position P) c.held-e-items.ensures

pub child_place-returns : goal.child_place-returns
child_place-returns t c =
    let a = c.args in
    let P = λ (e : Entry). holds_of a.level a.table.now e.reference a.number in
    position_none P c.held-e-items.result.now blank_entry (λ k h. c.loop-i.invariant k (omega arith))
    ∙ ap (position P) c.held-e-items.ensures
