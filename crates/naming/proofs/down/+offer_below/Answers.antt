-- `naming::down::offer_below` meets its contract, by recursion on the level. The loop's invariant: the same row has the best of the points below the first `i` children, nearest first. Assumes nothing.
use Prim.Native.Nat.{ℕ, ◌-◌, ◌<◌}
use native.Mathlib.Omega.{arith}
use mathlib.Core.Path.{◌≡◌, refl, sym, ap, subst, ◌∙◌}
use mathlib.Core.List.{◌++◌}
use lib.ListN.{length, get_or}
use borrow.Author.Tests.{ltb-true}
use Rattle.grid.specs.Place.{Inside, RectOnGrid, least_square}
use Rattle.order.specs.Lists.{All}
use Rattle.order.specs.Order.{least}
use Rattle.order.proofs.Lists.{all_then}
use Rattle.table.specs.declared.node.Entry.{Entry}
use Rattle.table.specs.Page.{blank_entry}
use Rattle.table.specs.Slots.{entries_at}
use Rattle.filter.specs.Walk.{spot_in, nearest_first}
use Rattle.naming.proofs.Taking.{row_fits, turns_length, turn_below, turn_in_order, turn_taken, turn_child}
use Rattle.filter.proofs.NodeTurns.{passable_slot, passable_above, IsChild}
use Rattle.vetting.proofs.Below.{below_above, Box, boxed_above}
use Rattle.naming.specs.Holders.{square_in, marks_of}
use Rattle.naming.proofs.Marking.{sofar_none, sofar_next, sofar_ends, sofar_node}
use Rattle.naming.proofs.down.+offer_below.Invariants.{under}
use Rattle.naming.proofs.down.+offer_below.Goals as goal

-- there are points below this node
up : {level : ℕ} → (level ≡ 0 → ⊥) → 0 < level
up h = omega arith

pub nearest-row-requires-clause-all : goal.nearest-row-requires-clause-all
nearest-row-requires-clause-all t c =
    let a = c.args in
    all_then (IsChild a.table.now (a.level - 1)) (λ e. RectOnGrid e.rect) (λ e h. h.0.grid) (entries_at a.table.now a.slot)
    (passable_above a.table.now a.slot a.level (up c.if-level-eq0.false) c.requires.0)

pub slice_bounds-row-end : goal.slice_bounds-row-end
slice_bounds-row-end t c =
    let a = c.args in
    row_fits a.table.now a.slot a.holder.place _ _ c.count_at.ensures c.nearest-row.ensures

pub slice_bounds-at-items-end : goal.slice_bounds-at-items-end
slice_bounds-at-items-end t c =
    let a = c.args in
    turns_length a.table.now a.slot a.holder.place _ _ c.count_at.ensures c.nearest-row.ensures

pub loop-at-init : goal.loop-at-init
loop-at-init t c =
    let a = c.args in
    (sofar_none a.holder.number a.holder.place (under a.table.now a.level) (nearest_first a.holder.place 0 (entries_at a.table.now a.slot)) a.best.now.marks.now a.best.now.rising, refl)

pub entry_at-e-requires : goal.entry_at-e-requires
entry_at-e-requires t c =
    let a = c.args in (
      passable_slot a.level a.table.now a.slot c.requires.0,
      turn_below a.table.now a.slot a.holder.place _ _ c.count_at.ensures c.nearest-row.ensures c.loop-at.at-index c.loop-at-test.true,
    )

pub least_square-requires : goal.least_square-requires
least_square-requires t c =
    let a = c.args in
    let child = turn_child a.table.now a.slot a.holder.place _ _ c.count_at.ensures c.nearest-row.ensures c.loop-at.at-index c.loop-at-test.true c.entry_at-e.ensures
    a.level (up c.if-level-eq0.false) c.requires.0 c.requires.1 in (child.0.0.grid, a.holder.on_grid)

-- the row is done: the box lies beyond
pub returns-then-is_beyond-clause-best : goal.returns-then-is_beyond-clause-best
returns-then-is_beyond-clause-best t c =
    let a = c.args in
    let es = entries_at a.table.now a.slot in
    let taken = turn_taken a.table.now a.slot a.holder.place _ _ c.count_at.ensures c.nearest-row.ensures c.loop-at.at-index c.loop-at-test.true c.entry_at-e.ensures in
    let best = c.loop-at.best.marks.now in
    let far : square_in (get_or best (length best - 1) 0) < least_square c.entry_at-e.result.rect a.holder.place =
    rw (← c.least_square.ensures) (ltb-true _ _ (sym c.is_beyond.ensures ∙ c.if-is_beyond.true)) in
    rw (below_above a.table.now a.slot a.level (up c.if-level-eq0.false))
    (sofar_ends a.holder.number a.holder.place (under a.table.now a.level) es a.best.now.marks.now c.loop-at.at-index best blank_entry
    (omega (arith, c.loop-at-test.true, turns_length a.table.now a.slot a.holder.place _ _ c.count_at.ensures c.nearest-row.ensures, c.count_at.ensures))
    c.loop-at.invariant.0 a.best.now.places
    (all_then (Box a.table.now (a.level - 1)) (λ e. All (λ c. Inside (spot_in c) e.rect) (under a.table.now a.level e)) (λ e h. h.0) es
    (boxed_above a.table.now a.slot a.level (up c.if-level-eq0.false) c.requires.1))
    (subst (λ (e : Entry). square_in (get_or best (length best - 1) 0) < least_square e.rect a.holder.place) taken far))

pub offer_below-requires : goal.offer_below-requires
offer_below-requires t c =
    let a = c.args in
    let child = turn_child a.table.now a.slot a.holder.place _ _ c.count_at.ensures c.nearest-row.ensures c.loop-at.at-index c.loop-at-test.true c.entry_at-e.ensures
    a.level (up c.if-level-eq0.false) c.requires.0 c.requires.1 in (
      omega (arith, c.decreases, c.if-level-eq0.false),
      (child.0.1, child.1.1),
    )

pub loop-at-preserved : goal.loop-at-preserved
loop-at-preserved t c =
    let a = c.args in
    let taken = turn_taken a.table.now a.slot a.holder.place _ _ c.count_at.ensures c.nearest-row.ensures c.loop-at.at-index c.loop-at-test.true c.entry_at-e.ensures in
    let in_order = turn_in_order a.table.now a.slot a.holder.place _ _ c.count_at.ensures c.nearest-row.ensures c.loop-at.at-index c.loop-at-test.true in
    let best = c.loop-at.best.marks.now in
    let S = under a.table.now a.level in (
      sofar_next a.holder.number a.holder.place S (nearest_first a.holder.place 0 (entries_at a.table.now a.slot)) a.best.now.marks.now c.loop-at.at-index best _ blank_entry
          in_order c.loop-at.invariant.0
          (c.offer_below.ensures.best ∙ ap (λ (e : Entry). least (length best) (marks_of a.holder.number a.holder.place (S e) ++ best)) taken),
      c.offer_below.ensures.lent ∙ c.loop-at.invariant.1,
    )

pub returns-clause-best : goal.returns-clause-best
returns-clause-best t c =
    let a = c.args in
    rw (below_above a.table.now a.slot a.level (up c.if-level-eq0.false))
    (sofar_node a.holder.number a.holder.place (under a.table.now a.level) (entries_at a.table.now a.slot) a.best.now.marks.now c.loop-at.at-index c.loop-at.best.marks.now
    (omega (arith, c.loop-at-test.false, turns_length a.table.now a.slot a.holder.place _ _ c.count_at.ensures c.nearest-row.ensures, c.count_at.ensures)) c.loop-at.invariant.0)
