-- `filter::walk::walk` meets its contract, by recursion on the level. The loop's invariant: the rows hold what the turns of the first `i` children have found. Assumes nothing.
use Prim.Native.Nat.{◌-◌, ◌<◌}
use native.Mathlib.Omega.{arith}
use mathlib.Core.Path.{refl}
use lib.ListN.{length}
use Rattle.grid.specs.Place.{RectOnGrid}
use Rattle.table.specs.Slots.{entries_at}
use Rattle.table.proofs.Slots.{page_few}
use Rattle.order.proofs.Lists.{all_then}
use Rattle.filter.specs.Walk.{walk as walk_of}
use Rattle.filter.specs.Rows.{rows_of, found_in}
use Rattle.filter.proofs.RowLaws.{kept_read}
use Rattle.filter.proofs.Visits.{noted_same, still_lent, enter_hidden, enter_open, enter_ready}
use Rattle.filter.proofs.Turns.{walk_opens}
use Rattle.filter.proofs.Taken.{taken_below}
use Rattle.filter.proofs.NodeTurns.{passable_slot, passable_above, IsChild, above_turn, above_end}
use Rattle.filter.proofs.walk.+walk.Goals as goal
use Rattle.filter.proofs.walk.+walk.Goals.{then-near-k, else-near-k}

pub opening-so_far-requires : goal.opening-so_far-requires
opening-so_far-requires t c =
    let a = c.args in
    omega (arith, (walk_opens a.q a.k a.level a.table.now a.slot (found_in a.q (rows_of a.rows.now) a.seen)).opened, c.requires.ready.opened)

pub nearest-row-requires-clause-all : goal.nearest-row-requires-clause-all
nearest-row-requires-clause-all t c =
    let a = c.args in
    all_then (IsChild a.table.now (a.level - 1)) (λ e. RectOnGrid e.rect) (λ e h. h.0.grid) (entries_at a.table.now a.slot)
    (passable_above a.table.now a.slot a.level (omega arith) c.requires.passable)

pub loop-i-init : goal.loop-i-init
loop-i-init t c = (rw c.opening-so_far.ensures (noted_same c.requires.ready.kept), record { numbers = refl; xs = refl; ys = refl; bars = refl })

pub offset_bounds-row-i : goal.offset_bounds-row-i
offset_bounds-row-i t c = omega (arith, c.count_at-count.ensures, page_few c.args.table.now c.args.slot)

pub bounds-row-i : goal.bounds-row-i
bounds-row-i t c = omega (arith, c.count_at-count.ensures, page_few c.args.table.now c.args.slot)

pub entry_at-e-requires : goal.entry_at-e-requires
entry_at-e-requires t c =
    let a = c.args in
    let in_node : c.loop-i.i < length (entries_at a.table.now a.slot) = omega (arith, c.count_at-count.ensures) in (
      passable_slot a.level a.table.now a.slot c.requires.passable,
      taken_below (entries_at a.table.now a.slot) a.q a.k c.nearest-row.result c.nearest-row.ensures c.loop-i.i in_node,
    )

pub all_as_near-near-requires : goal.all_as_near-near-requires
all_as_near-near-requires t c =
    let a = c.args in
    let x = above_turn a.table.now a.slot c.requires.ready (omega arith) c.requires.passable c.loop-i.i c.nearest-row.ensures (omega (arith, c.count_at-count.ensures)) c.entry_at-e.ensures c.loop-i.invariant.0 in
    let l = c.leads.ensures in
    (kept_read l.xs l.ys l.bars x.ready.grid x.kept, x.good.0, x.ready.grid)

pub walk-so_far-requires : goal.walk-so_far-requires
walk-so_far-requires t c =
    let a = c.args in
    let x = above_turn a.table.now a.slot c.requires.ready (omega arith) c.requires.passable c.loop-i.i c.nearest-row.ensures (omega (arith, c.count_at-count.ensures)) c.entry_at-e.ensures c.loop-i.invariant.0 in
    let l = c.leads.ensures in (
      omega (arith, c.decreases),
      (x.good.1, enter_ready c.entry_at-e.result a.q a.k (rows_of c.loop-i.rows) c.loop-i.so_far _ (rw (l.xs, l.ys) at c.all_as_near-near.ensures) (walk_of a.q a.k (a.level - 1) a.table.now) c.if-near-k.true x.ready),
    )

pub loop-i-preserved : goal.loop-i-preserved
loop-i-preserved t c =
    let a = c.args in
    let x = above_turn a.table.now a.slot c.requires.ready (omega arith) c.requires.passable c.loop-i.i c.nearest-row.ensures (omega (arith, c.count_at-count.ensures)) c.entry_at-e.ensures c.loop-i.invariant.0 in
    let r = rows_of c.loop-i.rows in
    let opening = walk_of a.q a.k (a.level - 1) a.table.now in
    let l = c.leads.ensures in
    let counted = rw (l.xs, l.ys) at c.all_as_near-near.ensures in
    elim c.if-near-k.branch [
      | then-near-k w ↦ rw (w.rows-is, w.so_far-is) (
        x.done _ _ (rw (enter_open c.entry_at-e.result a.q a.k r c.loop-i.so_far _ counted opening w.if-near-k.true) w.walk-so_far.ensures.went),
        still_lent c.loop-i.invariant.1 w.walk-so_far.ensures.lent,
      )
      | else-near-k w ↦ rw (w.rows-is, w.so_far-is) (
        x.done _ _ (rw (enter_hidden c.entry_at-e.result a.q a.k r c.loop-i.so_far _ counted opening w.if-near-k.false) (noted_same x.kept)),
        c.loop-i.invariant.1,
      )
    ]

pub returns-clause-went : goal.returns-clause-went
returns-clause-went t c =
    let a = c.args in
    above_end a.q a.k a.table.now a.slot a.level a.seen (omega arith) _ (omega (arith, c.count_at-count.ensures)) c.loop-i.invariant.0
