-- `filter::walk::visit_leaf` meets its contract. The loop's invariant: the rows hold what the visits of the first `i` points have found. Assumes nothing.
use Prim.Native.Nat.{◌<◌}
use native.Mathlib.Omega.{arith}
use mathlib.Core.Path.{◌≡◌, refl}
use mathlib.Core.Bool.{true}
use lib.ListN.{length}
use Rattle.grid.specs.Place.{RectOnGrid}
use Rattle.table.specs.Slots.{entries_at}
use Rattle.table.specs.Stations.{is_point}
use Rattle.table.proofs.Slots.{page_few}
use Rattle.order.proofs.Lists.{all_then}
use Rattle.rules.proofs.Reading.{point, point_upright}
use Rattle.filter.proofs.Visits.{noted_same, still_lent}
use Rattle.filter.proofs.Taken.{taken_below}
use Rattle.filter.proofs.NodeTurns.{leaf_turn, leaf_end}
use Rattle.filter.proofs.walk.visit_leaf.Goals as goal

pub nearest-row-requires-clause-all : goal.nearest-row-requires-clause-all
nearest-row-requires-clause-all c =
    all_then (λ e. is_point e ≡ true) (λ e. RectOnGrid e.rect) (λ e h. (point_upright (point e h)).grid) (entries_at c.args.table.now c.args.slot) c.requires.slot_value.1

pub loop-i-init : goal.loop-i-init
loop-i-init c = (noted_same c.requires.ready.kept, record { numbers = refl; xs = refl; ys = refl; bars = refl })

pub offset_bounds-row-i : goal.offset_bounds-row-i
offset_bounds-row-i c = omega (arith, c.count_at-count.ensures, page_few c.args.table.now c.args.slot)

pub bounds-row-i : goal.bounds-row-i
bounds-row-i c = omega (arith, c.count_at-count.ensures, page_few c.args.table.now c.args.slot)

pub entry_at-e-requires : goal.entry_at-e-requires
entry_at-e-requires c =
    let a = c.args in
    let in_node : c.loop-i.i < length (entries_at a.table.now a.slot) = omega (arith, c.count_at-count.ensures) in
    (c.requires.slot_value.0, taken_below (entries_at a.table.now a.slot) a.q a.k c.nearest-row.result c.nearest-row.ensures c.loop-i.i in_node)

pub visit-so_far-requires : goal.visit-so_far-requires
visit-so_far-requires c =
    let x = leaf_turn c.requires.slot_value.1 c.requires.ready c.loop-i.i c.nearest-row.ensures (omega (arith, c.count_at-count.ensures)) c.entry_at-e.ensures c.loop-i.invariant.0 in
    (x.good, x.ready)

pub loop-i-preserved : goal.loop-i-preserved
loop-i-preserved c =
    let x = leaf_turn c.requires.slot_value.1 c.requires.ready c.loop-i.i c.nearest-row.ensures (omega (arith, c.count_at-count.ensures)) c.entry_at-e.ensures c.loop-i.invariant.0 in
    (x.done _ _ c.visit-so_far.ensures.went, still_lent c.loop-i.invariant.1 c.visit-so_far.ensures.lent)

pub returns-clause-went : goal.returns-clause-went
returns-clause-went c =
    let a = c.args in
    leaf_end a.q a.k (entries_at a.table.now a.slot) a.seen _ (omega (arith, c.count_at-count.ensures)) c.loop-i.invariant.0
