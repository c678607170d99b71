-- `filter::nearest::nearest` meets its contract. The loop's invariant: the squares of the first `i` entries are marked. The row is that of the marks. Assumes nothing.
use Prim.Native.Nat.{ℕ, ◌≤◌, ◌<◌}
use native.Mathlib.Omega.{arith}
use mathlib.Core.Path.{◌≡◌, sym, ap, ◌∙◌}
use mathlib.Core.List.{map}
use lib.ListN.{length, length-map}
use Rattle.grid.specs.Place.{RectOnGrid, least_square}
use Rattle.grid.proofs.Rects.{least_square_most}
use Rattle.order.specs.Order.{key_at, row_of, mark_of}
use Rattle.order.proofs.Lists.{map_at, all_at}
use Rattle.order.proofs.Marks.{marked_next, marked_keys}
use Rattle.table.specs.declared.node.Entry.{Entry}
use Rattle.table.specs.Page.{blank_entry}
use Rattle.table.specs.Slots.{entries_at}
use Rattle.table.proofs.Slots.{page_few}
use Rattle.filter.proofs.nearest.nearest.Invariants.{squares}
use Rattle.filter.proofs.nearest.nearest.Goals as goal

pub mark-requires : goal.mark-requires
mark-requires c =
    let a = c.args in
    let es = entries_at a.table.now a.slot in
    let in_node : c.loop-i.i < length es = omega (arith, c.count_at-count.ensures) in
    let read_grid : RectOnGrid c.entry_at-e.result.rect =
    rw c.entry_at-e.ensures (all_at (λ e. RectOnGrid e.rect) es c.loop-i.i blank_entry in_node c.requires.all) in (
      omega (arith, c.least_square.ensures, least_square_most read_grid c.requires.slot_value.1),
      omega (arith, page_few a.table.now a.slot),
    )

pub offset_bounds-marks-i : goal.offset_bounds-marks-i
offset_bounds-marks-i c = omega (arith, c.count_at-count.ensures, page_few c.args.table.now c.args.slot)

pub bounds-marks-i : goal.bounds-marks-i
bounds-marks-i c = omega (arith, c.count_at-count.ensures, page_few c.args.table.now c.args.slot)

pub loop-i-preserved : goal.loop-i-preserved
loop-i-preserved c =
    let a = c.args in
    let l = c.loop-i in
    let es = entries_at a.table.now a.slot in
    let in_node : l.i < length es = omega (arith, c.count_at-count.ensures) in
    let key : Entry → ℕ = λ e. least_square e.rect a.q in
    let square : c.least_square.result ≡ key_at (map key es) l.i =
    c.least_square.ensures ∙ ap key c.entry_at-e.ensures ∙ sym (map_at key es blank_entry 0 l.i in_node) in
    marked_next (map key es) l.i l.marks c.mark.result l.invariant (omega (arith, page_few a.table.now a.slot)) (c.mark.ensures ∙ ap (λ k. mark_of k l.i) square)

pub returns : goal.returns
returns c =
    let a = c.args in
    let keys = squares a.table.now a.slot a.q in
    let count : ℕ = c.count_at-count.result in
    let few : count ≤ 10 = omega (arith, c.count_at-count.ensures, page_few a.table.now a.slot) in
    let many : length keys ≡ count = length-map (entries_at a.table.now a.slot) (λ e. least_square e.rect a.q) ∙ sym c.count_at-count.ensures in
    let e : c.loop-i.i ≡ count = omega arith in
    c.in_order.ensures ∙ ap row_of (marked_keys keys count c.loop-i.marks (rw e at c.loop-i.invariant) few many)
