-- `filter::walk::visit_leaf` meets its contract. The loop's invariant: the rows hold what the visits of the first `i` points have found. Assumes nothing.
use lib.ListN.{take}
use Rattle.table.specs.Slots.{entries_at}
use Rattle.filter.specs.Walk.{each, nearest_first, visited}
use Rattle.filter.specs.Rows.{rows_of, found_in, Noted, SameLent}
use Rattle.filter.proofs.walk.visit_leaf.Given as goal

abbrev pub invariant-loop-i : goal.invariant-loop-i
invariant-loop-i l =
    Noted l.q (each (visited l.q l.k) (take l.i (nearest_first l.q l.k (entries_at l.table l.slot))) (found_in l.q (rows_of l.initial.rows) l.initial.so_far)) (rows_of l.initial.rows) (rows_of l.rows) l.so_far
    × SameLent l.initial.rows l.rows
