-- `filter::walk::walk` meets its contract, by recursion on the level. The loop's invariant: the rows hold what the turns of the first `i` children have found. Assumes nothing.
use Prim.Native.Nat.{◌-◌}
use lib.ListN.{take}
use Rattle.table.specs.Slots.{entries_at}
use Rattle.filter.specs.Walk.{each, nearest_first, with_opened, entered, walk as walk_of}
use Rattle.filter.specs.Rows.{rows_of, found_in, Noted, SameLent}
use Rattle.filter.proofs.walk.+walk.Given as goal

abbrev pub invariant-loop-i : goal.invariant-loop-i
invariant-loop-i l =
    Noted l.q
    (each (entered l.q l.k (walk_of l.q l.k (l.level - 1) l.table)) (take l.i (nearest_first l.q l.k (entries_at l.table l.slot)))
    (with_opened l.q l.k (found_in l.q (rows_of l.initial.rows) l.fn.seen)))
    (rows_of l.initial.rows) (rows_of l.rows) l.so_far
    × SameLent l.initial.rows l.rows

abbrev pub decreases-walk : goal.decreases-walk
decreases-walk l = l.level
