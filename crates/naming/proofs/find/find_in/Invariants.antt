-- `naming::find::find_in` meets its contract. The loop's invariant: the number stands at none of the first `i` entries. Assumes nothing.
use mathlib.Core.Path.{◌≡◌}
use lib.ListN.{drop}
use Rattle.table.specs.Slots.{entries_at}
use Rattle.naming.specs.Named.{where_in}
use Rattle.naming.proofs.find.find_in.Given as goal

abbrev pub invariant-loop-i : goal.invariant-loop-i
invariant-loop-i l = where_in l.number (drop l.i (entries_at l.table l.slot)) ≡ where_in l.number (entries_at l.table l.slot)
