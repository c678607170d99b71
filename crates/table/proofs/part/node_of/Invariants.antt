-- `part::node_of` meets its contract. The invariant: the first `i` entries have been read. Assumes nothing.
use mathlib.Core.Path.{◌≡◌}
use mathlib.Core.List.{map}
use lib.ListN.{length, take}
use Rattle.order.specs.Order.{up_from}
use Rattle.table.specs.Page.{entry_of}
use Rattle.table.proofs.part.node_of.Given as goal

abbrev pub invariant-loop-i : goal.invariant-loop-i
invariant-loop-i l = (length l.entries ≡ 10) × (take l.i l.entries ≡ map (entry_of l.part) (up_from 0 l.i))
