-- `change::share::placed_by` meets its contract. The invariant: the entries at the first k places of the row have been copied. Assumes nothing.
use mathlib.Core.Path.{◌≡◌}
use lib.Seq.{paste}
use Rattle.order.specs.Order.{pick}
use Rattle.table.specs.Page.{blank_entry}
use Rattle.change.proofs.share.placed_by.Given as goal

abbrev pub invariant-loop-k : goal.invariant-loop-k
invariant-loop-k l =
    l.entries ≡ paste l.n.entries 0 (pick l.n.entries blank_entry l.row) l.k
