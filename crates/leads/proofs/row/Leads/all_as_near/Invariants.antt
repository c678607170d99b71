-- `leads::row::Leads::all_as_near` meets its contract. The loop's invariant: `n` counts those of the first `i` candidates whose bar the sum of the corner that counts for them reaches. Assumes nothing.
use Prim.Native.Nat.{◌≤◌}
use mathlib.Core.Path.{◌≡◌}
use Rattle.order.specs.Lists.{count}
use Rattle.order.specs.Order.{up_from}
use Rattle.leads.proofs.Laws.{corner_test}
use Rattle.leads.proofs.row.Leads.all_as_near.Given as goal

abbrev pub invariant-loop-i : goal.invariant-loop-i
invariant-loop-i l =
    (l.n ≤ l.i) × (l.n ≡ count (corner_test l.self.xs.now l.self.ys.now l.self.bars.now l.low_x l.wide_x l.low_y l.wide_y) (up_from 0 l.i))
