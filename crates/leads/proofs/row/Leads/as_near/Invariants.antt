-- `leads::row::Leads::as_near` meets its contract. The loop's invariant: `n` counts those of the first `i` candidates whose bar the place's sum reaches. Assumes nothing.
use Prim.Native.Nat.{◌≤◌}
use mathlib.Core.Path.{◌≡◌}
use Rattle.order.specs.Lists.{count}
use Rattle.order.specs.Order.{up_from}
use Rattle.leads.proofs.Laws.{place_test}
use Rattle.leads.proofs.row.Leads.as_near.Given as goal

abbrev pub invariant-loop-i : goal.invariant-loop-i
invariant-loop-i l = (l.n ≤ l.i) × (l.n ≡ count (place_test l.self.xs.now l.self.ys.now l.self.bars.now l.px l.py) (up_from 0 l.i))
