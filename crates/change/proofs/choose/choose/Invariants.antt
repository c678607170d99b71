-- `change::choose::choose` meets its contract. The invariant: `best` is the choice among the first k entries. Assumes nothing.
use Prim.Native.Nat.{◌-◌, ◌<◌}
use mathlib.Core.Path.{◌≡◌}
use Rattle.table.specs.Page.{held}
use Rattle.change.specs.Choose.{chosen_up_to}
use Rattle.change.proofs.choose.choose.Given as goal

abbrev pub invariant-loop-k : goal.invariant-loop-k
invariant-loop-k l = (l.best < l.k) × (l.best ≡ chosen_up_to l.new (held l.n) (l.k - 1))
