-- `naming::names::names_in` meets its contract. The loop's invariant: `n` counts the holders in the first `i` places. Assumes nothing.
use Prim.Native.Nat.{◌≤◌}
use mathlib.Core.Path.{◌≡◌}
use lib.Dec.{ltb}
use lib.ListN.{take}
use Rattle.order.specs.Lists.{count as count_of}
use Rattle.order.specs.Order.{NONE}
use Rattle.naming.proofs.names.names_in.Given as goal

abbrev pub invariant-loop-mark : goal.invariant-loop-mark
invariant-loop-mark l = (l.n ≤ l.mark-index) × (l.n ≡ count_of (λ m. ltb m NONE) (take l.mark-index l.marks))
