-- `references::leaf_entries` meets its contract. The invariant: `points` is how many points the slots passed hold, eight a slot at most. Assumes nothing.
use Prim.Native.Nat.{◌*◌, ◌≤◌}
use mathlib.Core.Path.{◌≡◌}
use lib.ListN.{length}
use Rattle.order.specs.Lists.{join}
use Rattle.order.specs.Order.{up_from}
use Rattle.figures.specs.Figures.{FAN}
use Rattle.table.specs.Stations.{stations_at}
use Rattle.audit.proofs.references.leaf_entries.Given as goal

abbrev pub invariant-loop-slot : goal.invariant-loop-slot
invariant-loop-slot l = (l.points ≡ length (join (stations_at l.table) (up_from 0 l.slot))) × (l.points ≤ FAN * l.slot)
