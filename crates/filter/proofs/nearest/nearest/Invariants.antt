-- `filter::nearest::nearest` meets its contract. The loop's invariant: the squares of the first `i` entries are marked. The row is that of the marks. Assumes nothing.
use Prim.Native.Nat.{ℕ}
use mathlib.Core.List.{List, map}
use lib.IntN.{ℤ}
use Rattle.grid.specs.declared.place.Place.{Place}
use Rattle.grid.specs.Place.{least_square}
use Rattle.order.proofs.Marks.{Marked}
use Rattle.table.specs.Slots.{entries_at}
use Rattle.filter.proofs.nearest.nearest.Given as goal

abbrev pub squares : List ℤ → ℕ → Place → List ℕ
squares table slot q = map (λ e. least_square e.rect q) (entries_at table slot)

abbrev pub invariant-loop-i : goal.invariant-loop-i
invariant-loop-i l = Marked (squares l.table l.slot l.q) l.i l.marks
