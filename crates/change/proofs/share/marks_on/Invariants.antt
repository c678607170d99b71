-- `change::share::marks_on` meets its contract. The invariant: the sums of the first k entries are marked. Assumes nothing.
use mathlib.Core.List.{map}
use Rattle.grid.specs.Place.{sum_on}
use Rattle.order.proofs.Marks.{Marked}
use Rattle.change.proofs.share.marks_on.Given as goal

abbrev pub invariant-loop-k : goal.invariant-loop-k
invariant-loop-k l = Marked (map (λ e. sum_on l.axis e.rect) l.e-items) l.k l.marks
