-- `numbers::mark` meets its contract. The invariant: the numbers passed are new, and the map marks them too. Assumes nothing.
use mathlib.Core.Bool.{true}
use mathlib.Core.List.{List}
use Prim.Native.Nat.{ℕ}
use lib.ListN.{take}
use Rattle.audit.specs.Seen.{refs_of, Marks, Entered}
use Rattle.audit.proofs.numbers.mark.Given as goal

abbrev pub invariant-loop-e : goal.invariant-loop-e
invariant-loop-e l = (before : List ℕ) → Marks l.initial.seen before → Entered before (refs_of (take l.e-index l.e-items)) true l.seen
