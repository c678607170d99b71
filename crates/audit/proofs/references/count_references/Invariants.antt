-- `references::count_references` meets its contract. The invariant: the references passed are counted, and no number is too large. Assumes nothing.
use Prim.Native.Nat.{ℕ, ◌+◌, ◌*◌, ◌≤◌, ◌<◌}
use mathlib.Core.List.{List, ◌++◌}
use lib.ListN.{get_or, take}
use Rattle.figures.specs.Figures.{FAN, SLOTS}
use Rattle.audit.specs.Seen.{refs_of, Tally}
use Rattle.audit.proofs.references.count_references.Given as goal

abbrev pub invariant-loop-e : goal.invariant-loop-e
invariant-loop-e l =
    ((s : ℕ) → s < SLOTS → get_or l.times s 0 ≤ FAN * SLOTS + l.e-index)
    × ((before : List ℕ) → Tally l.initial.times before → Tally l.times (before ++ refs_of (take l.e-index l.e-items)))
