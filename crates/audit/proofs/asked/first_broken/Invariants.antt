-- `asked::first_broken` meets its contract. The invariant: each slot passed was answered yes. Assumes nothing.
use Prim.Native.Nat.{ℕ, ◌<◌}
use mathlib.Core.Bool.{true}
use Rattle.audit.proofs.asked.first_broken.Given as goal

abbrev pub invariant-loop-slot : goal.invariant-loop-slot
invariant-loop-slot g l = (k : ℕ) → k < l.slot → goal.F-post g l.holds k true
