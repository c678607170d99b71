-- `slot::lowest_free` meets its contract. The invariant: all slots below are used. Assumes nothing.
use Prim.Native.Nat.{ℕ, ◌<◌}
use mathlib.Core.Path.{◌≡◌}
use mathlib.Core.Bool.{false}
use Rattle.table.specs.Slots.{is_free}
use Rattle.table.proofs.slot.lowest_free.Given as goal

abbrev pub invariant-loop-slot : goal.invariant-loop-slot
invariant-loop-slot l = (o : ℕ) → o < l.slot → is_free l.table o ≡ false
