-- The level falls where `holds` calls `child_place`, and stays where `child_place` calls `holds`. The loop's invariant: the number stands below no child passed.
use Prim.Native.Nat.{ℕ, ◌+◌, ◌*◌, ◌<◌}
use mathlib.Core.Path.{◌≡◌}
use mathlib.Core.Bool.{false}
use lib.ListN.{get_or}
use Rattle.table.specs.Page.{blank_entry}
use Rattle.leaving.specs.Withdraw.{holds as holds_of}
use Rattle.leaving.proofs.withdraw.+child_place_holds.Given as goal

abbrev pub decreases-child_place : goal.decreases-child_place
decreases-child_place l = 2 * l.level + 1

abbrev pub decreases-holds : goal.decreases-holds
decreases-holds l = 2 * l.level

abbrev pub invariant-child_place-loop-i : goal.invariant-child_place-loop-i
invariant-child_place-loop-i l = (k : ℕ) → k < l.i → holds_of l.level l.table (get_or l.e-items k blank_entry).reference l.number ≡ false
