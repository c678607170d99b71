-- `sheet::marks::stop_from` meets its contract. The loop's invariant: the search from `i` finds what the search from `at` does, and `i` goes no further than the end. Assumes nothing.
use Prim.Native.Nat.{max, ◌≤◌}
use mathlib.Core.Path.{◌≡◌}
use lib.ListN.{length}
use Rattle.sheet.specs.Marks.{stop_from}
use Rattle.sheet.proofs.marks.stop_from.Given as goal

abbrev pub invariant-loop-i : goal.invariant-loop-i
invariant-loop-i l =
    (stop_from l.mark l.bytes l.i ≡ stop_from l.mark l.bytes l.at) × (l.i ≤ max l.at (length l.bytes))
