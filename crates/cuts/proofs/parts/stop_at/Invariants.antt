-- `cuts::parts::stop_at` meets its contract. The loop's invariant: the end that is found from `i` on, on this side of the quote marks, is the part's, and `i` goes no further than the end. Assumes nothing.
use Prim.Native.Nat.{max, ◌≤◌}
use mathlib.Core.Path.{◌≡◌}
use lib.ListN.{length}
use Rattle.cuts.specs.Places.{is_outside, stop_at}
use Rattle.cuts.proofs.Steps.{stop_from}
use Rattle.cuts.proofs.parts.stop_at.Given as goal

abbrev pub invariant-loop-i : goal.invariant-loop-i
invariant-loop-i l =
    (stop_from l.mark (is_outside l.side) l.bytes l.i ≡ stop_at l.mark l.bytes l.at) × (l.i ≤ max l.at (length l.bytes))
