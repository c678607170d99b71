-- `cuts::parts::stop_at` meets its contract. The loop's invariant: the end that is found from `i` on, on this side of the quote marks, is the part's, and `i` goes no further than the end. Assumes nothing.
use native.Mathlib.Omega.{arith}
use Rattle.cuts.proofs.Steps.{stop_start}
use Rattle.cuts.proofs.parts.stop_at.Goals as goal

pub loop-i-init : goal.loop-i-init
loop-i-init c = (stop_start _ _ _, omega arith)
