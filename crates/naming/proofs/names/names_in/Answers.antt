-- `naming::names::names_in` meets its contract. The loop's invariant: `n` counts the holders in the first `i` places. Assumes nothing.
use native.Mathlib.Omega.{arith}
use lib.Dec.{ltb}
use lib.ListN.{get_or}
use Rattle.order.specs.Order.{NONE}
use Rattle.order.proofs.Lists.{one_most, count_more}
use Rattle.naming.proofs.names.names_in.Goals as goal

pub loop-mark-preserved : goal.loop-mark-preserved
loop-mark-preserved c =
    let marks = c.args.marks.now in
    let i = c.loop-mark.mark-index in (
      omega (arith, c.one-n.ensures, one_most (ltb (get_or marks i 0) NONE)),
      omega (arith, c.one-n.ensures, count_more (λ m. ltb m NONE) marks i 0 (omega arith)),
    )
