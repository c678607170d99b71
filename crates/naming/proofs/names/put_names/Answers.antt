-- `naming::names::put_names` meets its contract. The loop's invariant: the names of the first `i` marks lie over the front of the list. Assumes nothing.
use native.Mathlib.Omega.{arith}
use Rattle.naming.proofs.CardNames.{names_next}
use Rattle.naming.proofs.names.put_names.Goals as goal

pub loop-i-preserved : goal.loop-i-preserved
loop-i-preserved c = names_next c.args.marks.now c.args.list.now c.loop-i.i (omega arith) (omega (arith, c.requires)) c.loop-i.invariant
