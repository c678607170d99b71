-- `table::node::Node::replaced` meets its contract: a store below the number is a store in the entries held. Assumes nothing.
use Prim.Native.Nat.{◌<◌}
use mathlib.Core.Path.{refl}
use native.Mathlib.Omega.{arith}
use lib.ListN.{length-set}
use lib.Seq.{take-set-lt}
use Rattle.table.proofs.Nodes.{full, shows}
use Rattle.table.proofs.node.Node.replaced.Goals as goal

pub returns : goal.returns
returns c =
    let a = c.args.self in
    let h : c.args.i < a.count = omega arith in
    shows _ _ (simp length-set (full a c.well_formed.0)) refl (rw take-set-lt)
