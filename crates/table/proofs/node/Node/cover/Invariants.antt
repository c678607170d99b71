-- `table::node::Node::cover` meets its contract. The invariant: `all` covers the first entry and those of the others that have passed. Assumes nothing.
use mathlib.Core.Path.{◌≡◌}
use lib.ListN.{take}
use Rattle.table.specs.Page.{cover_from}
use Rattle.table.proofs.node.Node.cover.Given as goal

abbrev pub invariant-loop-e : goal.invariant-loop-e
invariant-loop-e l = l.all ≡ cover_from l.initial.all (take l.e-index l.others)
