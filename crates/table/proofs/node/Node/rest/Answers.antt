-- `table::node::Node::rest` meets its contract: the entries from k on are copied to the front. Assumes nothing.
use mathlib.Core.Path.{refl, ap}
use mathlib.Core.List.{[]}
use native.Mathlib.Omega.{arith}
use lib.ListN.{length, length-take, length-drop}
use Rattle.table.specs.declared.node.Entry.{Entry}
use Rattle.table.proofs.Nodes.{full, runs_show, drop_take}
use Rattle.table.proofs.node.Node.rest.Goals as goal

pub returns : goal.returns
returns c =
    let k = c.args.k in
    let a = c.args.self in
    let f = full a c.well_formed.0 in
    let made = c.copy_from_slice.ensures.after in
    runs_show _ _ [] c.copy_from_slice.new.self _ refl
    (omega (arith, ap length made, length-take {A = Entry}, length-drop {A = Entry}))
    refl (rw (made, drop_take))
