-- `table::node::Node::without` meets its contract: the entries before i stay, and those behind it are copied one place up. Assumes nothing.
use mathlib.Core.Path.{refl, ap}
use native.Mathlib.Omega.{arith}
use lib.ListN.{length, take, length-take, length-drop}
use lib.Seq.{take-take}
use Rattle.table.specs.declared.node.Entry.{Entry}
use Rattle.table.proofs.Nodes.{full, runs_show, drop_take}
use Rattle.table.proofs.node.Node.without.Goals as goal

pub returns : goal.returns
returns c =
    let i = c.args.i in
    let a = c.args.self in
    let f = full a c.well_formed.0 in
    let made = c.copy_from_slice.ensures.after in
    runs_show _ _ (take i a.entries) c.copy_from_slice.new.self _ refl
    (omega (arith, ap length made, length-take {A = Entry}, length-drop {A = Entry}))
    refl (rw (made, drop_take, take-take i a.count a.entries (omega arith)))
