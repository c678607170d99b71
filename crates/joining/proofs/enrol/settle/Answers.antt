-- `joining::enrol::settle` meets its contract: by the number of entries, as the definition. Assumes nothing.
use Rattle.table.proofs.Nodes.{full}
use Rattle.joining.specs.Within.{grew}
use Rattle.joining.proofs.Settling.{settled_kept, settled_split}
use Rattle.joining.proofs.enrol.settle.Goals as goal

pub returns-then-n-le-FAN : goal.returns-then-n-le-FAN
returns-then-n-le-FAN c =
    settled_kept c.args.table.now c.args.slot c.args.n c.put_node_at.new.table c.if-n-le-FAN.true
    c.put_node_at.ensures

pub returns : goal.returns
returns c =
    let n = c.args.n in
    settled_split c.args.table.now c.args.slot n (grew c.split.new.table c.split.result) (full n c.well_formed.1.1.0)
    c.requires.nine c.if-n-le-FAN.false c.split.ensures
