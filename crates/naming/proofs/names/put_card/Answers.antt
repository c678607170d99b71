-- `naming::names::put_card` meets its contract: a station stands on the grid. Assumes nothing.
use Rattle.naming.proofs.CardNames.{stands_grid}
use Rattle.naming.proofs.names.put_card.Goals as goal

pub invariant_of-holder : goal.invariant_of-holder
invariant_of-holder c =
    let a = c.args in
    record { on_grid = stands_grid a.table.now c.requires.table a.number a.place c.requires.station }
