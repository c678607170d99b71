-- `slot::part_of` meets its contract: from the slot's start to the next slot's. Assumes nothing.
use mathlib.Core.Path.{◌∙◌}
use Rattle.table.proofs.Parts.{lent_part}
use Rattle.table.proofs.slot.part_of.Goals as goal

pub returns : goal.returns
returns c =
    let lent = rw c.unwrap.ensures at c.as_array.ensures.cases in
    lent.same ∙ lent_part c.args.table.now c.args.slot c.start.result c.start-2.result c.start.ensures c.start-2.ensures
