-- `slot::count_at` meets its contract: the slot's part is lent. Assumes nothing.
use mathlib.Core.Path.{sym, ap, ◌∙◌}
use Rattle.table.specs.Page.{filled}
use Rattle.table.proofs.Slots.{entries_count}
use Rattle.table.proofs.slot.count_at.Goals as goal

pub returns : goal.returns
returns c =
    let a = c.args in
    c.filled_part.ensures
    ∙ ap filled c.part_of.ensures
    ∙ sym (entries_count a.table.now a.slot)
