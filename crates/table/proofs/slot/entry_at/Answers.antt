-- `slot::entry_at` meets its contract: the slot's part is lent. Assumes nothing.
use mathlib.Core.Path.{ap, ◌∙◌}
use native.Mathlib.Omega.{arith}
use Rattle.table.specs.Words.{Words}
use Rattle.table.specs.Page.{entry_of}
use Rattle.table.proofs.Slots.{page_few, entries_at_lem}
use Rattle.table.proofs.slot.entry_at.Goals as goal

pub entry_of-requires : goal.entry_of-requires
entry_of-requires c =
    omega (arith, page_few c.args.table.now c.args.slot)

pub returns : goal.returns
returns c =
    let a = c.args in
    c.entry_of.ensures
    ∙ ap (λ (part : Words). entry_of part a.i) c.part_of.ensures
    ∙ entries_at_lem a.table.now a.slot a.i c.requires.1
