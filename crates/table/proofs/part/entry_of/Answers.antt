-- `part::entry_of` meets its contract: each field is the word that its read ensures. Assumes nothing.
use Rattle.table.specs.Page.{entry_of}
use Rattle.table.proofs.Slots.{entry_fields}
use Rattle.table.proofs.part.entry_of.Goals as goal

pub returns : goal.returns
unfolding entry_of
returns c =
    entry_fields
    c.natural_at.ensures
    c.steps_at.ensures
    c.steps_at-3.ensures
    c.steps_at-2.ensures
    c.steps_at-4.ensures
