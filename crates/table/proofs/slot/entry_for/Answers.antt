-- `slot::entry_for` meets its contract: the node there shows the slot's page, which has few entries. Assumes nothing.
use mathlib.Core.Path.{refl, ap, ◌∙◌}
use Rattle.table.specs.Page.{cover_of}
use Rattle.table.specs.Slots.{entry_for}
use Rattle.table.proofs.Nodes.{entry_ext}
use Rattle.table.proofs.slot.entry_for.Goals as goal

pub returns : goal.returns
unfolding entry_for
returns c =
    entry_ext refl (c.cover.ensures ∙ ap cover_of c.node_at.ensures.entries)
