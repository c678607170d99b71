-- `slot::put_no_root` meets its contract: those steps are the word −1. Assumes nothing.
use mathlib.Core.Path.{ap, ◌∙◌}
use lib.ListN.{set}
use Rattle.table.proofs.Parts.{none_word}
use Rattle.table.proofs.slot.put_no_root.Goals as goal

pub returns : goal.returns
returns c =
    c.put_steps.ensures ∙ ap (set c.args.table.now 0) none_word
