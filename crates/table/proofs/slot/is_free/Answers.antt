-- `slot::is_free` meets its contract: the slot's part is lent. Assumes nothing.
use mathlib.Core.Path.{ap, ◌∙◌}
use Rattle.table.specs.Words.{Words, word, is_minus_one}
use Rattle.table.specs.Slots.{is_free}
use Rattle.table.proofs.slot.is_free.Goals as goal

pub returns : goal.returns
unfolding is_free
returns c =
    let a = c.args in
    c.is_free_part.ensures
    ∙ ap (λ (x : Words). is_minus_one (word x 0)) c.part_of.ensures
