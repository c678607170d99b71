-- `shape::rule1_at` meets its contract: zeros are asked from where its used words end. Assumes nothing.
use mathlib.Core.Path.{◌≡◌, sym, ◌∙◌}
use mathlib.Core.Bool.{true, false}
use Rattle.table.specs.Words.{word, is_minus_one, part_at}
use Rattle.table.specs.Page.{filled}
use Rattle.rules.specs.Rules.{rule1}
use Rattle.audit.proofs.shape.rule1_at.Goals as goal

pub returns-then-is_free_part : goal.returns-then-is_free_part
unfolding rule1
returns-then-is_free_part c =
    let a = c.args in
    let p = c.part_of-words.ensures in
    let f : is_minus_one (word (part_at a.table.now a.slot) 0) ≡ true = sym (rw p at c.is_free_part.ensures) ∙ c.if-is_free_part.true in
    rw f (rw p at c.zeros_from.ensures)

pub returns : goal.returns
unfolding rule1
returns c =
    let a = c.args in
    let part = part_at a.table.now a.slot in
    let p = c.part_of-words.ensures in
    let f : is_minus_one (word part 0) ≡ false = sym (rw p at c.is_free_part.ensures) ∙ c.if-is_free_part.false in
    let n : c.filled_part.result ≡ filled part = rw p at c.filled_part.ensures in
    rw (f, ← n) (rw p at c.zeros_from-2.ensures)
