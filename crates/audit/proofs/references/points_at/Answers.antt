-- `references::points_at` meets its contract: a leaf has as many points as entries. Assumes nothing.
use mathlib.Core.Path.{sym, ◌∙◌}
use borrow.Author.Tests.{eq-eqb}
use Rattle.table.specs.Slots.{level_at}
use Rattle.audit.proofs.Gathered.{points_length}
use Rattle.audit.proofs.references.points_at.Goals as goal

pub returns : goal.returns
returns c =
    let a = c.args in
    let ws = a.table.now in
    let e = eq-eqb (level_at ws a.slot) 0 (sym c.level_at.ensures ∙ c.if-level_at-ne0.false) in
    c.count_at.ensures ∙ sym (points_length ws a.slot e)
