-- `children::rule5_at` meets its contract. Assumes nothing.
use Rattle.std.proofs.Common.{rules}
use Rattle.std.proofs.lemmas.Iterator.{YieldsList-from_slice}
use Rattle.std.proofs.lemmas.Iterator.Search.{all_from_yields_List}
use borrow.Author.Tests.{tests}
use mathlib.Core.Path.{◌∙◌}
use Rattle.table.specs.Slots.{entries_at}
use Rattle.rules.specs.Rules.{is_child, rule5}
use Rattle.audit.proofs.Every.{failed, passed, std_all}
use Rattle.audit.proofs.children.rule5_at.Goals as goal

pub returns-then-not-is_above : goal.returns-then-not-is_above
unfolding rule5
returns-then-not-is_above c = rw (failed c.is_above.ensures c.if-not-is_above.true)

pub returns : goal.returns
unfolding rule5
returns c =
    let test = is_child c.args.table.now c.args.slot in
    let es = entries_at c.args.table.now c.args.slot in
    rw (passed c.is_above.ensures c.if-not-is_above.false)
    (all_from_yields_List test _ _ c.all.result c.all.ensures.ran (YieldsList-from_slice es (c.iter.ensures.rest ∙ c.held.ensures ∙ c.node_at-n.ensures.entries)) (λ x b q k. search (rules, tests)) ∙ std_all test es)
