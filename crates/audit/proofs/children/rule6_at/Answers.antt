-- `children::rule6_at` meets its contract: each entry is asked, and the child of each is a slot of the table by rule 5. Assumes nothing.
use Prim.Native.Nat.{◌<◌}
use mathlib.Core.Bool.{Bool}
use mathlib.Core.Path.{sym, subst, ◌∙◌}
use Rattle.std.proofs.Common.{rules}
use borrow.Author.Tests.{tests}
use Rattle.std.proofs.lemmas.Iterator.{YieldsList-from_slice}
use Rattle.std.proofs.lemmas.Iterator.Adapters.{serves_from_places}
use Rattle.std.proofs.lemmas.Iterator.Search.{all_from_yields_List}
use Rattle.order.specs.Lists.{All}
use Rattle.order.proofs.Lists.{all_at}
use Rattle.figures.specs.Figures.{SLOTS}
use Rattle.table.specs.declared.node.Entry.{Entry}
use Rattle.table.specs.Page.{cover_of}
use Rattle.table.specs.Slots.{entry_for, entries_at}
use Rattle.rules.specs.Rules.{same_rect, rule6}
use Rattle.audit.proofs.Every.{failed, passed, std_all}
use Rattle.audit.proofs.Entries.{children_inside}
use Rattle.audit.proofs.children.rule6_at.Goals as goal

pub returns-then-not-is_above : goal.returns-then-not-is_above
unfolding rule6
returns-then-not-is_above c = rw (failed c.is_above.ensures c.if-not-is_above.true)

pub all-requires-clause-callable : goal.all-requires-clause-callable
all-requires-clause-callable c =
    let above = passed c.is_above.ensures c.if-not-is_above.false in
    let es = c.held.result.now in
    let inside : All (λ e. e.reference < SLOTS) es =
    rw (c.held.ensures, c.node_at-n.ensures.entries) (children_inside c.args.table.now c.args.slot above c.requires.1) in
    serves_from_places (YieldsList-from_slice es c.iter.ensures.rest) (λ x q r. search rules)
    (λ x k h e.
    let low : x.now.reference < SLOTS = subst (λ (y : Entry). y.reference < SLOTS) (sym e) (all_at (λ y. y.reference < SLOTS) es k x.now h inside) in
    search rules)

pub returns : goal.returns
unfolding rule6 entry_for
returns c =
    let ws = c.args.table.now in
    let es = entries_at ws c.args.slot in
    let tight : Entry → Bool = λ e. same_rect e.rect (cover_of (entries_at ws e.reference)) in
    rw (passed c.is_above.ensures c.if-not-is_above.false)
    (all_from_yields_List tight _ _ c.all.result c.all.ensures.ran (YieldsList-from_slice es (c.iter.ensures.rest ∙ c.held.ensures ∙ c.node_at-n.ensures.entries)) (λ x b q k. search (rules, tests)) ∙ std_all tight es)
