-- `references::rule7_at` meets its contract: the tests in their order. Assumes nothing.
use mathlib.Core.Path.{◌≡◌, ap, sym, ◌∙◌}
use mathlib.Core.Bool.{true, false}
use borrow.Author.Tests.{eq-eqb, ne_eqb}
use native.Mathlib.Omega.{arith}
use lib.Dec.{eqb}
use Rattle.table.specs.Words.{root_of}
use Rattle.table.specs.Slots.{is_free}
use Rattle.rules.specs.Rules.{rule7}
use Rattle.audit.proofs.references.rule7_at.Goals as goal

pub returns-then-is_free : goal.returns-then-is_free
unfolding rule7
returns-then-is_free c =
    let a = c.args in
    let f : is_free a.table.now a.slot ≡ true = sym c.is_free.ensures ∙ c.if-is_free.true in
    rw f

pub returns-then-root_of-slot : goal.returns-then-root_of-slot
unfolding rule7
returns-then-root_of-slot c =
    let ws = c.args.table.now in
    let f : is_free ws c.args.slot ≡ false = sym c.is_free.ensures ∙ c.if-is_free.false in
    let e = eq-eqb (root_of ws) c.args.slot (sym c.root_of.ensures ∙ c.if-root_of-slot.true) in
    rw (f, e) (ap (λ n. eqb n 0) (c.requires.1.exact c.args.slot (omega arith)))

pub returns : goal.returns
unfolding rule7
returns c =
    let ws = c.args.table.now in
    let f : is_free ws c.args.slot ≡ false = sym c.is_free.ensures ∙ c.if-is_free.false in
    let e = ne_eqb (root_of ws) c.args.slot (λ q. c.if-root_of-slot.false (c.root_of.ensures ∙ q)) in
    rw (f, e) (ap (λ n. eqb n 1) (c.requires.1.exact c.args.slot (omega arith)))
