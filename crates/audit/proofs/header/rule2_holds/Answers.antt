-- `header::rule2_holds` meets its contract: the tests in their order. Assumes nothing.
use Rattle.std.proofs.Common.{rules}
use mathlib.Core.Path.{◌≡◌, ap, sym, ◌∙◌}
use mathlib.Core.Bool.{true, false}
use borrow.Author.Tests.{lt-ltb, le-ltb}
use Rattle.figures.specs.Figures.{SLOTS, MOST}
use Rattle.table.specs.Words.{root_of, between}
use Rattle.table.specs.Slots.{is_free}
use Rattle.rules.specs.Rules.{is_empty, rule2}
use native.Mathlib.Omega.{arith}
use Rattle.audit.proofs.header.rule2_holds.Goals as goal

pub returns-then-is_empty : goal.returns-then-is_empty
unfolding rule2
returns-then-is_empty c =
    let ws = c.args.table.now in
    let e : is_empty ws ≡ true = sym c.is_empty.ensures ∙ c.if-is_empty.true in
    rw e

pub returns-then-root-ge-SLOTS : goal.returns-then-root-ge-SLOTS
unfolding rule2
returns-then-root-ge-SLOTS c =
    let ws = c.args.table.now in
    let e : is_empty ws ≡ false = sym c.is_empty.ensures ∙ c.if-is_empty.false in
    rw (e, le-ltb (root_of ws) SLOTS (omega (arith, c.root_of-root.ensures)))

pub returns-then-is_free : goal.returns-then-is_free
unfolding rule2
returns-then-is_free c =
    let ws = c.args.table.now in
    let e : is_empty ws ≡ false = sym c.is_empty.ensures ∙ c.if-is_empty.false in
    let f : is_free ws (root_of ws) ≡ true = ap (is_free ws) (sym c.root_of-root.ensures) ∙ sym c.is_free.ensures ∙ c.if-is_free.true in
    rw (e, lt-ltb (root_of ws) SLOTS (omega (arith, c.root_of-root.ensures)), f)

pub returns : goal.returns
unfolding rule2
returns c =
    let past_root : rule2 c.args.table.now ≡ between 1 MOST c.points_of.result =
    let ws = c.args.table.now in
    let e : is_empty ws ≡ false = sym c.is_empty.ensures ∙ c.if-is_empty.false in
    let f : is_free ws (root_of ws) ≡ false = ap (is_free ws) (sym c.root_of-root.ensures) ∙ sym c.is_free.ensures ∙ c.if-is_free.false in
    rw (e, lt-ltb (root_of ws) SLOTS (omega (arith, c.root_of-root.ensures)), f) (ap (between 1 MOST) (sym c.points_of.ensures)) in
    let within : c.contains.result ≡ between 1 MOST c.points_of.result = search rules in
    within ∙ sym past_root
