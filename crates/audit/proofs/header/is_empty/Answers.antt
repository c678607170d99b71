-- `header::is_empty` meets its contract: the tests in their order. Assumes nothing.
use mathlib.Core.Path.{◌≡◌, refl, sym, ◌∙◌}
use mathlib.Core.Bool.{true, false}
use Rattle.std.proofs.Common.{rules}
use Rattle.std.proofs.lemmas.Iterator.{YieldsList-from_range}
use Rattle.std.proofs.lemmas.Iterator.Search.{all_from_yields_List}
use borrow.Author.Tests.{eq-eqb, ne_eqb, tests}
use Rattle.words.specs.Word.{steps_of}
use Rattle.table.specs.Words.{word, is_minus_one, points_of}
use Rattle.std.specs.List.{list_all}
use Rattle.figures.specs.Figures.{SLOTS}
use Rattle.table.specs.Slots.{slots, is_free}
use Rattle.rules.specs.Rules.{is_empty}
use Rattle.audit.proofs.Every.{std_all}
use Rattle.table.proofs.Parts.{none_steps}
use Rattle.audit.proofs.header.is_empty.Goals as goal

pub returns-then-steps_at-ne-NONE : goal.returns-then-steps_at-ne-NONE
unfolding is_empty
returns-then-steps_at-ne-NONE c =
    let z = word c.args.table.now 0 in
    let f : is_minus_one z ≡ false = sym (none_steps z) ∙ ne_eqb (steps_of z) 2147483647 (λ e. c.if-steps_at-ne-NONE.true (c.steps_at.ensures ∙ e)) in
    rw f

pub returns-then-points_of-ne0 : goal.returns-then-points_of-ne0
unfolding is_empty
returns-then-points_of-ne0 c =
    let ws = c.args.table.now in
    let z = word ws 0 in
    let f : is_minus_one z ≡ true = sym (none_steps z) ∙ eq-eqb (steps_of z) 2147483647 (sym c.steps_at.ensures ∙ c.if-steps_at-ne-NONE.false) in
    rw (f, ne_eqb (points_of ws) 0 (λ e. c.if-points_of-ne0.true (c.points_of.ensures ∙ e)))

pub returns : goal.returns
unfolding is_empty
returns c =
    let ws = c.args.table.now in
    let z = word ws 0 in
    let f : is_minus_one z ≡ true = sym (none_steps z) ∙ eq-eqb (steps_of z) 2147483647 (sym c.steps_at.ensures ∙ c.if-steps_at-ne-NONE.false) in
    let all : c.all.result ≡ list_all (is_free ws) slots =
    all_from_yields_List (is_free ws) _ _ c.all.result c.all.ensures.ran (YieldsList-from_range 0 SLOTS SLOTS refl refl) (λ x b q k. search (rules, tests)) in
    rw (f, eq-eqb (points_of ws) 0 (sym c.points_of.ensures ∙ c.if-points_of-ne0.false)) (all ∙ std_all (is_free ws) slots)
