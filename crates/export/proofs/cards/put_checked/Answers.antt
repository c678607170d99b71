-- `cards::put_checked` meets its contract: a table that the check refuses leaves the row as it was; on one that passes each number has its stretch. Assumes nothing.
use mathlib.Core.Path.{refl, ◌∙◌}
use Rattle.limits.proofs.Refused.{not_done}
use Rattle.limits.proofs.CallTests.{one_passed}
use Rattle.refusals.proofs.CallOrder.{passes}
use Rattle.export.specs.Cards.{cards_over}
use Rattle.export.proofs.CardLaws.{cards_refused, cards_done}
use Rattle.export.proofs.cards.put_checked.Goals as goal

pub returns-in_err-check-clause-cards : goal.returns-in_err-check-clause-cards
returns-in_err-check-clause-cards c =
    let a = c.args in
    cards_refused a.table.now a.k a.numbers.now a.cards.now c.in_err-check.ensures (not_done _)

-- a table that passes is as long as a table is
pub returns-in_default-clause-given : goal.returns-in_default-clause-given
returns-in_default-clause-given c = absurd (c.in_default.ensures.cases (passes c.args.table.now c.in_ok-check.ensures refl).0)

pub returns-in_default-clause-cards : goal.returns-in_default-clause-cards
returns-in_default-clause-cards c = absurd (c.in_default.ensures.cases (passes c.args.table.now c.in_ok-check.ensures refl).0)

pub put_cards-requires : goal.put_cards-requires
put_cards-requires c = rw c.in-Some.ensures.cases.same (passes c.args.table.now c.in_ok-check.ensures refl)

pub returns-clause-cards : goal.returns-clause-cards
returns-clause-cards c =
    let a = c.args in
    let ns = a.numbers.now in
    let row = a.cards.now in
    let same = c.in-Some.ensures.cases.same in
    one_passed (λ k. cards_over a.table.now k ns row) a.k c.ranges.k (rw same at c.put_cards.ensures) ∙ cards_done a.table.now a.k ns row c.in_ok-check.ensures refl
