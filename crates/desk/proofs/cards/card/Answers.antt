-- `cards::card` meets its contract: what the check refuses is refused, and a table that passes is one for `card_passing`. Assumes nothing.
use mathlib.Core.Path.{refl}
use lib.ListN.{length}
use Rattle.limits.proofs.Refused.{not_done}
use Rattle.refusals.proofs.CallOrder.{passes}
use Rattle.refusals.proofs.CardOrder.{check_not_short, card_first}
use Rattle.desk.proofs.Exits.{refused_is}
use Rattle.desk.proofs.CallCard.{card_refused_is}
use Rattle.desk.proofs.cards.card.Goals as goal

pub returns-in_err-check : goal.returns-in_err-check
returns-in_err-check c =
    let a = c.args in
    let ws = a.table.now in
    let old = a.list.now in
    let e = c.in_err-check.ensures in
    rw (refused_is _ c.from_residual.result c.from_residual.ensures.1)
    (card_refused_is ws a.number a.k old (card_first ws a.number a.k (length old) e (not_done _)) (not_done _) (check_not_short ws e))

-- a table that passes is as long as a table is
pub returns-in_default : goal.returns-in_default
returns-in_default c = absurd (c.in_default.ensures.cases (passes c.args.table.now c.in_ok-check.ensures refl).0)

pub card_passing-requires : goal.card_passing-requires
card_passing-requires c = rw c.in-Some.ensures.cases.same (passes c.args.table.now c.in_ok-check.ensures refl)
