-- `withdraw::withdraw` meets its contract: what the check refuses is refused, and a table that passes is one for `withdraw_passing`. Assumes nothing.
use mathlib.Core.Path.{refl, ◌∙◌}
use Rattle.limits.proofs.Refused.{not_done}
use Rattle.refusals.proofs.CallOrder.{passes, withdraw_first}
use Rattle.desk.proofs.Exits.{given_is}
use Rattle.desk.proofs.CallAfter.{withdraw_refused_lem}
use Rattle.desk.proofs.withdraw.withdraw.Goals as goal

pub returns-in_err-check-clause-given : goal.returns-in_err-check-clause-given
returns-in_err-check-clause-given c =
    let a = c.args in
    given_is _ c.from_residual.result c.from_residual.ensures.1 ∙ withdraw_first a.table.now c.in_err-check.ensures a.number (not_done _)

pub returns-in_err-check-clause-words : goal.returns-in_err-check-clause-words
returns-in_err-check-clause-words c =
    let a = c.args in
    let ws = a.table.now in
    withdraw_refused_lem ws a.number (withdraw_first ws c.in_err-check.ensures a.number (not_done _)) (not_done _)

-- a table that passes is as long as a table is
pub returns-in_default-clause-given : goal.returns-in_default-clause-given
returns-in_default-clause-given c = absurd (c.in_default.ensures.cases (passes c.args.table.now c.in_ok-check.ensures refl).0)

pub returns-in_default-clause-words : goal.returns-in_default-clause-words
returns-in_default-clause-words c = absurd (c.in_default.ensures.cases (passes c.args.table.now c.in_ok-check.ensures refl).0)

pub withdraw_passing-requires : goal.withdraw_passing-requires
withdraw_passing-requires c = rw c.in-Some.ensures.cases.same (passes c.args.table.now c.in_ok-check.ensures refl)
