-- `query::query` meets its contract: what the check refuses is refused, and a table that passes is one for `query_passing`. Assumes nothing.
use mathlib.Core.Path.{refl}
use lib.ListN.{length}
use Rattle.limits.proofs.Refused.{not_done}
use Rattle.refusals.proofs.CallOrder.{passes}
use Rattle.refusals.proofs.QueryOrder.{answers_told, query_first}
use Rattle.desk.proofs.Exits.{refused_is}
use Rattle.desk.proofs.CallList.{list_refused}
use Rattle.desk.proofs.query.query.Goals as goal

pub returns-in_err-check : goal.returns-in_err-check
returns-in_err-check c =
    let a = c.args in
    let ws = a.table.now in
    let ys = a.candidates.now in
    rw (refused_is _ c.from_residual.result c.from_residual.ensures.1)
    (list_refused ws a.q a.k ys a.answers.now (query_first ws a.q a.k (length ys) c.in_err-check.ensures (not_done _) (answers_told ws a.q a.k)) (not_done _))

-- a table that passes is as long as a table is
pub returns-in_default : goal.returns-in_default
returns-in_default c = absurd (c.in_default.ensures.cases (passes c.args.table.now c.in_ok-check.ensures refl).0)

pub query_passing-requires : goal.query_passing-requires
query_passing-requires c = rw c.in-Some.ensures.cases.same (passes c.args.table.now c.in_ok-check.ensures refl)
