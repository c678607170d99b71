-- `clerk::line::run_line` meets its contract, job by job. Assumes nothing.
use mathlib.Core.Path.{sym, ◌∙◌}
use borrow.Author.Rules.{rules}
use Rattle.clerk.proofs.Jobs.{line_ran, enrol_ran, withdraw_ran, query_back, card_back, missing_ran, misshapen_ran}
use Rattle.clerk.proofs.line.run_line.Goals as goal

pub returns-in-Enrol-clause-ran : goal.returns-in-Enrol-clause-ran
returns-in-Enrol-clause-ran c =
    let j = c.in-Enrol in
    let e = c.enrol_passing-given.ensures in
    line_ran (sym j.is ∙ c.job_of.ensures)
    (enrol_ran c.number_given.ensures j.n j.x j.y (search rules) (search rules) (search rules) e.given e.words c.line.ensures.laid)

pub returns-in-Withdraw-clause-ran : goal.returns-in-Withdraw-clause-ran
returns-in-Withdraw-clause-ran c =
    let j = c.in-Withdraw in
    let w = c.withdraw_passing-given.ensures in
    line_ran (sym j.is ∙ c.job_of.ensures)
    (withdraw_ran c.number_given-in-Withdraw.ensures j.n (search rules) w.given w.words c.line-in-Withdraw.ensures.laid)

pub returns-in-Query-clause-ran : goal.returns-in-Query-clause-ran
returns-in-Query-clause-ran c =
    let j = c.in-Query in
    line_ran (sym j.is ∙ c.job_of.ensures) (query_back j.x j.y j.k (search rules) (search rules) (search rules) c.run_query.ensures.ran)

pub returns-in-Card-clause-ran : goal.returns-in-Card-clause-ran
returns-in-Card-clause-ran c =
    let j = c.in-Card in
    line_ran (sym j.is ∙ c.job_of.ensures) (card_back j.n j.k (search rules) (search rules) c.run_card.ensures.ran)

pub returns-in-MissingK-clause-ran : goal.returns-in-MissingK-clause-ran
returns-in-MissingK-clause-ran c =
    let j = c.in-MissingK in
    line_ran (sym j.is ∙ c.job_of.ensures) (missing_ran j.letter c.number_given-in-MissingK.ensures c.line-in-MissingK.ensures.laid)

pub returns-in-Misshapen-clause-ran : goal.returns-in-Misshapen-clause-ran
returns-in-Misshapen-clause-ran c =
    line_ran (sym c.in-Misshapen.is ∙ c.job_of.ensures) (misshapen_ran c.number_given-in-Misshapen.ensures c.line-in-Misshapen.ensures.laid)
