-- `roster::lines::put_record` meets its contract, by what the record is given. Assumes nothing.
use mathlib.Core.Path.{sym, ap, ◌∙◌}
use native.Mathlib.Omega.{arith}
use Rattle.limits.proofs.Refused.{not_done}
use Rattle.roster.specs.Asked.{given_for, given_of}
use Rattle.roster.proofs.Holders.{line_refused, report_refused, report_granted}
use Rattle.roster.proofs.Copied.{nothing_laid}
use Rattle.roster.proofs.lines.put_record.Goals as goal

pub put_enrol-requires : goal.put_enrol-requires
unfolding given_of
put_enrol-requires c =
    let its = c.given_for-given.ensures ∙ ap given_for c.asked_by.ensures in
    (sym its ∙ c.in-Ok.is, omega (arith, c.requires.0))

pub returns-in-Ok-clause-laid_2 : goal.returns-in-Ok-clause-laid_2
unfolding given_of
returns-in-Ok-clause-laid_2 c =
    let its = c.given_for-given.ensures ∙ ap given_for c.asked_by.ensures in
    rw (report_granted c.args.item.now its c.args.number c.in-Ok.is) (nothing_laid _ _)

pub returns-in-Err-clause-laid : goal.returns-in-Err-clause-laid
unfolding given_of
returns-in-Err-clause-laid c =
    let its = c.given_for-given.ensures ∙ ap given_for c.asked_by.ensures in
    rw (line_refused c.args.item.now its (λ d. not_done _ (sym c.in-Err.is ∙ d))) (nothing_laid _ _)

pub returns-in-Err-clause-laid_2 : goal.returns-in-Err-clause-laid_2
unfolding given_of
returns-in-Err-clause-laid_2 c =
    let its = c.given_for-given.ensures ∙ ap given_for c.asked_by.ensures in
    rw (report_refused c.args.item.now its c.args.number (λ d. not_done _ (sym c.in-Err.is ∙ d))) c.put_report.ensures.laid
