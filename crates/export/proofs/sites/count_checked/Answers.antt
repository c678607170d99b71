-- `sites::count_checked` meets its contract: a table that the check refuses leaves the row as it was; on one that passes the places are counted. Assumes nothing.
use mathlib.Core.Path.{refl, ◌∙◌}
use native.Mathlib.Omega.{arith}
use Rattle.limits.proofs.Refused.{not_done}
use Rattle.limits.proofs.CallTests.{one_passed}
use Rattle.refusals.proofs.CallOrder.{passes}
use Rattle.export.specs.Sites.{counts_over}
use Rattle.export.proofs.SiteLaws.{sites_refused, sites_done}
use Rattle.export.proofs.sites.count_checked.Goals as goal

pub returns-in_err-check-clause-counts : goal.returns-in_err-check-clause-counts
returns-in_err-check-clause-counts c =
    let a = c.args in
    sites_refused a.table.now a.k a.xs.now a.ys.now a.counts.now c.in_err-check.ensures (not_done _)

-- a table that passes is as long as a table is
pub returns-in_default-clause-given : goal.returns-in_default-clause-given
returns-in_default-clause-given c = absurd (c.in_default.ensures.cases (passes c.args.table.now c.in_ok-check.ensures refl).0)

pub returns-in_default-clause-counts : goal.returns-in_default-clause-counts
returns-in_default-clause-counts c = absurd (c.in_default.ensures.cases (passes c.args.table.now c.in_ok-check.ensures refl).0)

pub count_all-requires : goal.count_all-requires
count_all-requires c =
    (rw c.in-Some.ensures.cases.same (passes c.args.table.now c.in_ok-check.ensures refl), record { noted = record { numbers = omega arith; xs = omega arith; ys = omega arith; bars = omega arith }; kept = omega arith })

pub returns-clause-counts : goal.returns-clause-counts
returns-clause-counts c =
    let a = c.args in
    let xs = a.xs.now in
    let ys = a.ys.now in
    let row = a.counts.now in
    let same = c.in-Some.ensures.cases.same in
    one_passed (λ k. counts_over a.table.now k xs ys row) a.k c.ranges.k (rw same at c.count_all.ensures.counts) ∙ sites_done a.table.now a.k xs ys row c.in_ok-check.ensures refl
