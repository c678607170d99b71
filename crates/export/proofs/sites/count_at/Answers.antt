-- `sites::count_at` meets its contract: n where the query is granted, and 0 where it is refused. The slate stays as wide. Assumes nothing.
use native.Mathlib.Omega.{arith}
use mathlib.Core.Path.{refl, sym, subst}
use Rattle.std.specs.Prelude.{Ok, Err}
use Rattle.figures.specs.Figures.{MOST}
use Rattle.asking.specs.Slate.{slate_of, Wide}
use Rattle.refusals.specs.Told.{answered}
use Rattle.desk.specs.Alone.{AnswersAlone}
use Rattle.desk.proofs.Slates.{wide_left}
use Rattle.limits.proofs.Refused.{not_done}
use Rattle.limits.proofs.CallTests.{one_back}
use Rattle.export.proofs.SiteLaws.{count_refused, count_few, count_done}
use Rattle.export.proofs.sites.count_at.Goals as goal

pub overflow_cast-result : goal.overflow_cast-result
overflow_cast-result c =
    record { fits = omega (arith, count_few c.told-answers c.in-Ok.ensures.answers refl) }

pub returns-in-Ok-clause-count : goal.returns-in-Ok-clause-count
returns-in-Ok-clause-count c =
    let a = c.args in
    let l = c.answers_passing.new in
    count_done c.told-answers
    (one_back (λ k. AnswersAlone a.table.now a.site k (slate_of a.slate.now) (slate_of l.slate) a.answers.now l.answers (answered (Ok c.in-Ok.reply))) a.k c.ranges.k c.in-Ok.ensures.answers)
    refl

pub returns-in-Ok-clause-wide : goal.returns-in-Ok-clause-wide
returns-in-Ok-clause-wide c = subst (Wide MOST) (sym c.in-Ok.ensures.answers.slate) (wide_left _ _ _ _ c.requires.1)

pub returns-in-Err-clause-count : goal.returns-in-Err-clause-count
returns-in-Err-clause-count c =
    let a = c.args in
    let l = c.answers_passing.new in
    count_refused c.told-answers
    (one_back (λ k. AnswersAlone a.table.now a.site k (slate_of a.slate.now) (slate_of l.slate) a.answers.now l.answers (answered (Err c.in-Err.field-0))) a.k c.ranges.k c.in-Err.ensures.answers)
    (not_done _)

pub returns-in-Err-clause-wide : goal.returns-in-Err-clause-wide
returns-in-Err-clause-wide c = subst (Wide MOST) (sym c.in-Err.ensures.answers.slate) (wide_left _ _ _ _ c.requires.1)
