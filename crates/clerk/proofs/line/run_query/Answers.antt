-- `clerk::line::run_query` meets its contract: a refusal prints its number, and a granted query its counts and its answers. Assumes nothing.
use native.Mathlib.Omega.{arith}
use mathlib.Core.Path.{sym}
use lib.Seq.{length-take-le}
use Rattle.clerk.proofs.Jobs.{answers_room, answers_ran, query_refused_ran}
use Rattle.clerk.proofs.line.run_query.Goals as goal

pub slice_bounds-answers-end : goal.slice_bounds-answers-end
slice_bounds-answers-end c = omega (arith, answers_room c.ranges.k c.in-Ok.r c.in-Ok.ensures.answers, c.answers_passing.auto.answers)

pub slice_bounds-answers-end-in-Ok : goal.slice_bounds-answers-end-in-Ok
slice_bounds-answers-end-in-Ok c =
    sym (length-take-le _ _ (omega (arith, answers_room c.ranges.k c.in-Ok.r c.in-Ok.ensures.answers, c.answers_passing.auto.answers)))

pub returns-in-Ok-clause-ran : goal.returns-in-Ok-clause-ran
returns-in-Ok-clause-ran c = answers_ran c.ranges.k c.in-Ok.r c.in-Ok.ensures.answers c.answers_passing.auto.answers c.answers.ensures.laid

pub returns-in-Err-clause-ran : goal.returns-in-Err-clause-ran
returns-in-Err-clause-ran c = query_refused_ran c.ranges.k c.in-Err.refused c.in-Err.ensures.answers c.number_given.ensures c.line.ensures.laid
