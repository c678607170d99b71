-- `clerk::line::run_card` meets its contract: a refusal prints its number, and a granted card how many names it has, and those. Assumes nothing.
use native.Mathlib.Omega.{arith}
use mathlib.Core.Path.{sym}
use lib.Seq.{length-take-le}
use Rattle.clerk.proofs.Jobs.{names_room, names_ran, card_refused_ran}
use Rattle.clerk.proofs.line.run_card.Goals as goal

pub slice_bounds-names-end : goal.slice_bounds-names-end
slice_bounds-names-end c = omega (arith, names_room _ _ _ _ _ c.ranges.n c.ranges.k c.in-Ok.names c.in-Ok.ensures, c.card_passing.auto.list)

pub slice_bounds-names-end-in-Ok : goal.slice_bounds-names-end-in-Ok
slice_bounds-names-end-in-Ok c =
    sym (length-take-le _ _ (omega (arith, names_room _ _ _ _ _ c.ranges.n c.ranges.k c.in-Ok.names c.in-Ok.ensures, c.card_passing.auto.list)))

pub returns-in-Ok-clause-ran : goal.returns-in-Ok-clause-ran
returns-in-Ok-clause-ran c = names_ran _ _ _ _ _ c.ranges.n c.ranges.k c.in-Ok.names c.in-Ok.ensures c.card_passing.auto.list c.names.ensures.laid

pub returns-in-Err-clause-ran : goal.returns-in-Err-clause-ran
returns-in-Err-clause-ran c = card_refused_ran _ _ _ _ _ c.ranges.n c.ranges.k c.in-Err.refused c.in-Err.ensures c.number_given.ensures c.line.ensures.laid
