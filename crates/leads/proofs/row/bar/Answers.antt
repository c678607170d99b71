-- `leads::row::bar` meets its contract: a squared distance on the grid and 2²² for each step fit in a word. Assumes nothing.
use native.Mathlib.Omega.{arith}
use Rattle.grid.proofs.Rects.{dist_most}
use Rattle.leads.proofs.row.bar.Goals as goal

pub overflow_add-result-2 : goal.overflow_add-result-2
overflow_add-result-2 c =
    record { fits = omega (arith, dist_most c.requires.0 c.requires.1, c.square_to.ensures) }
