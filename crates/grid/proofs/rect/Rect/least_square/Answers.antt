-- `grid::rect::Rect::least_square` meets its contract: the two axes' squares fit together. Assumes nothing.
use Prim.Native.Nat.{◌≤◌}
use native.Mathlib.Omega.{arith}
use borrow.Author.Rules.{rules}
use Rattle.grid.specs.Place.{least_square}
use Rattle.axis.proofs.Axis.{gap_square_most}
use Rattle.grid.proofs.rect.Rect.least_square.Goals as goal

pub overflow_add-result : goal.overflow_add-result
overflow_add-result c =
    let x : c.gap_square.result ≤ 4000000000000 = rw c.gap_square.ensures (gap_square_most _ _ (search rules) (search rules)) in
    let y : c.gap_square-2.result ≤ 4000000000000 = rw c.gap_square-2.ensures (gap_square_most _ _ (search rules) (search rules)) in
    record { fits = omega arith }

pub returns : goal.returns
unfolding least_square
returns c = omega arith
