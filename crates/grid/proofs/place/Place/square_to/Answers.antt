-- `grid::place::Place::square_to` meets its contract: the two axes' squares fit together. Assumes nothing.
use Prim.Native.Nat.{◌≤◌}
use native.Mathlib.Omega.{arith}
use borrow.Author.Rules.{rules}
use Rattle.grid.specs.Place.{dist²}
use Rattle.axis.proofs.Axis.{sq_most}
use Rattle.grid.proofs.place.Place.square_to.Goals as goal

pub overflow_add-result : goal.overflow_add-result
overflow_add-result c =
    let x : c.square.result ≤ 4000000000000 = rw c.square.ensures (sq_most _ _ (search rules) (search rules)) in
    let y : c.square-2.result ≤ 4000000000000 = rw c.square-2.ensures (sq_most _ _ (search rules) (search rules)) in
    record { fits = omega arith }

pub returns : goal.returns
unfolding dist²
returns c = omega arith
