-- `grid::place::is_as_near` meets its contract: the test is the definition of `as_near`. Assumes nothing.
use mathlib.Core.Path.{refl}
use Rattle.grid.specs.AsNear.{as_near}
use Rattle.grid.proofs.place.is_as_near.Goals as goal

pub returns : goal.returns
unfolding as_near
returns c = refl
