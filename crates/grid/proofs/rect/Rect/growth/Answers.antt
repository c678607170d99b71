-- `grid::rect::Rect::growth` meets its contract: the grown rectangle is on the grid too, so its area is exact. Assumes nothing.
use mathlib.Core.Path.{ap, ◌∙◌}
use native.Mathlib.Omega.{arith}
use Rattle.grid.specs.Place.{area_of, growth_of}
use Rattle.grid.proofs.rect.Rect.growth.Goals as goal

pub returns : goal.returns
unfolding growth_of
returns c =
    let grown = c.area.ensures ∙ ap area_of c.grown.ensures in
    omega (arith, grown)
