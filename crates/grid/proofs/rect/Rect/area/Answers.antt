-- `grid::rect::Rect::area` meets its contract: two sides of at most two million steps have a product that fits. Assumes nothing.
use Rattle.grid.specs.Place.{area_of}
use Rattle.grid.proofs.rect.Rect.area.Goals as goal

pub returns : goal.returns
unfolding area_of
returns c = cc
