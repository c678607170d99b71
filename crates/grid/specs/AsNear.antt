-- 02 §2: what "as near or nearer" means, and the corner test. Nothing else in the repository looks inside `as_near`.
use Rattle.std.specs.Prelude.{ℕ, Bool, ◌&&◌, leb}
use Rattle.grid.specs.declared.place.Place.{Place}
use Rattle.grid.specs.declared.rect.Rect.{Rect}
use Rattle.grid.specs.Place.{dist²}

-- a holder at squared distance d is as near as one at e, or nearer: a newcomer does not displace an equal
unfoldable pub as_near : ℕ → ℕ → Bool
as_near d e = leb d e

-- c is as near to the place p as q is, or nearer
unfoldable pub as_near_to : Place → Place → Place → Bool
as_near_to p c q = as_near (dist² c p) (dist² q p)

-- the corner (x, y) is as near to c as to q, or nearer
abbrev pub corner_as_near : ℕ → ℕ → Place → Place → Bool
corner_as_near x y c q = as_near_to (record { x = x; y = y }) c q

-- all four corners of the rectangle are as near to c as to q, or nearer
unfoldable pub corners_as_near : Rect → Place → Place → Bool
corners_as_near r c q =
    corner_as_near r.x.low r.y.low c q
    && (corner_as_near r.x.low r.y.high c q
    && (corner_as_near r.x.high r.y.low c q
    && corner_as_near r.x.high r.y.high c q))
