-- 02 §3: the difference of the two squares is linear over the box, so each axis has a worst end, and one corner is worst.
use Rattle.std.specs.Prelude.{◌≡◌}
use Rattle.axis.specs.Axis.{worst_end}
use Rattle.grid.specs.declared.place.Place.{Place}
use Rattle.grid.specs.declared.rect.Rect.{Rect}
use Rattle.grid.specs.Place.{Upright}
use Rattle.grid.specs.AsNear.{as_near_to, corners_as_near}

-- the corner of the rectangle where c does worst against q
unfoldable pub worst_corner : Rect → Place → Place → Place
worst_corner r c q = record { x = worst_end r.x c.x q.x; y = worst_end r.y c.y q.y }

-- "Test only that corner; the test's answer stays the same."
abbrev pub OneCorner : Type 0
OneCorner = (r : Rect) (c q : Place) → Upright r → as_near_to (worst_corner r c q) c q ≡ corners_as_near r c q
