-- Places and rectangles, in steps: each measure is made of the two axes.
use Rattle.std.specs.Prelude.{ℕ, ◌+◌, ◌-◌, ◌*◌, ◌≤◌, cond, ltb}
use Rattle.grid.specs.declared.place.Place.{Place}
use Rattle.grid.specs.declared.rect.Rect.{Rect}
use Rattle.grid.specs.declared.rect.Axis.{Axis}
use Rattle.grid.specs.declared.rect.Axis.TheVariants.{X, Y}
use Rattle.axis.specs.Axis.{OnGrid, SpanOnGrid, sq, span_grown, span_length, span_sum, gap, InSpan, SpanWithin}

pub record PlaceOnGrid (p : Place) : Type 0 where
  pub x : OnGrid p.x
  pub y : OnGrid p.y

pub record RectOnGrid (r : Rect) : Type 0 where
  pub x : SpanOnGrid r.x
  pub y : SpanOnGrid r.y

-- a rectangle as a sound tree has it: on the grid, and low no more than high on both axes
pub record Upright (r : Rect) : Type 0 where
  pub grid : RectOnGrid r
  pub x : r.x.low ≤ r.x.high
  pub y : r.y.low ≤ r.y.high

-- the squared straight-line distance
unfoldable pub dist² : Place → Place → ℕ
dist² p q = sq p.x q.x + sq p.y q.y

-- the rectangle that is the place alone: low equals high on both axes
abbrev pub spot_of : Place → Rect
spot_of p = record { x = record { low = p.x; high = p.x }; y = record { low = p.y; high = p.y } }

-- the least rectangle that covers both
abbrev pub rect_grown : Rect → Rect → Rect
rect_grown r s = record { x = span_grown r.x s.x; y = span_grown r.y s.y }

unfoldable pub area_of : Rect → ℕ
area_of r = span_length r.x * span_length r.y

-- by how much the area of r grows when r is to cover s too
unfoldable pub growth_of : Rect → Rect → ℕ
growth_of r s = area_of (rect_grown r s) - area_of r

-- the axis where the rectangle is longer, x if equal
unfoldable pub longer_axis : Rect → Axis
longer_axis r = cond (ltb (span_length r.x) (span_length r.y)) Y X

-- low + high on an axis
abbrev pub sum_on : Axis → Rect → ℕ
sum_on X r = span_sum r.x
sum_on Y r = span_sum r.y

-- the least squared distance from q to the rectangle
unfoldable pub least_square : Rect → Place → ℕ
least_square r q = gap r.x q.x * gap r.x q.x + gap r.y q.y * gap r.y q.y

-- the place lies in the rectangle
pub record Inside (p : Place) (r : Rect) : Type 0 where
  pub x : InSpan p.x r.x
  pub y : InSpan p.y r.y

-- the first rectangle lies in the second
pub record Within (r s : Rect) : Type 0 where
  pub x : SpanWithin r.x s.x
  pub y : SpanWithin r.y s.y
