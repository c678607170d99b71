-- 01, "Nine entries": how more than eight entries are shared between two nodes. A split and a join both do it so.
use Rattle.std.specs.Prelude.{ℕ, ◌/◌, List, length, take, drop}
use Rattle.grid.specs.Place.{longer_axis, sum_on}
use Rattle.order.specs.Order.{sort_by}
use Rattle.table.specs.declared.node.Entry.{Entry}
use Rattle.table.specs.Page.{cover_of}

-- by low + high on the axis where their covering box is longer, x if equal; ties keep their order
unfoldable pub lined : List Entry → List Entry
lined es = sort_by (λ e. sum_on (longer_axis (cover_of es)) e.rect) es

-- the first 4 of nine, the first 5 of ten
abbrev pub lower_share : List Entry → ℕ
lower_share es = length es / 2

unfoldable pub first_share : List Entry → List Entry
first_share es = take (lower_share es) (lined es)

-- the rest
unfoldable pub other_share : List Entry → List Entry
other_share es = drop (lower_share es) (lined es)
