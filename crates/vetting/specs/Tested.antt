-- The final test of the candidates, and what is asked for it.
use Rattle.std.specs.Prelude.{ℕ, ◌≤◌, ◌<◌, ◌≡◌, Bool, false, List, map}
use Rattle.grid.specs.declared.place.Place.{Place}
use Rattle.grid.specs.AsNear.{as_near_to}
use Rattle.grid.specs.Place.{PlaceOnGrid, dist²}
use Rattle.order.specs.Lists.{filter, count, All}
use Rattle.table.specs.declared.node.Entry.{Entry}
use Rattle.table.specs.Words.{Words}
use Rattle.rules.specs.Rules.{Passing}
use Rattle.filter.specs.Walk.{spot_in}
use Rattle.filter.specs.Rows.{Rows, listed, Kept}
use Rattle.vetting.specs.Test.{passes}

-- the candidate passes the final test of a query at q
unfoldable pub passes_as : Words → Place → ℕ → Entry → Bool
passes_as ws q k e = passes ws e.reference (spot_in e) (dist² q (spot_in e)) k

-- how many of the candidates are as near to this one as q is, or nearer
abbrev pub as_near_among : Place → List Entry → Entry → ℕ
as_near_among q es e = count (λ d. as_near_to (spot_in e) (spot_in d) q) es

-- the numbers of those that pass, in the order found
unfoldable pub numbers_passing : Words → Place → ℕ → List Entry → List ℕ
numbers_passing ws q k es = map (λ e. e.reference) (filter (passes_as ws q k) es)

-- the first m candidates of the rows can be tested, and as many numbers have room
pub record Keepable (ws : Words) (q : Place) (r : Rows) (k m free : ℕ) : Type 0 where
  pub table : Passing ws
  pub grid : PlaceOnGrid q
  pub kept : Kept q r m
  -- a candidate with more than k of them as near or nearer does not pass: all but one of these are others
  pub crowded : All (λ e. k < as_near_among q (listed q r m) e → passes_as ws q k e ≡ false) (listed q r m)
  pub places : m ≤ free
