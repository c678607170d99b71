-- 01, "The filter walk": the walk opens the root, then goes down one level at each step, depth first.
use Rattle.std.specs.Prelude.{ℕ, zero, suc, ◌+◌, Bool, cond, List, [], ◌∷◌, ◌++◌, leb}
use Rattle.grid.specs.declared.place.Place.{Place}
use Rattle.grid.specs.Place.{least_square}
use Rattle.grid.specs.AsNear.{as_near_to, corners_as_near}
use Rattle.order.specs.Order.{sort_by}
use Rattle.order.specs.Lists.{count}
use Rattle.table.specs.declared.node.Entry.{Entry}
use Rattle.table.specs.Words.{Words}
use Rattle.table.specs.Slots.{entries_at}

-- the candidates so far, in the order found, and how many nodes were opened
pub record Found : Type 0 where
  pub candidates : List Entry
  pub opened : ℕ

-- the place of a leaf's entry
abbrev pub spot_in : Entry → Place
spot_in e = record { x = e.rect.x.low; y = e.rect.y.low }

-- f at each of a list, one after the other
abbrev pub each : (Entry → Found → Found) → List Entry → Found → Found
each f [] now = now
each f (e ∷ es) now = each f es (f e now)

module _ (q : Place) (k : ℕ) where
  -- by least squared distance from q to their box, ties by lower place
  unfoldable pub nearest_first : List Entry → List Entry
  nearest_first es = sort_by (λ e. least_square e.rect q) es

  -- at least k candidates so far are as near to the point as q, or nearer
  unfoldable pub point_hidden : List Entry → Entry → Bool
  point_hidden found e = leb k (count (λ c. as_near_to (spot_in e) (spot_in c) q) found)

  -- for at least k candidates so far all four corners of the box are as near to that candidate as to q, or nearer
  unfoldable pub box_hidden : List Entry → Entry → Bool
  box_hidden found e = leb k (count (λ c. corners_as_near e.rect (spot_in c) q) found)

  abbrev pub with_candidate : Entry → Found → Found
  with_candidate e now = record { candidates = now.candidates ++ e ∷ []; opened = now.opened }

  abbrev pub with_opened : Found → Found
  with_opened now = record { candidates = now.candidates; opened = now.opened + 1 }

  -- a point is discarded, or becomes the next candidate
  abbrev pub visited : Entry → Found → Found
  visited e now = cond (point_hidden now.candidates e) now (with_candidate e now)

  -- a child, when its turn comes, is discarded, or opened
  abbrev pub entered : (ℕ → Found → Found) → Entry → Found → Found
  entered opening e now = cond (box_hidden now.candidates e) now (opening e.reference now)

  -- the node in slot s, of level l, is opened
  abbrev pub walk : ℕ → Words → ℕ → Found → Found
  walk zero ws s now = each visited (nearest_first (entries_at ws s)) (with_opened now)
  walk (suc l) ws s now = each (entered (walk l ws)) (nearest_first (entries_at ws s)) (with_opened now)
