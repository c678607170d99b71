-- Where a station stands, and what the walk for its card asks and leaves.
use Rattle.std.specs.Prelude.{ℕ, ◌≤◌, ◌≡◌, Option, Some, None, cond, List, [], ◌∷◌, eqb, leb, length}
use Rattle.grid.specs.declared.place.Place.{Place}
use Rattle.order.specs.Lists.{join}
use Rattle.table.specs.declared.node.Entry.{Entry}
use Rattle.table.specs.Words.{Words}
use Rattle.table.specs.Slots.{slots}
use Rattle.table.specs.Stations.{stations}
use Rattle.rules.specs.Rules.{leaf_entries, Passing}
use Rattle.filter.specs.Walk.{spot_in}
use Rattle.filter.specs.Query.{laid_over}
use Rattle.card.specs.Card.{names_for}

-- the place of the first of some points that has a number
abbrev pub where_in : ℕ → List Entry → Option Place
where_in number [] = None
where_in number (e ∷ es) = cond (eqb e.reference number) (Some (spot_in e)) (where_in number es)

-- the place of the station with a number
unfoldable pub where_of : Words → ℕ → Option Place
where_of ws number = where_in number (join (leaf_entries ws) slots)

-- the table passes the check, the station stands at p, and k is 1 to 16
pub record Namable (ws : Words) (number : ℕ) (p : Place) (k : ℕ) : Type 0 where
  pub table : Passing ws
  pub station : where_of ws number ≡ Some p
  pub some : 1 ≤ k
  pub few : k ≤ 16

-- so many names, and they go to the front of the list if it has room for them; the rest of it stays
pub record Named (ws : Words) (number k : ℕ) (old new : List ℕ) (r : ℕ) : Type 0 where
  pub names : r ≡ length (names_for (stations ws) number k)
  pub list : new ≡ cond (leb r (length old)) (laid_over (names_for (stations ws) number k) old) old
