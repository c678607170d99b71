-- 02 §2: "for a newcomer numbered above all the enrolled, on a table with room, a station answers exactly if its card from §1 names the newcomer after enrolment."
-- It speaks of the calls and of the enrolled stations, not of trees.
use Rattle.std.specs.Prelude.{ℕ, ◌<◌, ◌≡◌, true, false, ℤ}
use Rattle.words.specs.Word.{nat_of}
use Rattle.grid.specs.declared.site.Site.{Site}
use Rattle.order.specs.Lists.{Mem, All}
use Rattle.table.specs.Given.{Done}
use Rattle.table.specs.Words.{Words}
use Rattle.table.specs.Stations.{Station, stations}
use Rattle.limits.specs.Limits.{no_such_number, off_grid}
use Rattle.rules.specs.Rules.{Passing}
use Rattle.filter.specs.Meaning.{answers_to}
use Rattle.card.specs.Card.{names_of}
use Rattle.refusals.specs.Refusals.{is_full, enrol_gives}
use Rattle.desk.specs.Calls.{after_enrol}

-- a newcomer that can join: the table has room, its place is on the grid, its number is a point number above every enrolled one
pub record CanJoin (ws : Words) (n : ℤ) (q : Site) : Type 0 where
  pub room : is_full ws ≡ false
  pub grid : off_grid q ≡ false
  pub number : no_such_number n ≡ false
  pub above : All (λ p. p.number < nat_of n) (stations ws)

-- what its joining means for the station p, on a card of k names
pub record Joined (ws : Words) (n : ℤ) (q : Site) (p : Station) (k : ℕ) : Type 0 where
  -- the enrolment is granted
  pub granted : enrol_gives ws n q ≡ Done
  -- p answers the query at the newcomer's place exactly if its card names the newcomer after the enrolment
  pub named : answers_to (stations ws) q k p ≡ true → Mem (nat_of n) (names_of (stations (after_enrol ws n q)) p k)
  pub answers : Mem (nat_of n) (names_of (stations (after_enrol ws n q)) p k) → answers_to (stations ws) q k p ≡ true

-- for each table that passes the check, each newcomer that can join, each enrolled station and each k
abbrev pub NewcomerNamed : Type 0
NewcomerNamed = (ws : Words) → Passing ws → (n : ℤ) (q : Site) → CanJoin ws n q → (p : Station) → Mem p (stations ws) → (k : ℕ) → Joined ws n q p k
