-- The records that a walk's rows of numbers, x and y make.
use Rattle.std.specs.Prelude.{ℕ, ◌≤◌, ◌<◌, List, map, length, get_or}
use Rattle.grid.specs.Place.{PlaceOnGrid, spot_of}
use Rattle.grid.specs.declared.site.Site.{Site}
use Rattle.grid.specs.Site.{place_of}
use Rattle.leads.specs.Leads.{place_in}
use Rattle.order.specs.Order.{up_from}
use Rattle.filter.specs.Query.{record_of}
use Rattle.record.specs.declared.Candidate.{Candidate}

-- the record of candidate i of the rows
abbrev pub candidate_in : Site → (numbers xs ys : List ℕ) → ℕ → Candidate
candidate_in q numbers xs ys i = record_of q (record { reference = get_or numbers i 0; rect = spot_of (place_in (place_of q) xs ys i) })

-- those of the first m candidates, in order
unfoldable pub candidates_in : Site → (numbers xs ys : List ℕ) → ℕ → List Candidate
candidates_in q numbers xs ys m = map (candidate_in q numbers xs ys) (up_from 0 m)

-- q is on the grid, and m candidates stand in the rows, all of them on the grid
pub record Readable (q : Site) (numbers xs ys : List ℕ) (m : ℕ) : Type 0 where
  pub place : PlaceOnGrid (place_of q)
  pub room_number : m ≤ length numbers
  pub room_x : m ≤ length xs
  pub room_y : m ≤ length ys
  pub grid : (i : ℕ) → i < m → PlaceOnGrid (place_in (place_of q) xs ys i)
