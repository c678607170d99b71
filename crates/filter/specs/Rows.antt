-- The candidates as the walk notes them, in four rows: the number of each, its x and y relative to q, and its bar.
use Rattle.std.specs.Prelude.{ℕ, ◌≤◌, ◌<◌, ◌^◌, ◌≡◌, true, List, map, length, get_or}
use Rattle.grid.specs.declared.place.Place.{Place}
use Rattle.grid.specs.Place.{PlaceOnGrid, spot_of}
use Rattle.leads.specs.Leads.{from_q, place_in, bar_of}
use Rattle.order.specs.Lists.{All}
use Rattle.order.specs.Order.{up_from}
use Rattle.table.specs.declared.node.Entry.{Entry}
use Rattle.table.specs.Stations.{is_point}
use Rattle.filter.specs.declared.rows.Candidates.{Candidates}
use Rattle.filter.specs.declared.rows.Rows.{Rows as Lent}
use Rattle.filter.specs.declared.seen.Seen.{Seen}
use Rattle.filter.specs.Walk.{Found, spot_in}
use Rattle.filter.specs.Query.{laid_over}

pub record Rows : Type 0 where
  pub numbers : List ℕ
  pub xs : List ℕ
  pub ys : List ℕ
  pub bars : List ℕ

abbrev pub rows : List ℕ → List ℕ → List ℕ → List ℕ → Rows
rows ns xs ys bs = record { numbers = ns; xs = xs; ys = ys; bars = bs }

-- what the code's rows hold
abbrev pub rows_of : Lent → Rows
rows_of r = rows r.numbers.now r.xs.now r.ys.now r.bars.now

-- and what is read of them
abbrev pub rows_read : Candidates → Rows
rows_read c = rows c.numbers.now c.leads.xs.now c.leads.ys.now c.leads.bars.now

-- the code's rows are still those that were lent
pub record SameLent (before after : Lent) : Type 0 where
  pub numbers : after.numbers.ghost_name ≡ before.numbers.ghost_name
  pub xs : after.xs.ghost_name ≡ before.xs.ghost_name
  pub ys : after.ys.ghost_name ≡ before.ys.ghost_name
  pub bars : after.bars.ghost_name ≡ before.bars.ghost_name

-- candidate i, a point
abbrev pub entry_in : Place → Rows → ℕ → Entry
entry_in q r i = record { reference = get_or r.numbers i 0; rect = spot_of (place_in q r.xs r.ys i) }

-- the first m candidates
unfoldable pub listed : Place → Rows → ℕ → List Entry
listed q r m = map (entry_in q r) (up_from 0 m)

-- candidates laid over the front of the rows; what is behind stays
unfoldable pub laid_in : Place → List Entry → Rows → Rows
laid_in q cs r = record {
  numbers = laid_over (map (λ e. e.reference) cs) r.numbers;
  xs = laid_over (map (λ e. from_q e.rect.x.low q.x) cs) r.xs;
  ys = laid_over (map (λ e. from_q e.rect.y.low q.y) cs) r.ys;
  bars = laid_over (map (λ e. bar_of q (spot_in e)) cs) r.bars;
}

-- what has been found, by the rows and the two numbers
abbrev pub found_in : Place → Rows → Seen → Found
found_in q r s = record { candidates = listed q r s.candidates; opened = s.opened }

-- n candidates have room in the rows
pub record Room (n : ℕ) (r : Rows) : Type 0 where
  pub numbers : n ≤ length r.numbers
  pub xs : n ≤ length r.xs
  pub ys : n ≤ length r.ys
  pub bars : n ≤ length r.bars

-- the first m records of the rows are those of candidates
pub record Kept (q : Place) (r : Rows) (m : ℕ) : Type 0 where
  pub room : Room m r
  pub points : All (λ e. is_point e ≡ true) (listed q r m)
  pub same : laid_in q (listed q r m) r ≡ r

-- what has been found stands in the rows, and the two numbers are its
pub record Noted (q : Place) (f : Found) (before after : Rows) (s : Seen) : Type 0 where
  pub rows : after ≡ laid_in q f.candidates before
  pub candidates : s.candidates ≡ length f.candidates
  pub opened : s.opened ≡ f.opened

-- a part f of the walk can begin: q is on the grid, the rows hold the candidates so far, and there is room for all that it finds
pub record Ready (q : Place) (f : Found → Found) (r : Rows) (s : Seen) : Type 0 where
  pub grid : PlaceOnGrid q
  pub kept : Kept q r s.candidates
  pub room : Room (length (f (found_in q r s)).candidates) r
  pub opened : (f (found_in q r s)).opened < 2 ^ 64

-- it is done: what it has found is noted
abbrev pub Went : Place → (Found → Found) → Rows → Seen → Rows → Seen → Type 0
Went q f before s after t = Noted q (f (found_in q before s)) before after t
