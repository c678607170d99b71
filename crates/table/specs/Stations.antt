-- The enrolled stations, as a flat list read off the leaf slots, in the order of the slots.
use Rattle.std.specs.Prelude.{ℕ, ◌+◌, ◌*◌, Bool, cond, ◌&&◌, List, [], map, eqb}
use Rattle.axis.specs.Axis.{step_on_grid}
use Rattle.words.specs.Word.{nat_of, word_of}
use Rattle.grid.specs.declared.site.Site.{Site}
use Rattle.axis.specs.declared.span.Span.{Span}
use Rattle.order.specs.Order.{up_from}
use Rattle.order.specs.Lists.{join}
use Rattle.table.specs.declared.node.Entry.{Entry}
use Rattle.figures.specs.Figures.{ENTRY, HIGHEST}
use Rattle.table.specs.Words.{Words, between, word, part_at}
use Rattle.table.specs.Page.{filled}
use Rattle.table.specs.Slots.{slots, level_at}

-- a point: its number and its place
pub record Station : Type 0 where
  pub number : ℕ
  pub site : Site

-- what entry i of a leaf's words says
abbrev pub station_of : Words → ℕ → Station
station_of part i = record { number = nat_of (word part (2 + ENTRY * i)); site = record { x = word part (2 + ENTRY * i + 1); y = word part (2 + ENTRY * i + 2) } }

-- the same, of the entry that was read
abbrev pub station_of_entry : Entry → Station
station_of_entry e = record { number = e.reference; site = record { x = word_of e.rect.x.low; y = word_of e.rect.y.low } }

-- low equals high, on the grid
abbrev pub span_is_spot : Span → Bool
span_is_spot s = eqb s.low s.high && step_on_grid s.low

-- what rule 4 says of an entry in a leaf: a point number from 1 to 9,999, and a place on the grid
abbrev pub is_point : Entry → Bool
is_point e = between 1 HIGHEST e.reference && (span_is_spot e.rect.x && span_is_spot e.rect.y)

-- a slot of level 0 is a leaf
abbrev pub is_leaf : Words → ℕ → Bool
is_leaf ws s = eqb (level_at ws s) 0

abbrev pub stations_at : Words → ℕ → List Station
stations_at ws s = cond (is_leaf ws s) (map (station_of (part_at ws s)) (up_from 0 (filled (part_at ws s)))) []

unfoldable pub stations : Words → List Station
stations ws = join (stations_at ws) slots
