-- Many places asked of one table, with one k: how many answers each has. The table is checked once.
use Rattle.std.specs.Prelude.{ℕ, ℤ, length, take}
use mathlib.Core.List.{List, map, zip_with}
use Rattle.words.specs.Word.{nat_of}
use Rattle.grid.specs.declared.site.Site.{Site}
use Rattle.grid.specs.Site.{site}
use Rattle.figures.specs.Figures.{MOST}
use Rattle.table.specs.Words.{Words}
use Rattle.table.specs.Given.{if_done}
use Rattle.audit.specs.Check.{check_gives}
use Rattle.filter.specs.Query.{answers_found, laid_over}
use Rattle.refusals.specs.Refusals.{query_gives}

-- the places, an x with each y: as many as the shorter list has
abbrev pub sites_of : List ℤ → List ℤ → List Site
sites_of xs ys = zip_with site xs ys

-- n of a query whose two lists have 500 places; 0 where it is refused
unfoldable pub site_count : Words → ℤ → Site → ℕ
site_count ws k q = if_done (query_gives ws q k MOST MOST) (length (answers_found ws q (nat_of k))) 0

-- the first so many counts, in the order of the places
unfoldable pub counts_at : Words → ℤ → List ℤ → List ℤ → ℕ → List ℕ
counts_at ws k xs ys n = take n (map (site_count ws k) (sites_of xs ys))

-- the counts laid over the front of the lent row, as far as it has room; the rest of it stays
abbrev pub counts_over : Words → ℤ → List ℤ → List ℤ → List ℕ → List ℕ
counts_over ws k xs ys row = laid_over (counts_at ws k xs ys (length row)) row

-- the row after the call: if the table check refuses, it stays
unfoldable pub sites_after : Words → ℤ → List ℤ → List ℤ → List ℕ → List ℕ
sites_after ws k xs ys row = if_done (check_gives ws) (counts_over ws k xs ys row) row
