-- 01, "Numbers given back": the lines that speak of numbers alone and of no table.
use Rattle.std.specs.Prelude.{Bool, not, ◌&&◌, ℤ}
use Rattle.words.specs.Word.{nat_of, on_grid}
use Rattle.grid.specs.declared.site.Site.{Site}
use Rattle.figures.specs.Figures.{HIGHEST}
use Rattle.table.specs.Words.{between}

-- 3: point number outside 1 to 9,999
abbrev pub no_such_number : ℤ → Bool
no_such_number n = not (between 1 HIGHEST (nat_of n))

-- 4: a coordinate off the grid
abbrev pub off_grid : Site → Bool
off_grid q = not (on_grid q.x && on_grid q.y)

-- 5: k missing or outside 1 to 16
abbrev pub no_such_k : ℤ → Bool
no_such_k k = not (between 1 16 (nat_of k))
