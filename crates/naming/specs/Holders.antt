-- A holder as one number: its squared distance and its point number, so that the lesser mark is the better holder, equal distances by lower number.
use Rattle.std.specs.Prelude.{ℕ, ◌+◌, ◌*◌, ◌/◌, ◌%◌, Bool, not, List, map, eqb}
use Rattle.grid.specs.declared.place.Place.{Place}
use Rattle.grid.specs.Place.{dist²}
use Rattle.order.specs.Lists.{filter}
use Rattle.table.specs.declared.node.Entry.{Entry}
use Rattle.filter.specs.Walk.{spot_in}

-- above every point number
abbrev pub BASE : ℕ
BASE = 16384

abbrev pub mark_of : ℕ → ℕ → ℕ
mark_of square number = BASE * square + number

abbrev pub square_in : ℕ → ℕ
square_in mark = mark / BASE

abbrev pub number_in : ℕ → ℕ
number_in mark = mark % BASE

-- the mark that a point has for a station at p
unfoldable pub mark_from : Place → Entry → ℕ
mark_from p e = mark_of (dist² (spot_in e) p) e.reference

-- a point with another number
abbrev pub is_another : ℕ → Entry → Bool
is_another number e = not (eqb e.reference number)

-- the marks of all others among some points, for the station with this number at p
unfoldable pub marks_of : ℕ → Place → List Entry → List ℕ
marks_of number p es = map (mark_from p) (filter (is_another number) es)
