-- 01, "The query's meaning": places with whole-number coordinates, and squared straight-line distances between them.
use Rattle.std.specs.Prelude.{ℕ, ◌+◌, ◌*◌, ℤ, nat_abs, ◌-ℤ◌}
use Rattle.grid.specs.declared.place.Place.{Place}
use Rattle.grid.specs.declared.site.Site.{Site}
use Rattle.words.specs.Word.{steps_of}

abbrev pub site : ℤ → ℤ → Site
site a b = record { x = a; y = b }

-- the squared distance of two coordinates
unfoldable pub square_apart : ℤ → ℤ → ℕ
square_apart a b = nat_abs (a -ℤ b) * nat_abs (a -ℤ b)

unfoldable pub distance² : Site → Site → ℕ
distance² p q = square_apart p.x q.x + square_apart p.y q.y

-- the site in steps, as the code has it
abbrev pub place_of : Site → Place
place_of s = record { x = steps_of s.x; y = steps_of s.y }
