-- The candidates of a query as its tests want them: in rows, relative to its place q, and moved up so that no number is below nothing.
use Rattle.std.specs.Prelude.{ℕ, ◌+◌, ◌-◌, ◌*◌, ◌≤◌, ◌<◌, ◌≡◌, Bool, cond, List, leb, ltb, length, get_or}
use Rattle.grid.specs.declared.place.Place.{Place}
use Rattle.grid.specs.Place.{PlaceOnGrid, dist²}

-- a coordinate relative to q's, moved up by 2²¹: no two on the grid lie further apart
abbrev pub from_q : ℕ → ℕ → ℕ
from_q a q = (a + 2097152) - q

-- and back
abbrev pub back_to : ℕ → ℕ → ℕ
back_to x q = (x + q) - 2097152

-- the place of candidate i
abbrev pub place_in : Place → List ℕ → List ℕ → ℕ → Place
place_in q xs ys i = record { x = back_to (get_or xs i 0) q.x; y = back_to (get_or ys i 0) q.y }

-- the bar of a candidate, which the sum of a place has to reach: its squared distance to q, and 2²² for each step that it stands moved up
abbrev pub bar_of : Place → Place → ℕ
bar_of q c = dist² q c + 4194304 * (from_q c.x q.x + from_q c.y q.y)

-- a place's sum for a candidate at (x, y) reaches its bar. The place is (px, py): twice relative to q, and moved up by 2²². Multiplied out, what was moved up falls away, and what is left says that c·c ≤ 2 c·p, both relative to q: c is as near to p as q is, or nearer
unfoldable pub reaches_bar : (x y bar px py : ℕ) → Bool
reaches_bar x y bar px py = leb (bar + 2097152 * (px + py)) (x * px + y * py + 17592186044416)

-- of an axis that begins at `low` and is `wide`, both in a place's form, the end that counts for a candidate at x: the high one if it lies below q, else the low one
abbrev pub end_for : (x low wide : ℕ) → ℕ
end_for x low wide = cond (ltb x 2097152) (low + wide) low

-- m candidates stand in the rows
pub record Standing (q : Place) (xs ys bars : List ℕ) (m : ℕ) : Type 0 where
  pub room_x : m ≤ length xs
  pub room_y : m ≤ length ys
  pub room_bar : m ≤ length bars
  pub grid : (i : ℕ) → i < m → PlaceOnGrid (place_in q xs ys i)
  pub bar : (i : ℕ) → i < m → get_or bars i 0 ≡ bar_of q (place_in q xs ys i)
