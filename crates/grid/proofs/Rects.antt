-- The laws of places and rectangles, each made of one law of the axis for x and for y: growing, lying inside, and what is measured. Assumes nothing.
use mathlib.Core.Path.{◌≡◌}
use Prim.Native.Nat.{◌≤◌}
use native.Mathlib.Nat.{mul-le-mul}
use native.Mathlib.Omega.{arith}
use Rattle.grid.specs.declared.place.Place.{Place}
use Rattle.grid.specs.declared.rect.Rect.{Rect}
use Rattle.axis.specs.Axis.{sq}
use Rattle.grid.specs.Place.{PlaceOnGrid, RectOnGrid, Inside, Within, dist², spot_of, rect_grown, area_of, least_square}
use Rattle.axis.proofs.Axis.{sq_sym, sq_most, length_most, gap_square_most, gap_spot, gap_square_least}
use Rattle.axis.proofs.Axis.{span_comm, span_assoc, span_idem, span_grid, span_refl, span_trans, span_left, span_right, span_least}
use Rattle.axis.proofs.Axis.{in_span_within}

-- ---- equal by their fields

pub place_ext : {p q : Place} → p.x ≡ q.x → p.y ≡ q.y → p ≡ q
place_ext e f = λ i. record { x = e i; y = f i }

pub rect_ext : {r s : Rect} → r.x ≡ s.x → r.y ≡ s.y → r ≡ s
rect_ext e f = λ i. record { x = e i; y = f i }

-- ---- growing

pub grown_comm : (r s : Rect) → rect_grown r s ≡ rect_grown s r
grown_comm r s = rect_ext (span_comm r.x s.x) (span_comm r.y s.y)

pub grown_assoc : (r s t : Rect) → rect_grown (rect_grown r s) t ≡ rect_grown r (rect_grown s t)
grown_assoc r s t = rect_ext (span_assoc r.x s.x t.x) (span_assoc r.y s.y t.y)

pub grown_idem : (r : Rect) → rect_grown r r ≡ r
grown_idem r = rect_ext (span_idem r.x) (span_idem r.y)

pub grown_grid : {r s : Rect} → RectOnGrid r → RectOnGrid s → RectOnGrid (rect_grown r s)
grown_grid g h = record { x = span_grid g.x h.x; y = span_grid g.y h.y }

pub spot_grid : {p : Place} → PlaceOnGrid p → RectOnGrid (spot_of p)
spot_grid g = record { x = record { low = g.x; high = g.x }; y = record { low = g.y; high = g.y } }

-- ---- one rectangle in another

pub within_refl : (r : Rect) → Within r r
within_refl r = record { x = span_refl r.x; y = span_refl r.y }

pub within_trans : {r s t : Rect} → Within r s → Within s t → Within r t
within_trans v w = record { x = span_trans v.x w.x; y = span_trans v.y w.y }

pub within_left : (r s : Rect) → Within r (rect_grown r s)
within_left r s = record { x = span_left r.x s.x; y = span_left r.y s.y }

pub within_right : (r s : Rect) → Within s (rect_grown r s)
within_right r s = record { x = span_right r.x s.x; y = span_right r.y s.y }

pub within_least : {r s t : Rect} → Within r t → Within s t → Within (rect_grown r s) t
within_least v w = record { x = span_least v.x w.x; y = span_least v.y w.y }

-- ---- a place in a rectangle

pub inside_within : {p : Place} {r s : Rect} → Inside p r → Within r s → Inside p s
inside_within i w = record { x = in_span_within i.x w.x; y = in_span_within i.y w.y }

pub inside_left : {p : Place} {r : Rect} (s : Rect) → Inside p r → Inside p (rect_grown r s)
inside_left {r = r} s i = inside_within i (within_left r s)

pub inside_right : {p : Place} {s : Rect} (r : Rect) → Inside p s → Inside p (rect_grown r s)
inside_right {s = s} r i = inside_within i (within_right r s)

pub inside_spot : (p : Place) → Inside p (spot_of p)
inside_spot p = record { x = record { low = omega arith; high = omega arith }; y = record { low = omega arith; high = omega arith } }

pub spot_within : {p : Place} {r : Rect} → Inside p r → Within (spot_of p) r
spot_within i = record { x = record { low = i.x.low; high = i.x.high }; y = record { low = i.y.low; high = i.y.high } }

-- ---- measures

pub dist_sym : (p q : Place) → dist² p q ≡ dist² q p
unfolding dist²
dist_sym p q = omega (arith, sq_sym p.x q.x, sq_sym p.y q.y)

pub dist_most : {p q : Place} → PlaceOnGrid p → PlaceOnGrid q → dist² p q ≤ 8000000000000
unfolding dist²
dist_most {p} {q} g h = omega (arith, sq_most p.x q.x g.x h.x, sq_most p.y q.y g.y h.y)

pub area_most : {r : Rect} → RectOnGrid r → area_of r ≤ 4000000000000
unfolding area_of
area_most {r} g = mul-le-mul {n₂ = 2000000} {m₂ = 2000000} (length_most r.x g.x) (length_most r.y g.y)

pub least_square_most : {r : Rect} {q : Place} → RectOnGrid r → PlaceOnGrid q → least_square r q ≤ 8000000000000
unfolding least_square
least_square_most {r} {q} g h =
    omega (arith, gap_square_most r.x q.x g.x h.x, gap_square_most r.y q.y g.y h.y)

-- no place of the rectangle is nearer to q than the least squared distance
pub least_square_least : {p : Place} {r : Rect} (q : Place) → Inside p r → least_square r q ≤ dist² q p
unfolding least_square dist²
least_square_least q i = omega (arith, gap_square_least q.x i.x, gap_square_least q.y i.y)

-- to a place alone it is the distance
pub least_square_spot : (p q : Place) → least_square (spot_of p) q ≡ dist² q p
unfolding least_square dist² sq
least_square_spot p q = simp gap_spot
