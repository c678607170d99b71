-- The laws of `as_near`, with the half-plane theorem, and the law of the one corner. No other file of the repository, but the proof of `is_as_near`, looks inside `as_near`. Assumes nothing.
use mathlib.Core.Path.{◌≡◌, refl, sym}
use mathlib.Core.Logic.{◌⊎◌, inl, inr}
use mathlib.Core.Bool.{Bool, true, false}
use Prim.Native.Nat.{ℕ, ◌+◌, ◌≤◌, ◌<◌}
use native.Mathlib.Omega.{arith}
use borrow.Author.Tests.{leb-true, le-leb, lt-leb}
use Rattle.order.proofs.Lists.{and_left, and_right}
use Rattle.grid.specs.declared.place.Place.{Place}
use Rattle.grid.specs.declared.rect.Rect.{Rect}
use Rattle.grid.specs.Place.{Inside, dist²}
use Rattle.grid.specs.AsNear.{as_near, as_near_to, corner_as_near, corners_as_near}
use Rattle.grid.specs.Corner.{worst_corner, OneCorner}
use Rattle.axis.specs.Axis.{InSpan}
use Rattle.axis.proofs.Axis.{worst, worst_one}

-- ---- what holds of it, and held of strictly nearer too

-- d' lies below e' by at least as much as d below e
pub near_shift : (d e d' e' : ℕ) → d' + e ≤ d + e' → as_near d e ≡ true → as_near d' e' ≡ true
unfolding as_near
near_shift d e d' e' h t = le-leb d' e' (omega (arith, leb-true d e t))

pub near_less : (d d' e : ℕ) → d ≤ d' → as_near d' e ≡ true → as_near d e ≡ true
near_less d d' e h t = near_shift d' e d e (omega arith) t

pub near_more : (d e e' : ℕ) → e ≤ e' → as_near d e ≡ true → as_near d e' ≡ true
near_more d e e' h t = near_shift d e d e' (omega arith) t

-- the other way round, for what is further
contrary : (a b : Bool) → (a ≡ true → b ≡ true) → b ≡ false → a ≡ false
contrary true b f e =
    let t : b ≡ true = f refl in
    cc
contrary false b f e = refl

pub far_shift : (d e d' e' : ℕ) → d' + e ≤ d + e' → as_near d' e' ≡ false → as_near d e ≡ false
far_shift d e d' e' h = contrary (as_near d e) (as_near d' e') (near_shift d e d' e' h)

pub far_more : (d d' e : ℕ) → d ≤ d' → as_near d e ≡ false → as_near d' e ≡ false
far_more d d' e h = far_shift d' e d e (omega arith)

pub far_less : (d e e' : ℕ) → e ≤ e' → as_near d e' ≡ false → as_near d e ≡ false
far_less d e e' h = far_shift d e d e' (omega arith)

-- ---- what it is: no further

pub near_means : (d e : ℕ) → as_near d e ≡ true → d ≤ e
unfolding as_near
near_means d e t = leb-true d e t

pub no_further : (d e : ℕ) → d ≤ e → as_near d e ≡ true
unfolding as_near
no_further d e h = le-leb d e h

pub far_below : (d e : ℕ) → e < d → as_near d e ≡ false
unfolding as_near
far_below d e h = lt-leb d e h

-- ---- the corner test

same : (a b : Bool) → (a ≡ true → b ≡ true) → (b ≡ true → a ≡ true) → a ≡ b
same true b f g = sym (f refl)
same false true f g = g refl
same false false f g = refl

-- the four corners, one by one
record Corners (r : Rect) (c q : Place) : Type 0 where
  ll : corner_as_near r.x.low r.y.low c q ≡ true
  lh : corner_as_near r.x.low r.y.high c q ≡ true
  hl : corner_as_near r.x.high r.y.low c q ≡ true
  hh : corner_as_near r.x.high r.y.high c q ≡ true

corners : (r : Rect) (c q : Place) → corners_as_near r c q ≡ true → Corners r c q
unfolding corners_as_near
corners r c q t =
    let lh-on = and_right (corner_as_near r.x.low r.y.low c q) _ t in
    let hl-on = and_right (corner_as_near r.x.low r.y.high c q) _ lh-on in
    record {
      ll = and_left _ _ t;
      lh = and_left _ _ lh-on;
      hl = and_left _ _ hl-on;
      hh = and_right (corner_as_near r.x.high r.y.low c q) _ hl-on;
    }

joined : (r : Rect) (c q : Place) → Corners r c q → corners_as_near r c q ≡ true
unfolding corners_as_near
joined r c q k = rw (k.ll, k.lh, k.hl, k.hh) refl

-- the worst corner is one of the four
worst_among : (r : Rect) (c q : Place) → Corners r c q → as_near_to (worst_corner r c q) c q ≡ true
unfolding worst_corner
worst_among r c q k = go (worst_one r.x c.x q.x) (worst_one r.y c.y q.y)
  where
    go : {x y : ℕ} → (x ≡ r.x.low) ⊎ (x ≡ r.x.high) → (y ≡ r.y.low) ⊎ (y ≡ r.y.high) → corner_as_near x y c q ≡ true
    go (inl u) (inl v) = rw (u, v) k.ll
    go (inl u) (inr v) = rw (u, v) k.lh
    go (inr u) (inl v) = rw (u, v) k.hl
    go (inr u) (inr v) = rw (u, v) k.hh

-- and it speaks for every place of the rectangle
worst_speaks : {p : Place} {r : Rect} (c q : Place) → Inside p r → as_near_to (worst_corner r c q) c q ≡ true → as_near_to p c q ≡ true
unfolding as_near_to dist² worst_corner
worst_speaks {p} {r} c q i =
    near_shift _ _ _ _ (omega (arith, worst c.x q.x r.x p.x i.x, worst c.y q.y r.y p.y i.y))

-- the half-plane theorem: the corner test speaks for every place of the rectangle
pub half_plane : {p : Place} {r : Rect} (c q : Place) → corners_as_near r c q ≡ true → Inside p r → as_near_to p c q ≡ true
half_plane {r = r} c q t i = worst_speaks c q i (worst_among r c q (corners r c q t))

-- 02 §3: the test at the worst corner is the test at all four
pub one_corner : OneCorner
one_corner r c q u = same _ _ (λ t. joined r c q (all t)) (λ t. worst_among r c q (corners r c q t))
  where
    at : (x y : ℕ) → InSpan x r.x → InSpan y r.y → as_near_to (worst_corner r c q) c q ≡ true → corner_as_near x y c q ≡ true
    at x y i j = worst_speaks c q (record { x = i; y = j })

    all : as_near_to (worst_corner r c q) c q ≡ true → Corners r c q
    all t =
        let xl : InSpan r.x.low r.x = record { low = omega arith; high = u.x } in
        let xh : InSpan r.x.high r.x = record { low = u.x; high = omega arith } in
        let yl : InSpan r.y.low r.y = record { low = omega arith; high = u.y } in
        let yh : InSpan r.y.high r.y = record { low = u.y; high = omega arith } in
        record { ll = at _ _ xl yl t; lh = at _ _ xl yh t; hl = at _ _ xh yl t; hh = at _ _ xh yh t }
