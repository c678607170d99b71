-- The laws of the rows: a sum has its top bit exactly if it reaches the bar, and it reaches it exactly if the candidate is as near; the end that is chosen is the worst. Assumes nothing.
use mathlib.Core.Path.{◌≡◌, refl, sym, ap, ◌∙◌}
use mathlib.Core.Bool.{Bool, true, false, cond}
use mathlib.Core.List.{List}
use Prim.Native.Nat.{ℕ, ◌+◌, ◌-◌, ◌*◌, ◌/◌, ◌%◌, ◌≤◌, ◌<◌}
use native.Mathlib.Decide.{dec_le, dec_lt}
use native.Mathlib.Nat.{mul-le-mul, mod-eq_of_lt}
use native.Mathlib.Omega.{arith}
use borrow.Author.Tests.{le-leb, lt-leb, lt-ltb, le-ltb}
use lib.Bits.{bit_and, and_comm, and_mask, and_shifted}
use lib.Dec.{leb, ltb}
use lib.ListN.{get_or}
use Rattle.axis.specs.declared.span.Span.{Span}
use Rattle.axis.specs.Axis.{OnGrid, apart, sq, worst_end}
use Rattle.axis.proofs.Axis.{sq_law}
use Rattle.grid.specs.declared.place.Place.{Place}
use Rattle.grid.specs.declared.rect.Rect.{Rect}
use Rattle.grid.specs.Place.{PlaceOnGrid, Upright, dist²}
use Rattle.grid.specs.AsNear.{as_near, as_near_to, corners_as_near}
use Rattle.grid.specs.Corner.{worst_corner}
use Rattle.grid.proofs.AsNear.{near_means, no_further, one_corner}
use Rattle.grid.proofs.Rects.{dist_most}
use Rattle.order.specs.Lists.{one, count}
use Rattle.order.specs.Order.{up_from}
use Rattle.order.proofs.Lists.{count_same}
use Rattle.order.proofs.Order.{up_all}
use Rattle.leads.specs.Leads.{from_q, place_in, bar_of, reaches_bar, end_for, Standing}

-- ---- the sum of a turn

-- a word divided by 2⁶³ is its top bit
top : (n : ℕ) → n < 18446744073709551616 → n / 9223372036854775808 ≡ one (leb 9223372036854775808 n)
top n h = go (dec_le 9223372036854775808 n)
  where
    go : Dec (9223372036854775808 ≤ n) → n / 9223372036854775808 ≡ one (leb 9223372036854775808 n)
    go (yes k) = rw (le-leb 9223372036854775808 n k) (omega arith)
    go (no k) = rw (lt-leb 9223372036854775808 n (omega arith)) (omega arith)

-- two tests of order that come out alike
leb_same : (a b c d : ℕ) → (a ≤ b → c ≤ d) → (c ≤ d → a ≤ b) → leb a b ≡ leb c d
leb_same a b c d f g = go (dec_le a b) (dec_le c d)
  where
    go : Dec (a ≤ b) → Dec (c ≤ d) → leb a b ≡ leb c d
    go (yes h) k = rw (le-leb a b h) (sym (le-leb c d (f h)))
    go (no h) (yes k) = absurd (h (g k))
    go (no h) (no k) = rw (lt-leb a b (omega arith)) (sym (lt-leb c d (omega arith)))

product_most : (x p : ℕ) → x < 4194304 → p < 8388608 → x * p ≤ 35184359505921
product_most x p h k = mul-le-mul {n₂ = 4194303} {m₂ = 8388607} (omega arith) (omega arith)

-- the remainders are the numbers themselves
pub plain : (x p : ℕ) → x < 4194304 → p < 8388608 → (x % 4294967296) * (p % 4294967296) ≡ x * p
plain x p h k =
    rw (mod-eq_of_lt {n = x} {m = 4294967296} (omega arith), mod-eq_of_lt {n = p} {m = 4294967296} (omega arith)) refl

-- the sum as the code writes it, with its room, before the bar is taken off
abbrev pub sum_of : (x y px py : ℕ) → ℕ
sum_of x y px py = ((x % 4294967296) * (px % 4294967296) + (y % 4294967296) * (py % 4294967296)) + (9223389629040820224 - 2097152 * (px + py))

module _ (x y bar px py : ℕ) (hx : x < 4194304) (hy : y < 4194304) (hb : bar ≤ 70368744177664) (kx : px < 8388608) (ky : py < 8388608) where
  pub sum_most : sum_of x y px py < 18446744073709551616
  sum_most = omega (arith, plain x px hx kx, plain y py hy ky, product_most x px hx kx, product_most y py hy ky)

  pub sum_least : bar ≤ sum_of x y px py
  sum_least = omega arith

  pub sum_top : (sum_of x y px py - bar) / 9223372036854775808 ≡ one (reaches_bar x y bar px py)
  unfolding reaches_bar
  sum_top =
      let ex = plain x px hx kx in
      let ey = plain y py hy ky in
      top (sum_of x y px py - bar) (omega (arith, sum_most))
      ∙ ap one
      (leb_same 9223372036854775808 (sum_of x y px py - bar) (bar + 2097152 * (px + py)) (x * px + y * py + 17592186044416) (λ u. omega arith) (λ u. omega arith))

-- ---- the sum, and distances

sq_shift : (a b k : ℕ) → sq (a + k) (b + k) ≡ sq a b
unfolding sq apart
sq_shift a b k =
    let e : ((a + k) - (b + k)) + ((b + k) - (a + k)) ≡ (a - b) + (b - a) = omega arith in
    ap (λ (n : ℕ). n * n) e

-- relative to q both move alike
rel_sq : (a b q : ℕ) → OnGrid a → OnGrid b → OnGrid q → sq (from_q a q) (from_q b q) ≡ sq a b
rel_sq a b q g h i =
    let aa : from_q a q + q ≡ a + 2097152 = omega arith in
    let bb : from_q b q + q ≡ b + 2097152 = omega arith in
    sym (sq_shift (from_q a q) (from_q b q) q) ∙ rw (aa, bb) (sq_shift a b 2097152)

-- one axis: what is added with c's squared distance to p, and what is taken with c's to q and q's to p
axis_law : (c p q : ℕ) → OnGrid c → OnGrid p → OnGrid q
    → from_q c q * (2 * from_q p q) + 8796093022208 + sq c p ≡ 4194304 * from_q c q + 2097152 * (2 * from_q p q) + (sq q c + sq q p)
axis_law c p q g h i =
    let at-q : from_q q q ≡ 2097152 = omega arith in
    let u : sq (from_q c q) (from_q p q) ≡ sq c p = rel_sq c p q g h i in
    let v : sq (from_q q q) (from_q c q) ≡ sq q c = rel_sq q c q i g i in
    let w : sq (from_q q q) (from_q p q) ≡ sq q p = rel_sq q p q i h i in
    omega (arith, u, v, w, ap (λ (n : ℕ). sq n (from_q c q)) at-q, ap (λ (n : ℕ). sq n (from_q p q)) at-q, sq_law (from_q c q) (from_q p q), sq_law 2097152 (from_q c q), sq_law 2097152 (from_q p q))

same_test : (a b : ℕ) (t : Bool) → (a ≤ b → t ≡ true) → (t ≡ true → a ≤ b) → leb a b ≡ t
same_test a b t f g = go (dec_le a b) t f g
  where
    go : Dec (a ≤ b) → (t : Bool) → (a ≤ b → t ≡ true) → (t ≡ true → a ≤ b) → leb a b ≡ t
    go (yes h) t f g = le-leb a b h ∙ sym (f h)
    go (no h) true f g = absurd (h (g refl))
    go (no h) false f g = lt-leb a b (omega arith)

-- the sum of p reaches c's bar exactly if c is as near to p as q is, or nearer
pub reaches_near : (p c q : Place) → PlaceOnGrid p → PlaceOnGrid c → PlaceOnGrid q
    → reaches_bar (from_q c.x q.x) (from_q c.y q.y) (bar_of q c) (2 * from_q p.x q.x) (2 * from_q p.y q.y) ≡ as_near_to p c q
unfolding reaches_bar as_near_to dist²
reaches_near p c q gp gc gq =
    let x = axis_law c.x p.x q.x gc.x gp.x gq.x in
    let y = axis_law c.y p.y q.y gc.y gp.y gq.y in
    let X = from_q c.x q.x in
    let Y = from_q c.y q.y in
    let px = 2 * from_q p.x q.x in
    let py = 2 * from_q p.y q.y in
    let near = sq c.x p.x + sq c.y p.y in
    let far = sq q.x p.x + sq q.y p.y in
    same_test (bar_of q c + 2097152 * (px + py)) (X * px + Y * py + 17592186044416) (as_near near far)
    (λ h. no_further near far (omega arith))
    (λ t. omega (arith, near_means near far t))

-- ---- what stands in the rows

module _ {q : Place} {xs ys bars : List ℕ} {m : ℕ} (gq : PlaceOnGrid q) (s : Standing q xs ys bars m) (i : ℕ) (h : i < m) where
  pub at_x : get_or xs i 0 ≡ from_q (place_in q xs ys i).x q.x
  at_x = let g = s.grid i h in omega (arith, g.x, gq.x)

  pub at_y : get_or ys i 0 ≡ from_q (place_in q xs ys i).y q.y
  at_y = let g = s.grid i h in omega (arith, g.y, gq.y)

  pub below_x : get_or xs i 0 < 4194304
  below_x = let g = s.grid i h in omega (arith, g.x, gq.x)

  pub below_y : get_or ys i 0 < 4194304
  below_y = let g = s.grid i h in omega (arith, g.y, gq.y)

  pub bar_most : get_or bars i 0 ≤ 70368744177664
  bar_most = let g = s.grid i h in omega (arith, s.bar i h, dist_most gq g, at_x, at_y, below_x, below_y)

  -- the test of candidate i at p
  pub reaches_at : (p : Place) → PlaceOnGrid p
      → reaches_bar (get_or xs i 0) (get_or ys i 0) (get_or bars i 0) (2 * from_q p.x q.x) (2 * from_q p.y q.y) ≡ as_near_to p (place_in q xs ys i) q
  reaches_at p gp =
      let px = 2 * from_q p.x q.x in
      let py = 2 * from_q p.y q.y in
      ap (λ (b : ℕ). reaches_bar (get_or xs i 0) (get_or ys i 0) b px py) (s.bar i h)
      ∙ ap (λ (x : ℕ). reaches_bar x (get_or ys i 0) (bar_of q (place_in q xs ys i)) px py) at_x
      ∙ ap (λ (y : ℕ). reaches_bar (from_q (place_in q xs ys i).x q.x) y (bar_of q (place_in q xs ys i)) px py) at_y
      ∙ reaches_near p (place_in q xs ys i) q gp (s.grid i h) gq

-- ---- the end that counts

-- the mask takes the whole length or nothing of it
pub masked : (x low wide : ℕ) → x < 4194304 → wide < 8388608 → low + bit_and wide (8388607 + x / 2097152) ≡ end_for x low wide
masked x low wide h k = go (dec_le 2097152 x)
  where
    go : Dec (2097152 ≤ x) → low + bit_and wide (8388607 + x / 2097152) ≡ end_for x low wide
    go (yes l) =
        let d : 8388607 + x / 2097152 ≡ 1 * 8388608 = omega arith in
        let z : bit_and wide (1 * 8388608) ≡ 0 = and_comm wide (1 * 8388608) ∙ and_shifted 1 23 wide k in
        rw (le-ltb x 2097152 l, d, z) (omega arith)
    go (no l) =
        let d : 8388607 + x / 2097152 ≡ 8388607 = omega arith in
        let z : bit_and wide 8388607 ≡ wide = and_mask wide 23 ∙ mod-eq_of_lt {n = wide} {m = 8388608} k in
        rw (lt-ltb x 2097152 (omega arith), d, z) refl

pub end_most : (x low wide : ℕ) → end_for x low wide ≤ low + wide
end_most x low wide = go (ltb x 2097152)
  where
    go : (b : Bool) → cond b (low + wide) low ≤ low + wide
    go true = omega arith
    go false = omega arith

-- it is the worst one
pub end_worst : (s : Span) (c q : ℕ) → s.low ≤ s.high → OnGrid s.low → OnGrid s.high → OnGrid c → OnGrid q
    → end_for (from_q c q) (2 * from_q s.low q) (2 * (s.high - s.low)) ≡ 2 * from_q (worst_end s c q) q
end_worst s c q u g h i j = go (dec_lt c q)
  where
    go : Dec (c < q) → end_for (from_q c q) (2 * from_q s.low q) (2 * (s.high - s.low)) ≡ 2 * from_q (worst_end s c q) q
    go (yes l) = rw (lt-ltb c q l, lt-ltb (from_q c q) 2097152 (omega arith)) (omega arith)
    go (no l) =
        let k : q ≤ c = omega arith in
        rw (le-ltb c q k, le-ltb (from_q c q) 2097152 (omega arith)) (omega arith)

worst_on : (s : Span) (c q : ℕ) → OnGrid s.low → OnGrid s.high → OnGrid (worst_end s c q)
worst_on s c q g h = go (ltb c q)
  where
    go : (b : Bool) → OnGrid (cond b s.high s.low)
    go true = h
    go false = g

-- ---- the two counts

-- candidate j at a place, and at the corner that counts for it
abbrev pub place_test : (xs ys bars : List ℕ) (px py : ℕ) → ℕ → Bool
place_test xs ys bars px py j = reaches_bar (get_or xs j 0) (get_or ys j 0) (get_or bars j 0) px py

abbrev pub corner_test : (xs ys bars : List ℕ) (lx wx ly wy : ℕ) → ℕ → Bool
corner_test xs ys bars lx wx ly wy j = place_test xs ys bars (end_for (get_or xs j 0) lx wx) (end_for (get_or ys j 0) ly wy) j

module _ {q : Place} {xs ys bars : List ℕ} {m : ℕ} (gq : PlaceOnGrid q) (s : Standing q xs ys bars m) where
  pub counted : (p : Place) → PlaceOnGrid p
      → count (place_test xs ys bars (2 * from_q p.x q.x) (2 * from_q p.y q.y)) (up_from 0 m) ≡ count (λ i. as_near_to p (place_in q xs ys i) q) (up_from 0 m)
  counted p gp = count_same _ _ (up_from 0 m) (up_all _ 0 m (λ i l u. reaches_at gq s i (omega arith) p gp))

  pub counted_corners : (r : Rect) → Upright r
      → count
      (corner_test xs ys bars (2 * from_q r.x.low q.x) (2 * (r.x.high - r.x.low)) (2 * from_q r.y.low q.y) (2 * (r.y.high - r.y.low)))
      (up_from 0 m)
      ≡ count (λ i. corners_as_near r (place_in q xs ys i) q) (up_from 0 m)
  unfolding worst_corner
  counted_corners r u = count_same _ _ (up_from 0 m) (up_all _ 0 m (λ i l b. at_corner i (omega arith)))
    where
      at_corner : (i : ℕ) → i < m
          → corner_test xs ys bars (2 * from_q r.x.low q.x) (2 * (r.x.high - r.x.low)) (2 * from_q r.y.low q.y) (2 * (r.y.high - r.y.low)) i
          ≡ corners_as_near r (place_in q xs ys i) q
      at_corner i h =
          let c = place_in q xs ys i in
          let g = s.grid i h in
          let w = worst_corner r c q in
          let x = ap (λ (n : ℕ). end_for n (2 * from_q r.x.low q.x) (2 * (r.x.high - r.x.low))) (at_x gq s i h) ∙ end_worst r.x c.x q.x u.x u.grid.x.low u.grid.x.high g.x gq.x in
          let y = ap (λ (n : ℕ). end_for n (2 * from_q r.y.low q.y) (2 * (r.y.high - r.y.low))) (at_y gq s i h) ∙ end_worst r.y c.y q.y u.y u.grid.y.low u.grid.y.high g.y gq.y in
          ap (λ (n : ℕ). place_test xs ys bars n (end_for (get_or ys i 0) (2 * from_q r.y.low q.y) (2 * (r.y.high - r.y.low))) i) x
          ∙ ap (λ (n : ℕ). place_test xs ys bars (2 * from_q w.x q.x) n i) y
          ∙ reaches_at gq s i h w (record { x = worst_on r.x c.x q.x u.grid.x.low u.grid.x.high; y = worst_on r.y c.y q.y u.grid.y.low u.grid.y.high })
          ∙ one_corner r c q u
