-- The laws of one axis: distances and their squares, spans that grow, what lies in a span, the gap to it, and its worst end. Assumes nothing.
use mathlib.Core.Path.{◌≡◌, refl, ap, subst}
use mathlib.Core.Bool.{Bool, true, false, cond}
use mathlib.Core.Logic.{◌⊎◌, inl, inr, ⊎_elim}
use Prim.Native.Nat.{ℕ, ◌+◌, ◌-◌, ◌*◌, ◌≤◌, ◌<◌}
use native.Mathlib.Decide.{dec_le, dec_lt}
use native.Mathlib.Nat.{mul-le-mul}
use native.Mathlib.Omega.{arith}
use borrow.Author.Tests.{lt-ltb, le-ltb}
use lib.Dec.{ltb}
use Rattle.axis.specs.declared.span.Span.{Span}
use Rattle.axis.specs.Axis.{OnGrid, SpanOnGrid, InSpan, SpanWithin, apart, sq, span_grown, span_length, gap, worst_end}

-- ---- distances

pub apart_sym : (a b : ℕ) → apart a b ≡ apart b a
unfolding apart
apart_sym a b = omega arith

pub sq_sym : (a b : ℕ) → sq a b ≡ sq b a
unfolding sq
sq_sym a b = ap (λ (n : ℕ). n * n) (apart_sym a b)

either : (a b : ℕ) → (a ≤ b) ⊎ (b ≤ a)
either a b = elim (dec_le a b) [ yes h ↦ inl h | no h ↦ inr (omega arith) ]

-- what is below, written with the gap
by_gap : (P : ℕ → ℕ → Type 0) → ((a d : ℕ) → P a (a + d)) → (a b : ℕ) → a ≤ b → P a b
by_gap P h a b le = subst (λ (n : ℕ). P a n) (omega arith) (h a (b - a))

sq_up : (a d : ℕ) → sq a (a + d) ≡ d * d
unfolding sq apart
sq_up a d =
    let e : (a - (a + d)) + ((a + d) - a) ≡ d = omega arith in
    ap (λ (n : ℕ). n * n) e

sq_law_up : (a b : ℕ) → a ≤ b → sq a b + 2 * (a * b) ≡ a * a + b * b
sq_law_up = by_gap (λ a b. sq a b + 2 * (a * b) ≡ a * a + b * b) (λ a d. omega (arith, sq_up a d))

-- the square of a difference, with no difference in it
pub sq_law : (a b : ℕ) → sq a b + 2 * (a * b) ≡ a * a + b * b
sq_law a b = ⊎_elim (λ l. sq_law_up a b l) (λ l. omega (arith, sq_law_up b a l, sq_sym a b)) (either a b)

-- the products of two pairs in order
pub cross : (a b : ℕ) → a ≤ b → (l p : ℕ) → l ≤ p → a * p + b * l ≤ b * p + a * l
cross =
    by_gap (λ a b. (l p : ℕ) → l ≤ p → a * p + b * l ≤ b * p + a * l)
    (λ a d. by_gap (λ l p. a * p + (a + d) * l ≤ (a + d) * p + a * l) (λ l e. omega arith))

-- at the worst end c does no better against q than at any p of the span
pub worst : (c q : ℕ) (s : Span) (p : ℕ) → InSpan p s → sq q (worst_end s c q) + sq c p ≤ sq q p + sq c (worst_end s c q)
worst c q s p i = go (dec_lt c q)
  where
    go : Dec (c < q) → sq q (worst_end s c q) + sq c p ≤ sq q p + sq c (worst_end s c q)
    go (yes l) =
        rw (lt-ltb c q l)
        (omega (arith, cross c q (omega arith) p s.high i.high, sq_law c p, sq_law q p, sq_law c s.high, sq_law q s.high))
    go (no g) =
        let l : q ≤ c = omega arith in
        rw (le-ltb c q l) (omega (arith, cross q c l s.low p i.low, sq_law c p, sq_law q p, sq_law c s.low, sq_law q s.low))

-- it is one of the two ends
pub worst_one : (s : Span) (c q : ℕ) → (worst_end s c q ≡ s.low) ⊎ (worst_end s c q ≡ s.high)
worst_one s c q = go (ltb c q)
  where
    go : (b : Bool) → (cond b s.high s.low ≡ s.low) ⊎ (cond b s.high s.low ≡ s.high)
    go true = inr refl
    go false = inl refl

-- ---- bounds on the grid

square_most : (d : ℕ) → d ≤ 2000000 → d * d ≤ 4000000000000
square_most d h = mul-le-mul {n₂ = 2000000} {m₂ = 2000000} h h

pub apart_most : (a b : ℕ) → OnGrid a → OnGrid b → apart a b ≤ 2000000
unfolding apart
apart_most a b g h = omega arith

pub sq_most : (a b : ℕ) → OnGrid a → OnGrid b → sq a b ≤ 4000000000000
unfolding sq
sq_most a b g h = square_most (apart a b) (apart_most a b g h)

pub length_most : (s : Span) → SpanOnGrid s → span_length s ≤ 2000000
length_most s g = omega arith

pub gap_most : (s : Span) (a : ℕ) → SpanOnGrid s → OnGrid a → gap s a ≤ 2000000
unfolding gap
gap_most s a g h = omega arith

pub gap_square_most : (s : Span) (a : ℕ) → SpanOnGrid s → OnGrid a → gap s a * gap s a ≤ 4000000000000
gap_square_most s a g h = square_most (gap s a) (gap_most s a g h)

-- ---- spans

pub span_ext : {s t : Span} → s.low ≡ t.low → s.high ≡ t.high → s ≡ t
span_ext p q = λ i. record { low = p i; high = q i }

pub span_comm : (s t : Span) → span_grown s t ≡ span_grown t s
span_comm s t = span_ext (omega arith) (omega arith)

pub span_assoc : (s t u : Span) → span_grown (span_grown s t) u ≡ span_grown s (span_grown t u)
span_assoc s t u = span_ext (omega arith) (omega arith)

pub span_idem : (s : Span) → span_grown s s ≡ s
span_idem s = span_ext (omega arith) (omega arith)

pub span_grid : {s t : Span} → SpanOnGrid s → SpanOnGrid t → SpanOnGrid (span_grown s t)
span_grid g h = record { low = record { low = omega arith; high = omega arith }; high = record { low = omega arith; high = omega arith } }

pub span_refl : (s : Span) → SpanWithin s s
span_refl s = record { low = omega arith; high = omega arith }

pub span_trans : {s t u : Span} → SpanWithin s t → SpanWithin t u → SpanWithin s u
span_trans v w = record { low = omega arith; high = omega arith }

pub span_left : (s t : Span) → SpanWithin s (span_grown s t)
span_left s t = record { low = omega arith; high = omega arith }

pub span_right : (s t : Span) → SpanWithin t (span_grown s t)
span_right s t = record { low = omega arith; high = omega arith }

pub span_least : {s t u : Span} → SpanWithin s u → SpanWithin t u → SpanWithin (span_grown s t) u
span_least v w = record { low = omega arith; high = omega arith }

-- ---- a coordinate in a span

pub in_span_within : {a : ℕ} {s t : Span} → InSpan a s → SpanWithin s t → InSpan a t
in_span_within i w = record { low = omega arith; high = omega arith }

pub gap_inside : {a : ℕ} {s : Span} → InSpan a s → gap s a ≡ 0
unfolding gap
gap_inside i = omega arith

-- the gap to a single coordinate is the distance
pub gap_spot : (p a : ℕ) → gap (record { low = p; high = p }) a ≡ apart a p
unfolding gap apart
gap_spot p a = omega arith

-- the gap is the least distance to the span
pub gap_least : {p : ℕ} {s : Span} (a : ℕ) → InSpan p s → gap s a ≤ apart a p
unfolding gap apart
gap_least a i = omega arith

pub gap_square_least : {p : ℕ} {s : Span} (a : ℕ) → InSpan p s → gap s a * gap s a ≤ sq a p
unfolding sq
gap_square_least a i = mul-le-mul (gap_least a i) (gap_least a i)
