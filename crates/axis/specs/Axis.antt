-- One axis, in steps. What serves both axes is said here, once.
use Rattle.std.specs.Prelude.{ℕ, ◌+◌, ◌-◌, ◌*◌, ◌≤◌, min, max, Bool, ◌&&◌, cond, leb, ltb}
use Rattle.axis.specs.declared.span.Span.{Span}

-- the coordinate is on the grid: a million steps to either side of the false origin at most
pub record OnGrid (a : ℕ) : Type 0 where
  pub low : 2146483648 ≤ a
  pub high : a ≤ 2148483648

-- the same as a test
abbrev pub step_on_grid : ℕ → Bool
step_on_grid a = leb 2146483648 a && leb a 2148483648

pub record SpanOnGrid (s : Span) : Type 0 where
  pub low : OnGrid s.low
  pub high : OnGrid s.high

-- how far two coordinates are apart
unfoldable pub apart : ℕ → ℕ → ℕ
apart a b = (a - b) + (b - a)

-- its square
unfoldable pub sq : ℕ → ℕ → ℕ
sq a b = apart a b * apart a b

-- the least span that covers both
abbrev pub span_grown : Span → Span → Span
span_grown s t = record { low = min s.low t.low; high = max s.high t.high }

abbrev pub span_length : Span → ℕ
span_length s = s.high - s.low

-- low + high
abbrev pub span_sum : Span → ℕ
span_sum s = s.low + s.high

-- how far a coordinate lies outside the span, on whichever side; 0 inside
unfoldable pub gap : Span → ℕ → ℕ
gap s a = (s.low - a) + (a - s.high)

-- the coordinate lies in the span
pub record InSpan (a : ℕ) (s : Span) : Type 0 where
  pub low : s.low ≤ a
  pub high : a ≤ s.high

-- the first span lies in the second
pub record SpanWithin (s t : Span) : Type 0 where
  pub low : t.low ≤ s.low
  pub high : s.high ≤ t.high

-- of the two ends of the span the one where c does worse against q: the high end if c lies below q, else the low one
abbrev pub worst_end : Span → ℕ → ℕ → ℕ
worst_end s c q = cond (ltb c q) s.high s.low
