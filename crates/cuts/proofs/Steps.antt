-- The end of a part as the search finds it from a place on. Assumes nothing.
use Prim.Native.Nat.{ℕ, ◌+◌}
use mathlib.Core.Path.{◌≡◌}
use mathlib.Core.Bool.{Bool, true}
use lib.ListN.{drop}
use Rattle.sheet.specs.Bytes.{Bytes}
use Rattle.cuts.specs.declared.parts.Mark.{Mark}
use Rattle.cuts.specs.Places.{stop_at}
use Rattle.cuts.proofs.Parted.{reach_from, end_reach}

-- the place where the part ends, found from i on
abbrev pub stop_from : Mark → Bool → Bytes → ℕ → ℕ
stop_from mark even bs i = i + reach_from mark even (drop i bs)

pub stop_start : (mark : Mark) (bs : Bytes) (i : ℕ) → stop_from mark true bs i ≡ stop_at mark bs i
unfolding stop_at
stop_start mark bs i = rw (end_reach mark (drop i bs))
