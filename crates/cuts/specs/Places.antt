-- Where the parts of a row of bytes stand, as the code goes from one to the next.
use Rattle.std.specs.Prelude.{ℕ, ◌+◌, Bool, true, false, cond, not, eqb, ltb, length, take, drop}
use Rattle.sheet.specs.Bytes.{Bytes}
use Rattle.cuts.specs.declared.parts.Mark.{Mark}
use Rattle.cuts.specs.declared.parts.Side.{Side}
use Rattle.cuts.specs.declared.parts.Side.TheVariants.{Outside, Inside}
use Rattle.cuts.specs.Cuts.{QUOTE, width, end_of}

-- an even number of quote marks has been passed
abbrev pub is_outside : Side → Bool
is_outside Outside = true
is_outside Inside = false

-- whether it is even once a byte more is passed
abbrev pub crossed : ℕ → Bool → Bool
crossed b even = cond (eqb b QUOTE) (not even) even

-- the place where the part that starts at `at` ends
unfoldable pub stop_at : Mark → Bytes → ℕ → ℕ
stop_at mark bs at = at + end_of mark (drop at bs)

-- that part
unfoldable pub part_at : Mark → Bytes → ℕ → Bytes
part_at mark bs at = take (end_of mark (drop at bs)) (drop at bs)

-- the place where the next one starts; the end if there is none
unfoldable pub next_at : Mark → Bytes → ℕ → ℕ
next_at mark bs at = cond (ltb (stop_at mark bs at) (length bs)) (stop_at mark bs at + width mark) (stop_at mark bs at)
