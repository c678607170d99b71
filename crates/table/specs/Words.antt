-- 01, "The table": words, the parts that hold one slot each, and a run of words put in the place of as many others.
use Rattle.std.specs.Prelude.{ℕ, ◌+◌, ◌*◌, Bool, false, ◌&&◌, List, ◌++◌, eqb, leb, ℤ, pos, negsuc, length, get_or, take, drop}
use Rattle.words.specs.Word.{nat_of}
use Rattle.figures.specs.Figures.{WIDTH}

-- a number lies from a to b
abbrev pub between : ℕ → ℕ → ℕ → Bool
between a b n = leb a n && leb n b

-- a lent table: signed 32-bit words
abbrev pub Words : Type 0
Words = List ℤ

abbrev pub word : Words → ℕ → ℤ
word ws at = get_or ws at (pos 0)

abbrev pub is_zero : ℤ → Bool
is_zero (pos n) = eqb n 0
is_zero (negsuc n) = false

abbrev pub is_minus_one : ℤ → Bool
is_minus_one (pos n) = false
is_minus_one (negsuc n) = eqb n 0

-- word 0 is the root's slot, word 1 the number of points
abbrev pub root_of : Words → ℕ
root_of ws = nat_of (word ws 0)

abbrev pub points_of : Words → ℕ
points_of ws = nat_of (word ws 1)

-- the 42 words of one slot start at word 2 + 42 × slot
abbrev pub start_of : ℕ → ℕ
start_of s = 2 + WIDTH * s

unfoldable pub part_at : Words → ℕ → Words
part_at ws s = take WIDTH (drop (start_of s) ws)

-- `vs` stands in `ws` from `at` on, and everything else is as it was
unfoldable pub placed : Words → ℕ → Words → Words
placed ws at vs = take at ws ++ (vs ++ drop (at + length vs) ws)
