-- A word of the table, a signed number of 32 bits, and the two ways in which the library reads it.
use Rattle.std.specs.Prelude.{ℕ, ◌+◌, ◌-◌, ◌<◌, ◌^◌, Bool, leb, ℤ, pos, negsuc, nat_abs, ◌-ℤ◌}

-- a number that 32 signed bits hold
abbrev pub IsWord : ℤ → Type 0
IsWord (pos n) = n < 2 ^ 31
IsWord (negsuc n) = n < 2 ^ 31

-- a coordinate is on the grid: from −1,000,000 to 1,000,000
abbrev pub on_grid : ℤ → Bool
on_grid z = leb (nat_abs z) 1000000

-- A coordinate in steps, counted from a false origin as map grids have it: the word 0 lies at step 2³¹, so that no word is left of step 0.
-- Differences, and so distances, lengths and areas, are those of the words.
abbrev pub steps_of : ℤ → ℕ
steps_of (pos n) = 2147483648 + n
steps_of (negsuc n) = 2147483647 - n

-- the word at so many steps
unfoldable pub word_of : ℕ → ℤ
word_of s = pos s -ℤ pos 2147483648

-- A level, a number of entries, a point number or a slot. A negative word reads as more than 2³¹, which no rule allows.
abbrev pub nat_of : ℤ → ℕ
nat_of (pos n) = n
nat_of (negsuc n) = 4294967295 - n
