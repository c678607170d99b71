-- The figures that belong to the table. They stand here, and in the code as constants of the type `Table`; a promise that cites both fails if they differ.
use Rattle.std.specs.Prelude.{ℕ, ◌+◌, ◌*◌}

-- a node has at most eight entries
abbrev pub FAN : ℕ
FAN = 8

-- and, if it is not the root, at least three
abbrev pub LEAST : ℕ
LEAST = 3

-- the table holds at most 500 points
abbrev pub MOST : ℕ
MOST = 500

-- in 256 slots
abbrev pub SLOTS : ℕ
SLOTS = 256

-- an entry is five words: reference, x low, y low, x high, y high
abbrev pub ENTRY : ℕ
ENTRY = 5

-- a slot is 42 words: level, number of entries, eight entries
abbrev pub WIDTH : ℕ
WIDTH = 2 + ENTRY * FAN

-- the table is 10,754 words: the root's slot, the number of points, 256 slots
abbrev pub LENGTH : ℕ
LENGTH = 2 + WIDTH * SLOTS

-- point numbers run from 1 to 9,999
abbrev pub HIGHEST : ℕ
HIGHEST = 9999
