-- Where the parts of a row of bytes stand: the sheet's reader keeps its place, and goes from mark to mark.
use Rattle.std.specs.Prelude.{ℕ, ◌+◌, cond, eqb, ltb, length, take, drop}
use Rattle.order.specs.Lists.{first_place}
use Rattle.sheet.specs.Bytes.{Bytes, FEED}

-- how many bytes stand before the first mark; all of them if there is none
unfoldable pub reach : ℕ → Bytes → ℕ
reach mark bs = first_place (λ b. eqb b mark) bs

-- the place of the first mark from `at` on; the end if there is none
unfoldable pub stop_from : ℕ → Bytes → ℕ → ℕ
stop_from mark bs at = at + reach mark (drop at bs)

-- the bytes from `at` up to that place
unfoldable pub part_from : ℕ → Bytes → ℕ → Bytes
part_from mark bs at = take (reach mark (drop at bs)) (drop at bs)

-- the place behind that mark; the end if there is none
unfoldable pub next_from : ℕ → Bytes → ℕ → ℕ
next_from mark bs at = cond (ltb (stop_from mark bs at) (length bs)) (stop_from mark bs at + 1) (stop_from mark bs at)

-- the line that starts at a place of the sheet, and the place where the next one starts
abbrev pub line_of : Bytes → ℕ → Bytes
line_of sheet at = part_from FEED sheet at

abbrev pub next_of : Bytes → ℕ → ℕ
next_of sheet at = next_from FEED sheet at
