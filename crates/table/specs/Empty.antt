-- The empty table: root −1, points 0, all slots free.
use Rattle.std.specs.Prelude.{ℕ, zero, suc, [], ◌∷◌, ◌++◌, pos, negsuc}
use Rattle.figures.specs.Figures.{SLOTS}
use Rattle.table.specs.Words.{Words}
use Rattle.table.specs.Page.{free_words}

abbrev pub free_slots : ℕ → Words
free_slots zero = []
free_slots (suc n) = free_words ++ free_slots n

unfoldable pub empty_table : Words
empty_table = negsuc 0 ∷ pos 0 ∷ free_slots SLOTS
