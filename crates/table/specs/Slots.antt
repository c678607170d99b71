-- The slots of a table: read, written, freed; the lowest that is free.
use Rattle.std.specs.Prelude.{ℕ, Bool, List, ℤ, pos, set}
use Rattle.order.specs.Order.{up_from}
use Rattle.order.specs.Lists.{first_place}
use Rattle.table.specs.declared.node.Entry.{Entry}
use Rattle.figures.specs.Figures.{SLOTS}
use Rattle.table.specs.Words.{Words, word, is_minus_one, start_of, part_at, placed}
use Rattle.table.specs.Page.{Page, page_of, page_words, free_words, cover_of}

-- 0 to 255
abbrev pub slots : List ℕ
slots = up_from 0 SLOTS

-- a slot is free if its level is −1, else used
unfoldable pub is_free : Words → ℕ → Bool
is_free ws s = is_minus_one (word (part_at ws s) 0)

unfoldable pub page_at : Words → ℕ → Page
page_at ws s = page_of (part_at ws s)

abbrev pub level_at : Words → ℕ → ℕ
level_at ws s = (page_at ws s).level

abbrev pub entries_at : Words → ℕ → List Entry
entries_at ws s = (page_at ws s).entries

unfoldable pub put_page : Words → ℕ → Page → Words
put_page ws s p = placed ws (start_of s) (page_words p)

unfoldable pub freed : Words → ℕ → Words
freed ws s = placed ws (start_of s) free_words

-- the lowest free slot; 256 if none is free
unfoldable pub lowest_free : Words → ℕ
lowest_free ws = first_place (is_free ws) slots

-- the entry that a node above has for the node in slot s: its box is the smallest that covers all boxes there
unfoldable pub entry_for : Words → ℕ → Entry
entry_for ws s = record { reference = s; rect = cover_of (entries_at ws s) }

abbrev pub with_root : Words → ℤ → Words
with_root ws r = set ws 0 r

abbrev pub with_points : Words → ℕ → Words
with_points ws n = set ws 1 (pos n)
