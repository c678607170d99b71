-- A node as a page: its level and its entries in their places; and the 42 words that hold it.
use Rattle.std.specs.Prelude.{ℕ, ◌+◌, ◌-◌, ◌*◌, ◌≤◌, ◌<◌, ◌^◌, min, ◌≡◌, List, [], ◌∷◌, ◌++◌, map, pos, negsuc, length, take, drop, replicate}
use Rattle.words.specs.Word.{steps_of, word_of, nat_of}
use Rattle.grid.specs.declared.rect.Rect.{Rect}
use Rattle.grid.specs.Place.{rect_grown}
use Rattle.order.specs.Order.{up_from}
use Rattle.order.specs.Lists.{All}
use Rattle.table.specs.declared.node.Entry.{Entry}
use Rattle.table.specs.declared.node.Node.{Node}
use Rattle.figures.specs.Figures.{FAN, ENTRY}
use Rattle.table.specs.Words.{Words, word}

pub record Page : Type 0 where
  pub level : ℕ
  pub entries : List Entry

abbrev pub page : ℕ → List Entry → Page
page l es = record { level = l; entries = es }

-- the entries that a value of the code holds: those past its number do not count
abbrev pub held : Node → List Entry
held n = take n.count n.entries

-- the page that a value of the code stands for
abbrev pub shown : Node → Page
shown n = page n.level (held n)

-- the value n stands for the page p
pub record Shows (n : Node) (p : Page) : Type 0 where
  pub level : n.level ≡ p.level
  pub count : n.count ≡ length p.entries
  pub entries : held n ≡ p.entries

-- later entries move up one
abbrev pub without : ℕ → List Entry → List Entry
without i es = take i es ++ drop (i + 1) es

-- ---- read

-- entry i of a slot's words: reference, x low, y low, x high, y high
unfoldable pub entry_of : Words → ℕ → Entry
entry_of part i = record {
  reference = nat_of (word part (2 + ENTRY * i));
  rect = record {
    x = record { low = steps_of (word part (2 + ENTRY * i + 1)); high = steps_of (word part (2 + ENTRY * i + 3)) };
    y = record { low = steps_of (word part (2 + ENTRY * i + 2)); high = steps_of (word part (2 + ENTRY * i + 4)) };
  };
}

-- how many entries the words hold: what word 1 says, but all eight if that is outside 0 to 8
abbrev pub filled : Words → ℕ
filled part = min (nat_of (word part 1)) FAN

unfoldable pub page_of : Words → Page
page_of part = record { level = nat_of (word part 0); entries = map (entry_of part) (up_from 0 (filled part)) }

-- ---- written

unfoldable pub entry_words : Entry → Words
entry_words e =
    pos e.reference
    ∷ word_of e.rect.x.low
    ∷ word_of e.rect.y.low
    ∷ word_of e.rect.x.high
    ∷ word_of e.rect.y.high
    ∷ []

unfoldable pub entries_words : List Entry → Words
entries_words [] = []
entries_words (e ∷ es) = entry_words e ++ entries_words es

-- words of unused entries are zero
unfoldable pub page_words : Page → Words
page_words p = pos p.level ∷ pos (length p.entries) ∷ entries_words p.entries ++ replicate (ENTRY * (FAN - length p.entries)) (pos 0)

-- a free slot: level −1, then 41 zeros
unfoldable pub free_words : Words
free_words = negsuc 0 ∷ replicate (1 + ENTRY * FAN) (pos 0)

-- an entry that five words can hold
pub record EntryFits (e : Entry) : Type 0 where
  pub reference : e.reference < 2 ^ 31
  pub x_low : e.rect.x.low < 2 ^ 32
  pub y_low : e.rect.y.low < 2 ^ 32
  pub x_high : e.rect.x.high < 2 ^ 32
  pub y_high : e.rect.y.high < 2 ^ 32

-- a page that 42 words can hold
pub record PageFits (p : Page) : Type 0 where
  pub level : p.level < 2 ^ 31
  pub few : length p.entries ≤ FAN
  pub entries : All EntryFits p.entries

-- ---- covered

-- what stands where no entry does
abbrev pub blank_entry : Entry
blank_entry = record { reference = 0; rect = record { x = record { low = 0; high = 0 }; y = record { low = 0; high = 0 } } }

-- the smallest rectangle that covers r and all of a list
abbrev pub cover_from : Rect → List Entry → Rect
cover_from r [] = r
cover_from r (e ∷ es) = cover_from (rect_grown r e.rect) es

-- the smallest rectangle that covers all of a list; of no entries, the blank entry's
unfoldable pub cover_of : List Entry → Rect
cover_of [] = blank_entry.rect
cover_of (e ∷ es) = cover_from e.rect es
