-- The tree that a well-formed table stores. No promise speaks of it; the theorems about well-formed tables do.
use Rattle.std.specs.Prelude.{ℕ, zero, suc, ◌≤◌, ◌<◌, ◌≡◌, true, List, [], ◌∷◌, map, pos, length}
use Rattle.order.specs.Lists.{join, Mem, All, NoDup}
use Rattle.table.specs.declared.node.Entry.{Entry}
use Rattle.figures.specs.Figures.{FAN, LEAST, MOST, SLOTS, LENGTH}
use Rattle.table.specs.Words.{Words, word, part_at}
use Rattle.table.specs.Page.{page, page_words, free_words, cover_of}
use Rattle.table.specs.Stations.{is_point}

-- a slot, and what hangs on it
pub record Bough (A : Type 0) : Type 0 where
  pub slot : ℕ
  pub items : List A

-- a tree by its level: a leaf has points, a node above has trees of the level below
abbrev pub Tree : ℕ → Type 0
Tree zero = Bough Entry
Tree (suc l) = Bough (Tree l)

abbrev pub bough : {A : Type 0} → ℕ → List A → Bough A
bough s xs = record { slot = s; items = xs }

-- the slot of its top node
abbrev pub top_of : (l : ℕ) → Tree l → ℕ
top_of zero t = t.slot
top_of (suc l) t = t.slot

-- the entry that a node above has for it: its box is the smallest that covers all boxes in it
abbrev pub entry_of_tree : (l : ℕ) → Tree l → Entry
entry_of_tree zero t = record { reference = t.slot; rect = cover_of t.items }
entry_of_tree (suc l) t = record { reference = t.slot; rect = cover_of (map (entry_of_tree l) t.items) }

-- the entries of its top node
abbrev pub entries_of_tree : (l : ℕ) → Tree l → List Entry
entries_of_tree zero t = t.items
entries_of_tree (suc l) t = map (entry_of_tree l) t.items

-- the slots of all its nodes
abbrev pub slots_of : (l : ℕ) → Tree l → List ℕ
slots_of zero t = t.slot ∷ []
slots_of (suc l) t = t.slot ∷ join (slots_of l) t.items

-- the points in its leaves
abbrev pub leaves_of : (l : ℕ) → Tree l → List Entry
leaves_of zero t = t.items
leaves_of (suc l) t = join (leaves_of l) t.items

-- a node has from lo to eight items
abbrev pub Fill : {A : Type 0} → ℕ → Bough A → Type 0
Fill lo t = (lo ≤ length t.items) × (length t.items ≤ FAN)

-- a top node of at least lo items, and below it nodes of 3 to 8
abbrev pub Filled : ℕ → (l : ℕ) → Tree l → Type 0
Filled lo zero t = Fill lo t
Filled lo (suc l) t = Fill lo t × All (Filled LEAST l) t.items

-- a root leaf has at least one entry, a root above at least two
abbrev pub least_of : ℕ → ℕ
least_of zero = 1
least_of (suc l) = 2

-- the words of each node stand in its slot
abbrev pub Stored : (l : ℕ) → Words → Tree l → Type 0
Stored zero ws t = part_at ws t.slot ≡ page_words (page zero t.items)
Stored (suc l) ws t = (part_at ws t.slot ≡ page_words (page (suc l) (map (entry_of_tree l) t.items))) × All (Stored l ws) t.items

-- a tree that a table may hold
pub record Sound (l : ℕ) (t : Tree l) : Type 0 where
  pub fill : Filled (least_of l) l t
  -- no two nodes share a slot
  pub apart : NoDup (slots_of l t)
  pub inside : All (λ s. s < SLOTS) (slots_of l t)
  -- the leaves hold points, no number twice, at most 500
  pub points : All (λ e. is_point e ≡ true) (leaves_of l t)
  pub once : NoDup (map (λ e. e.reference) (leaves_of l t))
  pub few : length (leaves_of l t) ≤ MOST

-- the table holds the tree, and nothing else
pub record Holds (ws : Words) (l : ℕ) (t : Tree l) : Type 0 where
  pub long : length ws ≡ LENGTH
  pub root : word ws 0 ≡ pos (top_of l t)
  pub points : word ws 1 ≡ pos (length (leaves_of l t))
  pub stored : Stored l ws t
  pub others : (s : ℕ) → s < SLOTS → (Mem s (slots_of l t) → ⊥) → part_at ws s ≡ free_words
