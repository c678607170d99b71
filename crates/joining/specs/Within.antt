-- What the inner functions of an enrolment are given to work with, and what an insertion hands up.
use Rattle.std.specs.Prelude.{ℕ, suc, ◌≤◌, ◌<◌, ◌^◌, ◌≡◌, true, Option, Some, None, List, [], ◌∷◌, length}
use Rattle.words.specs.Word.{IsWord}
use Rattle.grid.specs.Place.{RectOnGrid}
use Rattle.order.specs.Lists.{count, All}
use Rattle.table.specs.declared.node.Entry.{Entry}
use Rattle.table.specs.declared.node.Node.{Node}
use Rattle.figures.specs.Figures.{SLOTS, LENGTH}
use Rattle.table.specs.Words.{Words}
use Rattle.table.specs.Page.{held, EntryFits}
use Rattle.table.specs.Slots.{slots, is_free, lowest_free, entry_for}
use Rattle.table.specs.Stations.{is_point}
use Rattle.rules.specs.Rules.{well_formed}
use Rattle.table.specs.Tree.{Tree, Sound, Holds}
use Rattle.change.specs.Planted.{Planted}
use Rattle.joining.specs.Enrol.{Grown}

-- the entry of a new node, if one was made
abbrev pub new_of : Option Entry → List Entry
new_of None = []
new_of (Some e) = e ∷ []

abbrev pub grew : Words → Option Entry → Grown
grew ws new = record { words = ws; new = new_of new }

-- up to nine entries, each of which a slot can hold, on the grid; and a slot is free
pub record MaySettle (ws : Words) (s : ℕ) (n : Node) : Type 0 where
  pub low : s < SLOTS
  pub level : n.level < 2 ^ 31
  pub nine : n.count ≤ 9
  pub fits : All EntryFits (held n)
  pub grid : All (λ e. RectOnGrid e.rect) (held n)
  pub room : lowest_free ws < SLOTS

-- how many slots are free
unfoldable pub free_count : Words → ℕ
free_count ws = count (is_free ws) slots

-- a tree stands below slot s, and a slot is free for a new node on each of its levels
pub record MayInsert (l : ℕ) (ws : Words) (s : ℕ) (e : Entry) : Type 0 where
  pub planted : Planted l ws s
  pub room : suc l ≤ free_count ws
  pub point : is_point e ≡ true

-- the node in slot s is the root, of level l; it may have got a sibling
pub record MayRaise (ws : Words) (s l : ℕ) : Type 0 where
  pub low : s < SLOTS
  pub level : l ≤ 5
  pub old : EntryFits (entry_for ws s)
  pub room : lowest_free ws < SLOTS

-- the table holds a sound tree
pub record MayGrow (ws : Words) (e : Entry) : Type 0 where
  pub level : ℕ
  pub tree : Tree level
  pub holds : Holds ws level tree
  pub sound : Sound level tree
  pub point : is_point e ≡ true

-- a table of words that is well formed, and a point
pub record MayEnrol (ws : Words) (e : Entry) : Type 0 where
  pub long : length ws ≡ LENGTH
  pub words : All IsWord ws
  pub good : well_formed ws ≡ true
  pub point : is_point e ≡ true
