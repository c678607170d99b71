-- What the functions of a change require of the words below a slot: a tree as a well-formed table has it.
use Rattle.std.specs.Prelude.{ℕ, ◌≤◌, ◌<◌, ◌≡◌, true, length}
use Rattle.order.specs.Lists.{All, NoDup}
use Rattle.figures.specs.Figures.{SLOTS, LENGTH}
use Rattle.table.specs.Words.{Words}
use Rattle.table.specs.Stations.{is_point}
use Rattle.table.specs.Tree.{Tree, top_of, slots_of, leaves_of, least_of, Filled, Stored}

-- the words hold a tree of level l whose top is in slot s
pub record Planted (l : ℕ) (ws : Words) (s : ℕ) : Type 0 where
  pub tree : Tree l
  pub top : top_of l tree ≡ s
  pub long : length ws ≡ LENGTH
  -- a table has six levels at most
  pub low : l ≤ 5
  pub fill : Filled (least_of l) l tree
  -- no two nodes share a slot
  pub apart : NoDup (slots_of l tree)
  pub inside : All (λ o. o < SLOTS) (slots_of l tree)
  pub points : All (λ e. is_point e ≡ true) (leaves_of l tree)
  pub stored : Stored l ws tree
