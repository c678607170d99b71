-- What a walk asks of the table: each slot that it may open is a slot, each box stands upright on the grid, and each point lies on it. Every well-formed table is so.
use Rattle.std.specs.Prelude.{ℕ, zero, suc, ◌<◌, ◌≡◌, true}
use Rattle.grid.specs.Place.{Upright}
use Rattle.order.specs.Lists.{All}
use Rattle.figures.specs.Figures.{SLOTS}
use Rattle.table.specs.Words.{Words}
use Rattle.table.specs.Slots.{entries_at}
use Rattle.table.specs.Stations.{is_point}

-- from the node in slot s, of level l, downwards
abbrev pub Passable : ℕ → Words → ℕ → Type 0
Passable zero ws s = (s < SLOTS) × All (λ e. is_point e ≡ true) (entries_at ws s)
Passable (suc l) ws s = (s < SLOTS) × All (λ e. Upright e.rect × Passable l ws e.reference) (entries_at ws s)
