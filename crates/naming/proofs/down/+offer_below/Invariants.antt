-- `naming::down::offer_below` meets its contract, by recursion on the level. The loop's invariant: the same row has the best of the points below the first `i` children, nearest first. Assumes nothing.
use Prim.Native.Nat.{ℕ, ◌-◌}
use mathlib.Core.Path.{◌≡◌}
use mathlib.Core.List.{List}
use Rattle.table.specs.declared.node.Entry.{Entry}
use Rattle.table.specs.Words.{Words}
use Rattle.table.specs.Slots.{entries_at}
use Rattle.filter.specs.Walk.{nearest_first}
use Rattle.vetting.specs.Test.{below}
use Rattle.naming.proofs.Marking.{SoFar}
use Rattle.naming.proofs.down.+offer_below.Given as goal

-- the points below an entry of a node of this level
abbrev pub under : Words → ℕ → Entry → List Entry
under ws level e = below (level - 1) ws e.reference

abbrev pub invariant-loop-at : goal.invariant-loop-at
invariant-loop-at l =
    SoFar l.holder.number l.holder.place (under l.table l.level) (nearest_first l.holder.place 0 (entries_at l.table l.slot)) l.initial.best.marks.now l.at-index l.best.marks.now
    × (l.best.marks.ghost_name ≡ l.initial.best.marks.ghost_name)

abbrev pub decreases-offer_below : goal.decreases-offer_below
decreases-offer_below l = l.level
