-- `naming::down::offer_leaf` meets its contract. The loop's invariant: the same row has the best of the first `i` points. Assumes nothing.
use mathlib.Core.Path.{◌≡◌}
use mathlib.Core.List.{List, [], ◌∷◌}
use Rattle.table.specs.declared.node.Entry.{Entry}
use Rattle.table.specs.Slots.{entries_at}
use Rattle.naming.proofs.Marking.{SoFar}
use Rattle.naming.proofs.down.offer_leaf.Given as goal

abbrev pub alone : Entry → List Entry
alone e = e ∷ []

abbrev pub invariant-loop-i : goal.invariant-loop-i
invariant-loop-i l =
    SoFar l.holder.number l.holder.place alone (entries_at l.table l.slot) l.initial.best.marks.now l.i l.best.marks.now
    × (l.best.marks.ghost_name ≡ l.initial.best.marks.ghost_name)
