-- `part::put_node` meets its contract. The invariant: the first `i` entries have been written over a free slot's words. Assumes nothing.
use mathlib.Core.Path.{◌≡◌}
use lib.ListN.{length, take}
use Rattle.figures.specs.Figures.{WIDTH}
use Rattle.table.specs.Words.{placed}
use Rattle.table.specs.Page.{entries_words}
use Rattle.table.proofs.part.put_node.Given as goal

abbrev pub invariant-loop-i : goal.invariant-loop-i
invariant-loop-i l = (length l.part ≡ WIDTH) × (l.part ≡ placed l.initial.part 2 (entries_words (take l.i l.e-items)))
