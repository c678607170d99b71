-- `vetting::test::Tested::others_below` meets its contract, by recursion on the level. The loop's invariant: `found` counts those below the first `i` children, `most` at most. Assumes nothing.
use Prim.Native.Nat.{ℕ, ◌-◌}
use mathlib.Core.List.{List}
use Rattle.table.specs.declared.node.Entry.{Entry}
use Rattle.table.specs.Words.{Words}
use Rattle.table.specs.Slots.{entries_at}
use Rattle.vetting.specs.Test.{other_as_near, below}
use Rattle.vetting.proofs.Below.{SoFar}
use Rattle.vetting.proofs.test.Tested.+others_below.Given as goal

-- the points below an entry of a node of this level
abbrev pub under : Words → ℕ → Entry → List Entry
under ws level e = below (level - 1) ws e.reference

abbrev pub invariant-loop-i : goal.invariant-loop-i
invariant-loop-i l =
    SoFar (other_as_near l.self.number l.self.place l.self.far) (under l.table l.level) (entries_at l.table l.slot) l.most l.i l.found

abbrev pub decreases-others_below : goal.decreases-others_below
decreases-others_below l = l.level
