-- `vetting::test::Tested::others_in` meets its contract. The loop's invariant: `found` counts those of the first `i` entries, `most` at most. Assumes nothing.
use mathlib.Core.List.{List, [], ◌∷◌}
use Rattle.table.specs.declared.node.Entry.{Entry}
use Rattle.table.specs.Slots.{entries_at}
use Rattle.vetting.specs.Test.{other_as_near}
use Rattle.vetting.proofs.Below.{SoFar}
use Rattle.vetting.proofs.test.Tested.others_in.Given as goal

abbrev pub alone : Entry → List Entry
alone e = e ∷ []

abbrev pub invariant-loop-i : goal.invariant-loop-i
invariant-loop-i l =
    SoFar (other_as_near l.self.number l.self.place l.self.far) alone (entries_at l.table l.slot) l.most l.i l.found
