-- The loop of `clerk::run::run_on`: the run goes as its definition has it, and the slate is the one that was lent, and stays as wide. The measure is what is left of the sheet.
use Prim.Native.Nat.{◌-◌}
use lib.ListN.{length}
use Rattle.figures.specs.Figures.{MOST}
use Rattle.asking.specs.Slate.{slate_of, Wide, SameSlate}
use Rattle.clerk.specs.Running.{lent}
use Rattle.clerk.proofs.Going.{Going}
use Rattle.clerk.proofs.run.run_on.Given as goal

abbrev pub invariant-loop-run : goal.invariant-loop-run
invariant-loop-run l =
    Going l.sheet l.at l.number (lent l.initial.table l.initial.answers) l.initial.out (lent l.table l.answers) l.out l.run
    × Wide MOST (slate_of l.slate) × SameSlate l.initial.slate l.slate

abbrev pub decreases-loop-run : goal.decreases-loop-run
decreases-loop-run l = length l.sheet - l.run.at
