-- The loop of `clerk::start::clear`: the header is the empty table's, and the slots passed are free.
use Rattle.clerk.proofs.Cleared.{Cleared}
use Rattle.clerk.proofs.start.clear.Given as goal

abbrev pub invariant-loop-slot : goal.invariant-loop-slot
invariant-loop-slot l = Cleared l.table l.slot
