-- `naming::find::find` meets its contract. The loop's invariant: the station stands where it stands from this slot on. Assumes nothing.
use Rattle.naming.proofs.Standing.{StandsFrom}
use Rattle.naming.proofs.find.find.Given as goal

abbrev pub invariant-loop-slot : goal.invariant-loop-slot
invariant-loop-slot l = StandsFrom l.table l.number l.slot
