-- `vetting::keep::keep_passing` meets its contract. The loop's invariant: the numbers of those of the first `i` candidates that pass stand at the front of `kept`. Assumes nothing.
use Rattle.filter.specs.Rows.{rows_read, listed}
use Rattle.vetting.proofs.Passed.{Numbered}
use Rattle.vetting.proofs.keep.keep_passing.Given as goal

abbrev pub invariant-loop-i : goal.invariant-loop-i
invariant-loop-i l = Numbered l.table l.q l.k (listed l.q (rows_read l.candidates) l.m) l.initial.kept l.i l.n l.kept
