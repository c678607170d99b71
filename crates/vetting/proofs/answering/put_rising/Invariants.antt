-- `vetting::answering::put_rising` meets its contract. The loop's invariant: the first `i` numbers kept lie over the front of the list.
use mathlib.Core.Path.{◌≡◌}
use lib.ListN.{take}
use Rattle.filter.specs.Query.{laid_over}
use Rattle.vetting.proofs.answering.put_rising.Given as goal

abbrev pub invariant-loop-i : goal.invariant-loop-i
invariant-loop-i l = l.answers ≡ laid_over (take l.i l.kept) l.initial.answers
