-- `naming::names::put_names` meets its contract. The loop's invariant: the names of the first `i` marks lie over the front of the list. Assumes nothing.
use mathlib.Core.Path.{◌≡◌}
use mathlib.Core.List.{map}
use lib.ListN.{take}
use Rattle.filter.specs.Query.{laid_over}
use Rattle.naming.specs.Holders.{number_in}
use Rattle.naming.proofs.names.put_names.Given as goal

abbrev pub invariant-loop-i : goal.invariant-loop-i
invariant-loop-i l = l.list ≡ laid_over (map number_in (take l.i l.marks)) l.initial.list
