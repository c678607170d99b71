-- `jobs::number::value_of` meets its contract. The loop's invariant: the digits ahead, after digits that say `n`, say what all of them say. So no turn goes past that value, which is below 10⁷. Assumes nothing.
use mathlib.Core.Path.{◌≡◌}
use lib.ListN.{drop}
use Rattle.jobs.specs.Number.{value_from, value_of}
use Rattle.jobs.proofs.number.value_of.Given as goal

abbrev pub invariant-loop-b : goal.invariant-loop-b
invariant-loop-b l = value_from l.n (drop l.b-index l.digits) ≡ value_of l.digits
