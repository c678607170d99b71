-- `numbers::rule4_first` meets its contract: each slot passes rule 4, or the loop stops at the first that does not; the map marks the numbers of the slots passed. Assumes nothing.
use Prim.Native.Nat.{ℕ, ◌<◌}
use mathlib.Core.Path.{◌≡◌}
use mathlib.Core.Bool.{true}
use Rattle.order.specs.Lists.{join}
use Rattle.order.specs.Order.{up_from}
use Rattle.rules.specs.Rules.{numbers_at, rule4}
use Rattle.audit.specs.Seen.{Marks}
use Rattle.audit.proofs.numbers.rule4_first.Given as goal

abbrev pub invariant-loop-slot : goal.invariant-loop-slot
invariant-loop-slot l = ((k : ℕ) → k < l.slot → rule4 l.table k ≡ true) × Marks l.seen (join (numbers_at l.table) (up_from 0 l.slot))
