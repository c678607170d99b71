-- `references::rule7_first` meets its contract. The invariant: the references of the slots passed are counted. Assumes nothing.
use Rattle.order.specs.Lists.{join}
use Rattle.order.specs.Order.{up_from}
use Rattle.rules.specs.Rules.{refs_at}
use Rattle.audit.specs.Seen.{Tally}
use Rattle.audit.proofs.references.rule7_first.Given as goal

abbrev pub invariant-loop-slot : goal.invariant-loop-slot
invariant-loop-slot l = Tally l.times (join (refs_at l.table) (up_from 0 l.slot))
