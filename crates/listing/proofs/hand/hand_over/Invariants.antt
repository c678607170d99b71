-- `listing::hand::hand_over` meets its contract. The loop's invariant: the first i candidates lie over the front of the list. Assumes nothing.
use mathlib.Core.Path.{◌≡◌}
use Rattle.filter.specs.Query.{laid_over}
use Rattle.listing.specs.Records.{candidates_in}
use Rattle.listing.proofs.hand.hand_over.Given as goal

abbrev pub invariant-loop-i : goal.invariant-loop-i
invariant-loop-i l = l.list ≡ laid_over (candidates_in l.q l.candidates.numbers.now l.candidates.leads.xs.now l.candidates.leads.ys.now l.i) l.initial.list
