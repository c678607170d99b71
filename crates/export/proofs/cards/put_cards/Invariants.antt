-- The loop's invariant: the cards of the numbers passed stand in their stretches.
use Rattle.export.proofs.CardLaws.{Laid}
use Rattle.export.proofs.cards.put_cards.Given as goal

abbrev pub invariant-loop-number : goal.invariant-loop-number
invariant-loop-number l = Laid l.table l.k l.numbers l.initial.cards l.number-index l.at l.cards
