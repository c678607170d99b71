-- `cards::put_cards` meets its contract, by the loop's invariant. Assumes nothing.
use Prim.Native.Nat.{◌+◌, ◌-◌}
use native.Mathlib.Omega.{arith}
use mathlib.Core.Path.{◌≡◌, ap}
use lib.IntN.{pos}
use lib.ListN.{get_or}
use borrow.Rule.Slice.PartMut.{mid_of}
use mir.Syntax.{w32}
use mir.Val.{SFits}
use Rattle.limits.proofs.CallTests.{back, one_passed}
use Rattle.desk.specs.Calls.{Listed, after_card}
use Rattle.export.specs.Cards.{cards_over}
use Rattle.export.proofs.CardLaws.{laid_next, laid_short}
use borrow.Author.Rules.{rules}
use Rattle.export.proofs.cards.put_cards.Goals as goal

pub returns-then-cards-at-lt-PLACES : goal.returns-then-cards-at-lt-PLACES
returns-then-cards-at-lt-PLACES c =
    let a = c.args in
    let l = c.loop-number in
    let laid = l.invariant in
    one_passed (λ k. cards_over a.table.now k a.numbers.now a.cards.now) a.k c.ranges.k
    (laid_short a.table.now (back a.k) a.numbers.now a.cards.now l.number-index l.at l.cards laid c.loop-number-test.true (omega (arith, laid.long, laid.within, c.if-cards-at-lt-PLACES.true)))

pub loop-number-preserved : goal.loop-number-preserved
loop-number-preserved c =
    let a = c.args in
    let l = c.loop-number in
    let laid = l.invariant in
    let part = mid_of l.at (l.at + 16 - l.at) l.cards in
    let new = c.card_passing-names.new.list in
    let fits : SFits w32 (get_or a.numbers.now l.number-index (pos 0)) = search rules in
    let listed : new ≡ (after_card a.table.now (get_or a.numbers.now l.number-index (pos 0)) (back a.k) part).list =
    one_passed (λ n. (after_card a.table.now n (back a.k) part).list) (get_or a.numbers.now l.number-index (pos 0)) fits (ap (λ (z : Listed). z.list) c.card_passing-names.ensures) in
    laid_next a.table.now (back a.k) a.numbers.now a.cards.now l.number-index l.at l.cards laid c.loop-number-test.true (omega (arith, c.if-cards-at-lt-PLACES.false, laid.long, laid.within)) new listed c.card_passing-names.auto.list
