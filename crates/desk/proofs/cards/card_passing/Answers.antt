-- `cards::card_passing` meets its contract: a refusal leaves the list, and a station that is enrolled gets its card. Assumes nothing.
use Prim.Native.Nat.{ℕ}
use mathlib.Core.Path.{◌≡◌, sym, ap, subst, ◌∙◌}
use mathlib.Core.Bool.{false}
use lib.ListN.{length}
use Rattle.std.specs.Prelude.{Option, Result, Err}
use Rattle.std.specs.Option.{is_some, ok_or}
use Rattle.words.specs.Word.{nat_of}
use Rattle.words.proofs.Machine.{natural_passed}
use Rattle.grid.specs.declared.place.Place.{Place}
use Rattle.table.specs.declared.given.Refusal.TheVariants.{NotEnrolled, ShortList}
use Rattle.table.specs.Given.{Given}
use Rattle.limits.proofs.CallTests.{two_passed}
use Rattle.limits.proofs.Refused.{not_done}
use Rattle.naming.specs.Named.{Named}
use Rattle.refusals.specs.declared.answered.Refused.{Refused}
use Rattle.refusals.specs.Refusals.{is_enrolled}
use Rattle.refusals.specs.Carding.{card_asked}
use Rattle.refusals.specs.Told.{carded}
use Rattle.refusals.proofs.CallNumbers.{enrolled_told}
use Rattle.refusals.proofs.CardOrder.{asked_not_short, card_early, card_8, card_last}
use Rattle.desk.specs.Carding.{Cards}
use Rattle.desk.proofs.Exits.{refusal_is, refused_is}
use Rattle.desk.proofs.CallCard.{card_refused_is, card_told_is}
use Rattle.desk.proofs.cards.card_passing.Goals as goal

pub returns-in_err-card_asked : goal.returns-in_err-card_asked
returns-in_err-card_asked c =
    let a = c.args in
    let ws = a.table.now in
    let old = a.list.now in
    let asked = two_passed card_asked a.number a.k c.ranges.number c.ranges.k c.in_err-card_asked.ensures in
    rw (refused_is _ c.from_residual.result c.from_residual.ensures.1)
    (card_refused_is ws a.number a.k old
    (card_early ws a.number a.k (length old) c.requires.0 c.requires.1 asked (not_done _)) (not_done _) (asked_not_short a.number a.k asked))

pub returns-in_err-place : goal.returns-in_err-place
returns-in_err-place c =
    let a = c.args in
    let ws = a.table.now in
    let old = a.list.now in
    let asked = two_passed card_asked a.number a.k c.ranges.number c.ranges.k c.in_ok-card_asked.ensures in
    let there = enrolled_told ws a.number (natural_passed a.number c.ranges.number c.natural-n.ensures) c.find.ensures in
    let new : is_enrolled ws a.number ≡ false = sym there ∙ ap is_some c.in_err-place.ensures.ok_part in
    let why = refusal_is (c.in_err-place.ensures.value ∙ ap (λ (o : Option Place). ok_or o NotEnrolled) c.in_err-place.ensures.ok_part) in
    rw (refused_is _ c.from_residual-in_err-place.result c.from_residual-in_err-place.ensures.1)
    (card_refused_is ws a.number a.k old
    (ap Err why ∙ card_8 ws a.number a.k (length old) c.requires.0 c.requires.1 (sym asked) new) (not_done _)
    (λ z. let e : ◌≡◌ {A = Given} (Err NotEnrolled) (Err ShortList) = sym (ap Err why) ∙ z in cc))

pub returns : goal.returns
returns c =
    let a = c.args in
    let ws = a.table.now in
    let old = a.list.now in
    let new = c.put_card-names.new.list in
    let names = c.put_card-names.result in
    let asked = two_passed card_asked a.number a.k c.ranges.number c.ranges.k c.in_ok-card_asked.ensures in
    let i = natural_passed a.number c.ranges.number c.natural-n.ensures in
    let there = sym (enrolled_told ws a.number i c.find.ensures) ∙ ap is_some c.in_ok-place.ensures.ok_part in
    let last = card_last ws a.number a.k (length old) c.requires.0 c.requires.1 (sym asked) there in
    let named : Named ws (nat_of a.number) (nat_of a.k) old new names =
    subst (λ (k : ℕ). Named ws (nat_of a.number) k old new names) (natural_passed a.k c.ranges.k c.natural.ensures)
    (subst (λ (n : ℕ). Named ws n c.natural.result old new names) i c.put_card-names.ensures) in
    subst (λ (t : Result ℕ Refused). Cards ws a.number a.k old new (carded t)) (sym c.told.ensures)
    (card_told_is ws a.number a.k old names new _ last named c.put_card-names.auto.list)
