-- `withdraw::withdraw_passing` meets its contract: a refusal leaves the table, and a granted withdrawal takes the number out. Assumes nothing.
use mathlib.Core.Path.{refl, sym, ap, ◌∙◌}
use Rattle.words.proofs.Machine.{natural_passed}
use Rattle.order.specs.Lists.{has}
use Rattle.leaving.specs.Withdraw.{withdrawn}
use Rattle.limits.proofs.CallTests.{one_passed}
use Rattle.limits.proofs.Refused.{not_done}
use Rattle.refusals.specs.Refusals.{numbers_of, withdraw_gives}
use Rattle.desk.proofs.CallAfter.{withdraw_refused_lem, withdraw_done}
use Rattle.desk.proofs.Granted.{withdraw_granted}
use Rattle.desk.proofs.withdraw.withdraw_passing.Goals as goal

pub returns-in_err-withdraw_given-clause-words : goal.returns-in_err-withdraw_given-clause-words
returns-in_err-withdraw_given-clause-words c =
    let n = c.args.number in
    let ws = c.args.table.now in
    withdraw_refused_lem ws n (one_passed (withdraw_gives ws) n c.ranges.number c.in_err-withdraw_given.ensures) (not_done _)

pub withdraw_in-requires : goal.withdraw_in-requires
withdraw_in-requires c =
    let n = c.args.number in
    let ws = c.args.table.now in
    let g = withdraw_granted ws n (sym (one_passed (withdraw_gives ws) n c.ranges.number c.in_ok-withdraw_given.ensures)) in
    record {
      long = g.long;
      words = c.are_words.ensures;
      good = g.rules;
      enrolled = ap (λ m. has m (numbers_of ws)) (natural_passed n c.ranges.number c.natural.ensures) ∙ g.enrolled;
    }

pub returns-clause-words : goal.returns-clause-words
returns-clause-words c =
    let n = c.args.number in
    let ws = c.args.table.now in
    c.withdraw_in.ensures
    ∙ ap (withdrawn ws) (natural_passed n c.ranges.number c.natural.ensures)
    ∙ withdraw_done ws n (one_passed (withdraw_gives ws) n c.ranges.number c.in_ok-withdraw_given.ensures) refl
