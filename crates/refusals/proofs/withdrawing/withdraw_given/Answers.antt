-- `withdrawing::withdraw_given` meets its contract: the first line that holds is given. Assumes nothing.
use mathlib.Core.Path.{sym, ◌∙◌}
use Rattle.limits.specs.Limits.{no_such_number}
use Rattle.refusals.specs.Refusals.{is_enrolled}
use Rattle.refusals.proofs.CallOrder.{said, withdraw_3, withdraw_8, withdraw_0}
use Rattle.refusals.proofs.withdrawing.withdraw_given.Goals as goal

pub returns-then-no_such_number : goal.returns-then-no_such_number
returns-then-no_such_number c =
    let a = c.args in
    sym (withdraw_3 a.table.now c.requires.0 c.requires.1 a.number (said no_such_number a.number c.ranges.number c.if-no_such_number.ensures))

pub returns-then-not-is_enrolled : goal.returns-then-not-is_enrolled
returns-then-not-is_enrolled c =
    let a = c.args in
    let ws = a.table.now in
    sym (withdraw_8 ws c.requires.0 c.requires.1 a.number
    (said no_such_number a.number c.ranges.number c.if-no_such_number.ensures) (said (is_enrolled ws) a.number c.ranges.number (sym c.if-not-is_enrolled.true ∙ c.is_enrolled.ensures)))

pub returns : goal.returns
returns c =
    let a = c.args in
    let ws = a.table.now in
    sym (withdraw_0 ws c.requires.0 c.requires.1 a.number
    (said no_such_number a.number c.ranges.number c.if-no_such_number.ensures) (said (is_enrolled ws) a.number c.ranges.number (sym c.if-not-is_enrolled.false ∙ c.is_enrolled.ensures)))
