-- `enrolling::enrol_given` meets its contract: the first line that holds is given. Assumes nothing.
use mathlib.Core.Path.{sym}
use Rattle.limits.specs.Limits.{no_such_number}
use Rattle.refusals.specs.Refusals.{is_enrolled}
use Rattle.refusals.proofs.CallOrder.{said, enrol_3, enrol_4, enrol_6, enrol_7, enrol_0}
use Rattle.refusals.proofs.enrolling.enrol_given.Goals as goal

pub returns-then-no_such_number : goal.returns-then-no_such_number
returns-then-no_such_number c =
    let a = c.args in
    sym (enrol_3 a.table.now c.requires.0 c.requires.1 a.number a.site (said no_such_number a.number c.ranges.number c.if-no_such_number.ensures))

pub returns-then-off_grid : goal.returns-then-off_grid
returns-then-off_grid c =
    let a = c.args in
    sym (enrol_4 a.table.now c.requires.0 c.requires.1 a.number a.site
    (said no_such_number a.number c.ranges.number c.if-no_such_number.ensures) (sym c.if-off_grid.ensures))

pub returns-then-is_enrolled : goal.returns-then-is_enrolled
returns-then-is_enrolled c =
    let a = c.args in
    let ws = a.table.now in
    sym (enrol_6 ws c.requires.0 c.requires.1 a.number a.site
    (said no_such_number a.number c.ranges.number c.if-no_such_number.ensures) (sym c.if-off_grid.ensures)
    (said (is_enrolled ws) a.number c.ranges.number c.if-is_enrolled.ensures))

pub returns-then-is_full : goal.returns-then-is_full
returns-then-is_full c =
    let a = c.args in
    let ws = a.table.now in
    sym (enrol_7 ws c.requires.0 c.requires.1 a.number a.site
    (said no_such_number a.number c.ranges.number c.if-no_such_number.ensures) (sym c.if-off_grid.ensures)
    (said (is_enrolled ws) a.number c.ranges.number c.if-is_enrolled.ensures) (sym c.if-is_full.ensures))

pub returns : goal.returns
returns c =
    let a = c.args in
    let ws = a.table.now in
    sym (enrol_0 ws c.requires.0 c.requires.1 a.number a.site
    (said no_such_number a.number c.ranges.number c.if-no_such_number.ensures) (sym c.if-off_grid.ensures)
    (said (is_enrolled ws) a.number c.ranges.number c.if-is_enrolled.ensures) (sym c.if-is_full.ensures))
