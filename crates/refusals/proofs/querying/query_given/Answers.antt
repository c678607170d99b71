-- `querying::query_given` meets its contract: the first line that holds is given. Assumes nothing.
use native.Mathlib.Omega.{arith}
use mathlib.Core.Path.{sym, ap, ◌∙◌}
use mathlib.Core.Bool.{cond}
use borrow.Author.Tests.{lt-ltb, le-ltb}
use Rattle.std.specs.Prelude.{Err}
use Rattle.table.specs.declared.given.Refusal.TheVariants.{ShortList}
use Rattle.table.specs.Given.{Done}
use Rattle.table.specs.Words.{points_of}
use Rattle.limits.specs.Limits.{no_such_k}
use Rattle.refusals.proofs.CallOrder.{said}
use Rattle.refusals.proofs.QueryOrder.{answers_told, query_4, query_5, query_9, query_last}
use Rattle.refusals.proofs.querying.query_given.Goals as goal

pub returns-then-off_grid : goal.returns-then-off_grid
returns-then-off_grid c =
    let a = c.args in
    let ws = a.table.now in
    sym (query_4 ws c.requires.0 c.requires.1 a.q a.k a.room (answers_told ws a.q a.k) (sym c.if-off_grid.ensures))

pub returns-then-no_such_k : goal.returns-then-no_such_k
returns-then-no_such_k c =
    let a = c.args in
    let ws = a.table.now in
    sym (query_5 ws c.requires.0 c.requires.1 a.q a.k a.room (answers_told ws a.q a.k) (sym c.if-off_grid.ensures)
    (said no_such_k a.k c.ranges.k c.if-no_such_k.ensures))

pub returns-then-room-points_of : goal.returns-then-room-points_of
returns-then-room-points_of c =
    let a = c.args in
    let ws = a.table.now in
    sym (query_9 ws c.requires.0 c.requires.1 a.q a.k a.room (answers_told ws a.q a.k) (sym c.if-off_grid.ensures)
    (said no_such_k a.k c.ranges.k c.if-no_such_k.ensures) (lt-ltb a.room (points_of ws) (omega (arith, c.points_of.ensures))))

pub returns : goal.returns
returns c =
    let a = c.args in
    let ws = a.table.now in
    let n = answers_told ws a.q a.k in
    sym (query_last ws c.requires.0 c.requires.1 a.q a.k a.room n (sym c.if-off_grid.ensures)
    (said no_such_k a.k c.ranges.k c.if-no_such_k.ensures) (le-ltb a.room (points_of ws) (omega (arith, c.points_of.ensures)))
    ∙ ap (λ b. cond b (Err ShortList) Done) (le-ltb n n (omega arith)))
