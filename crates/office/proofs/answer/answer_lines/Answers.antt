-- What a run laid into the buffer is written, and is what the sheet prints next.
use Rattle.std.proofs.Common.{arith, rules}
use Rattle.office.proofs.Printed.{printed_more, printed_all}
use Rattle.office.proofs.answer.answer_lines.Goals as goal

pub loop-at-preserved : goal.loop-at-preserved
loop-at-preserved g c =
    let e = c.run_lines-run.ensures in
    let before = c.loop-at.invariant in
    (e.passes, e.within, omega (arith, e.numbered, before.2), printed_more _ _ _ before.3 e (search rules))

pub returns : goal.returns
returns g c = printed_all c.loop-at.invariant.3 (omega (arith, c.loop-at-test.false))
