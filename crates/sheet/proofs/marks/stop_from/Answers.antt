-- `sheet::marks::stop_from` meets its contract. The loop's invariant: the search from `i` finds what the search from `at` does, and `i` goes no further than the end. Assumes nothing.
use mathlib.Core.Path.{sym, ◌∙◌}
use native.Mathlib.Omega.{arith}
use Rattle.sheet.proofs.Parted.{stop_here, stop_on, stop_end}
use Rattle.sheet.proofs.marks.stop_from.Goals as goal

pub returns-then-bytes-i : goal.returns-then-bytes-i
returns-then-bytes-i c =
    sym (stop_here _ _ _ c.loop-i-test.true c.if-bytes-i.true) ∙ c.loop-i.invariant.0

pub loop-i-preserved : goal.loop-i-preserved
loop-i-preserved c =
    (stop_on _ _ _ c.loop-i-test.true c.if-bytes-i.false ∙ c.loop-i.invariant.0, omega arith)

pub returns : goal.returns
returns c =
    let a = c.args in
    omega (arith, stop_end a.mark a.bytes.now c.loop-i.i (omega arith))
