-- `leads::row::Leads::as_near` meets its contract. The loop's invariant: `n` counts those of the first `i` candidates whose bar the place's sum reaches. Assumes nothing.
use Prim.Native.Nat.{ℕ, ◌*◌}
use native.Mathlib.Omega.{arith}
use mathlib.Core.Path.{◌≡◌, refl, ◌∙◌}
use mathlib.Core.Bool.{Bool}
use Rattle.order.proofs.Lists.{one_most}
use Rattle.order.proofs.Order.{tally}
use Rattle.leads.proofs.Laws.{below_x, below_y, bar_most, place_test, counted}
use Rattle.leads.proofs.row.Leads.as_near.Goals as goal

pub reaches-n-requires : goal.reaches-n-requires
reaches-n-requires c =
    let l = c.loop-i in
    let fy = c.from_q-py in
    let fx = c.from_q-px in
    let gq = c.requires.2 in
    let st = c.requires.0 in (
      below_x gq st l.i (omega arith),
      below_y gq st l.i (omega arith),
      bar_most gq st l.i (omega arith),
      omega (arith, fx.ensures),
      omega (arith, fy.ensures),
    )

pub loop-i-preserved : goal.loop-i-preserved
loop-i-preserved c =
    let Test : ℕ → Bool =
    let a = c.args in
    place_test a.self.xs.now a.self.ys.now a.self.bars.now (2 * c.from_q-px.result) (2 * c.from_q-py.result) in
    let l = c.loop-i in (
      omega (arith, c.reaches-n.ensures, one_most (Test l.i)),
      omega (arith, c.reaches-n.ensures, tally (Test) l.i l.n (Test l.i) refl l.invariant.1),
    )

pub returns : goal.returns
returns c =
    let l = c.loop-i in
    let a = c.args in
    let e : l.i ≡ a.m = omega arith in
    let fx = c.from_q-px.ensures in
    let fy = c.from_q-py.ensures in
    rw (← e) (l.invariant.1 ∙ rw (fx, fy, e) (counted c.requires.2 c.requires.0 a.p c.requires.1))
