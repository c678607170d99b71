-- `leads::row::Leads::all_as_near` meets its contract. The loop's invariant: `n` counts those of the first `i` candidates whose bar the sum of the corner that counts for them reaches. Assumes nothing.
use Prim.Native.Nat.{ℕ, ◌*◌, ◌-◌}
use native.Mathlib.Omega.{arith}
use mathlib.Core.Path.{◌≡◌, refl, ◌∙◌}
use mathlib.Core.Bool.{Bool}
use lib.ListN.{get_or}
use Rattle.order.specs.Lists.{one}
use Rattle.order.proofs.Lists.{one_most}
use Rattle.order.proofs.Order.{tally}
use Rattle.leads.proofs.Laws.{below_x, below_y, bar_most, end_most, corner_test, counted_corners}
use Rattle.leads.proofs.row.Leads.all_as_near.Goals as goal

pub reaches-n-requires : goal.reaches-n-requires
reaches-n-requires c =
    let i = c.loop-i.i in
    let gq = c.requires.2 in
    let st = c.requires.0 in
    let ex = c.worst_end-px.ensures in
    let ey = c.worst_end-py.ensures in (
      below_x gq st i (omega arith),
      below_y gq st i (omega arith),
      bar_most gq st i (omega arith),
      omega (arith, ex, end_most (get_or c.args.self.xs.now i 0) (2 * c.from_q-low_x.result) (2 * (c.args.r.x.high - c.args.r.x.low)), c.from_q-low_x.ensures, c.requires.1.x),
      omega (arith, ey, end_most (get_or c.args.self.ys.now i 0) (2 * c.from_q-low_y.result) (2 * (c.args.r.y.high - c.args.r.y.low)), c.from_q-low_y.ensures, c.requires.1.y),
    )

pub loop-i-preserved : goal.loop-i-preserved
loop-i-preserved c =
    let Test : ℕ → Bool =
    let a = c.args in
    corner_test a.self.xs.now a.self.ys.now a.self.bars.now (2 * c.from_q-low_x.result) (2 * (a.r.x.high - a.r.x.low)) (2 * c.from_q-low_y.result) (2 * (a.r.y.high - a.r.y.low)) in
    let one_more : c.reaches-n.result ≡ one (Test c.loop-i.i) =
    c.reaches-n.ensures ∙ rw (c.worst_end-px.ensures, c.worst_end-py.ensures) refl in
    let l = c.loop-i in (
      omega (arith, one_more, one_most (Test l.i)),
      omega (arith, one_more, tally (Test) l.i l.n (Test l.i) refl l.invariant.1),
    )

pub returns : goal.returns
returns c =
    let l = c.loop-i in
    let a = c.args in
    let e : l.i ≡ a.m = omega arith in
    let fx = c.from_q-low_x.ensures in
    let fy = c.from_q-low_y.ensures in
    rw (← e) (l.invariant.1 ∙ rw (fx, fy, e) (counted_corners c.requires.2 c.requires.0 a.r c.requires.1))
