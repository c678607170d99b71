-- `joining::enrol::enrol_in` meets its contract: a well-formed table with no point is empty, another holds a sound tree. Assumes nothing.
use Prim.Native.Nat.{ℕ, ◌+◌}
use native.Mathlib.Omega.{arith}
use mathlib.Core.Path.{◌≡◌, sym, ap, ◌∙◌}
use Rattle.table.specs.Words.{points_of}
use Rattle.table.specs.Slots.{with_points}
use Rattle.joining.proofs.Raising.{enrol_grow, enrol_few, enrol_first, enrol_next}
use Rattle.joining.proofs.enrol.enrol_in.Goals as goal

pub returns-then-points-eq0 : goal.returns-then-points-eq0
returns-then-points-eq0 c =
    enrol_first c.requires (sym c.points_of-points.ensures ∙ c.if-points-eq0.true) c.put_first.new.table c.put_points.new.table
    c.put_first.ensures c.put_points.ensures

pub put_next-requires : goal.put_next-requires
put_next-requires c =
    let some = λ (z : points_of c.args.table.now ≡ 0). c.if-points-eq0.false (c.points_of-points.ensures ∙ z) in
    enrol_grow c.requires some

pub put_points-requires-2 : goal.put_points-requires-2
put_points-requires-2 c =
    let some = λ (z : points_of c.args.table.now ≡ 0). c.if-points-eq0.false (c.points_of-points.ensures ∙ z) in
    omega (arith, c.points_of-points.ensures, enrol_few c.requires some)

pub returns : goal.returns
returns c =
    let some = λ (z : points_of c.args.table.now ≡ 0). c.if-points-eq0.false (c.points_of-points.ensures ∙ z) in
    let n = c.put_next in
    enrol_next c.requires some n.new.table c.put_points-2.new.table n.ensures
    (c.put_points-2.ensures ∙ ap (λ (k : ℕ). with_points n.new.table (k + 1)) c.points_of-points.ensures)
