-- `leaving::withdraw::withdraw_in` meets its contract: a well-formed table with the point enrolled holds a sound tree with the number in it. Assumes nothing.
use Prim.Native.Nat.{◌<◌}
use mathlib.Core.Path.{sym, subst}
use native.Mathlib.Omega.{arith}
use Rattle.figures.specs.Figures.{SLOTS}
use Rattle.table.specs.Slots.{level_at}
use Rattle.leaving.specs.Withdraw.{Removable, Lowerable}
use Rattle.leaving.proofs.WithdrawRoot.{may_inside, may_removable, may_lowerable, may_points, removed_is, withdrawn_is_done}
use Rattle.leaving.proofs.withdraw.withdraw_in.Goals as goal

pub level_at-level-requires : goal.level_at-level-requires
level_at-level-requires c =
    subst (λ o. o < SLOTS) (sym c.root_of-root.ensures) (may_inside c.args.table.now c.args.number c.requires)

pub remove-requires : goal.remove-requires
remove-requires c =
    let ws = c.args.table.now in
    let root = c.root_of-root in
    let r = may_removable ws c.args.number c.requires in
    subst (λ l. Removable l ws root.result c.args.number) (sym c.level_at-level.ensures)
    (subst (λ o. Removable (level_at ws o) ws o c.args.number) (sym root.ensures) r)

pub lower_root-requires : goal.lower_root-requires
lower_root-requires c =
    let ws = c.args.table.now in
    let root = c.root_of-root in
    let level = c.level_at-level in
    let after = c.remove in
    subst (Lowerable after.new.table) (sym root.ensures)
    (may_lowerable ws c.args.number c.requires after.new.table (removed_is ws c.args.number root.result level.result after.new.table root.ensures level.ensures after.ensures))

pub overflow_sub-points : goal.overflow_sub-points
overflow_sub-points c = omega (arith, c.points_of-points.ensures, may_points c.args.table.now c.args.number c.requires)

pub put_points-requires : goal.put_points-requires
put_points-requires c = omega (arith, c.points_of-points.ensures, may_points c.args.table.now c.args.number c.requires)

pub returns : goal.returns
returns c =
    let root = c.root_of-root in
    let level = c.level_at-level in
    let points = c.points_of-points in
    let after = c.remove in
    let end = c.lower_root in
    let put = c.put_points in
    withdrawn_is_done c.args.table.now c.args.number root.result level.result points.result after.new.table end.new.table root.ensures level.ensures points.ensures after.ensures end.ensures
    put.new.table put.ensures
