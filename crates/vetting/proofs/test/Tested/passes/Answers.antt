-- `vetting::test::Tested::passes` meets its contract: from the root down, the points are those of all leaves. Assumes nothing.
use native.Mathlib.Omega.{arith}
use mathlib.Core.Path.{◌≡◌, refl, sym, ◌∙◌}
use Rattle.table.specs.Words.{points_of}
use Rattle.table.specs.Slots.{level_at}
use Rattle.filter.proofs.NodeTurns.{passable_slot}
use Rattle.vetting.proofs.Below.{root_boxed}
use Rattle.filter.proofs.Opening.{no_points, some_points, root_passable}
use Rattle.vetting.proofs.Testing.{passes_empty, passes_root}
use Rattle.vetting.proofs.test.Tested.passes.Goals as goal

pub returns-then-points_of-eq0 : goal.returns-then-points_of-eq0
returns-then-points_of-eq0 c =
    let a = c.args in
    let ws = a.table.now in
    let p = c.requires in
    let z : points_of ws ≡ 0 = sym c.points_of.ensures ∙ c.if-points_of-eq0.true in
    passes_empty ws a.self.number a.self.place a.self.far a.k (no_points ws p.long p.words p.rules z)

pub level_at-level-requires : goal.level_at-level-requires
level_at-level-requires c =
    let ws = c.args.table.now in
    let p = c.requires in
    let some = some_points ws p.long p.words p.rules (omega (arith, c.points_of.ensures, c.if-points_of-eq0.false)) in
    let root = c.root_of-root.result in
    passable_slot (level_at ws root) ws root (root_passable ws p.long p.words p.rules some root _ c.root_of-root.ensures refl)

pub others_below-requires : goal.others_below-requires
others_below-requires c =
    let ws = c.args.table.now in
    let p = c.requires in
    let some = some_points ws p.long p.words p.rules (omega (arith, c.points_of.ensures, c.if-points_of-eq0.false)) in
    (root_passable ws p.long p.words p.rules some _ _ c.root_of-root.ensures c.level_at-level.ensures, root_boxed ws p.long p.words p.rules some _ _ c.root_of-root.ensures c.level_at-level.ensures)

pub returns : goal.returns
returns c =
    let a = c.args in
    let ws = a.table.now in
    let p = c.requires in
    let some = some_points ws p.long p.words p.rules (omega (arith, c.points_of.ensures, c.if-points_of-eq0.false)) in
    passes_root ws a.self.number a.self.place a.self.far a.k p.long p.words p.rules some _ _ c.root_of-root.ensures c.level_at-level.ensures _ c.others_below.ensures
