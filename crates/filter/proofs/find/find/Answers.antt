-- `filter::find::find` meets its contract: the empty table is told by its points, and from the root of any other the walk has room. Assumes nothing.
use native.Mathlib.Omega.{arith}
use mathlib.Core.Path.{◌≡◌, refl, sym, ◌∙◌}
use Rattle.grid.proofs.Sites.{SiteOnGrid}
use Rattle.table.specs.Words.{points_of}
use Rattle.table.specs.Slots.{level_at}
use Rattle.filter.proofs.NodeTurns.{passable_slot}
use Rattle.filter.specs.Rows.{rows_of}
use Rattle.filter.proofs.Opening.{empty_noted, no_points, some_points, root_passable, root_ready, root_noted}
use Rattle.filter.proofs.find.find.Goals as goal

pub returns-then-points_of-eq0-clause-noted : goal.returns-then-points_of-eq0-clause-noted
returns-then-points_of-eq0-clause-noted c =
    let ws = c.args.table.now in
    let p = c.requires.passing in
    let z : points_of ws ≡ 0 = sym c.points_of.ensures ∙ c.if-points_of-eq0.true in
    rw c.none-none.ensures (empty_noted ws p.long p.words p.rules _ c.args.k _ (no_points ws p.long p.words p.rules z))

pub level_at-level-requires : goal.level_at-level-requires
level_at-level-requires c =
    let ws = c.args.table.now in
    let p = c.requires.passing in
    let full = some_points ws p.long p.words p.rules (omega (arith, c.points_of.ensures, c.if-points_of-eq0.false)) in
    passable_slot (level_at ws c.root_of-root.result) ws c.root_of-root.result (root_passable ws p.long p.words p.rules full c.root_of-root.result _ c.root_of-root.ensures refl)

pub walk-requires : goal.walk-requires
walk-requires c =
    let a = c.args in
    let ws = a.table.now in
    let p = c.requires.passing in
    let full = some_points ws p.long p.words p.rules (omega (arith, c.points_of.ensures, c.if-points_of-eq0.false)) in
    let grid : SiteOnGrid a.q = record { x = c.requires.q_value.0; y = c.requires.q_value.1 } in
    record {
      passable = root_passable ws p.long p.words p.rules full _ _ c.root_of-root.ensures c.level_at-level.ensures;
      ready = rw c.none-none.ensures
          (root_ready ws p.long p.words p.rules full _ _ c.root_of-root.ensures c.level_at-level.ensures a.q grid a.k _ c.from-place.ensures (rows_of a.rows.now) c.requires.room);
    }

pub returns-clause-noted : goal.returns-clause-noted
returns-clause-noted c =
    let a = c.args in
    let ws = a.table.now in
    let p = c.requires.passing in
    let full = some_points ws p.long p.words p.rules (omega (arith, c.points_of.ensures, c.if-points_of-eq0.false)) in
    let grid : SiteOnGrid a.q = record { x = c.requires.q_value.0; y = c.requires.q_value.1 } in
    root_noted ws p.long p.words p.rules full _ _ c.root_of-root.ensures c.level_at-level.ensures a.q grid a.k _ c.from-place.ensures (rows_of a.rows.now) (rw c.none-none.ensures at c.walk.ensures.went)
