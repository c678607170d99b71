-- `joining::enrol::insert`, which calls itself one level down, meets its contract. What each step requires follows from the tree below the slot; the words are those of the definition. Assumes nothing.
use Prim.Native.Nat.{ℕ, zero, suc, ◌-◌, ◌≤◌, ◌<◌}
use native.Mathlib.Omega.{arith}
use mathlib.Core.Path.{◌≡◌, sym, ap, subst, ◌∙◌}
use lib.ListN.{length-set}
use Rattle.grid.specs.Place.{RectOnGrid}
use Rattle.order.specs.Lists.{All}
use Rattle.table.specs.declared.node.Entry.{Entry}
use Rattle.figures.specs.Figures.{FAN}
use Rattle.table.specs.Words.{Words}
use Rattle.table.specs.Page.{held}
use Rattle.table.proofs.Nodes.{held_few}
use Rattle.table.proofs.Slots.{page_few}
use Rattle.joining.specs.Enrol.{inserted}
use Rattle.joining.specs.Within.{grew, MayInsert}
use Rattle.change.proofs.Planting.{planted_inside}
use Rattle.joining.proofs.Inserting.{point_sits, leaf_may, leaf_done, may_steps, place_in, child_insert, above_may, above_done}
use Rattle.joining.proofs.enrol.+insert.Goals.{After-choose-i}
use Rattle.joining.proofs.enrol.+insert.Goals as goal

-- ---- the level: a leaf's is 0, another's is one more than its child's

in_leaf : {l : ℕ} {ws : Words} {s : ℕ} {e : Entry} → l ≡ 0 → MayInsert l ws s e → MayInsert zero ws s e
in_leaf {ws = ws} {s = s} {e = e} h m = subst (λ k. MayInsert k ws s e) h m

one_below : {l : ℕ} → (l ≡ 0 → ⊥) → l ≡ suc (l - 1)
one_below h = omega arith

in_node : {l : ℕ} {ws : Words} {s : ℕ} {e : Entry} → (l ≡ 0 → ⊥) → MayInsert l ws s e → MayInsert (suc (l - 1)) ws s e
in_node {ws = ws} {s = s} {e = e} h m = subst (λ k. MayInsert k ws s e) (one_below h) m

-- ---- in a leaf

pub node_at-n-requires : goal.node_at-n-requires
node_at-n-requires t c = planted_inside c.requires.planted

pub appended-more-requires : goal.appended-more-requires
appended-more-requires t c = omega (arith, page_few c.args.table.now c.args.slot, c.node_at-n.ensures.count)

pub settle-requires : goal.settle-requires
settle-requires t c = leaf_may (in_leaf c.if-level-eq0.true c.requires) c.node_at-n.ensures c.appended-more.ensures

pub returns-then-level-eq0 : goal.returns-then-level-eq0
returns-then-level-eq0 t c =
    let e = c.if-level-eq0.true in
    leaf_done (in_leaf e c.requires) c.node_at-n.ensures c.appended-more.ensures (grew c.settle.new.table c.settle.result) c.settle.ensures
    ∙ ap (λ l. inserted l c.args.table.now c.args.slot c.args.e) (sym e)

-- ---- above the leaves

pub choose-i-requires : goal.choose-i-requires
choose-i-requires t c =
    let n = c.node_at-n in
    let st = may_steps (in_node c.if-level-eq0.false c.requires) in (
      omega (arith, st.some, n.ensures.count),
      (point_sits c.args.e c.requires.point).grid,
      subst (λ es. All (λ e. RectOnGrid e.rect) es) (sym n.ensures.entries) st.grid,
    )

-- the node has at most eight entries, and the place is one of them
few : (t : ℕ) (c : After-choose-i t) → c.node_at-n.result.count ≤ FAN
few t c = omega (arith, page_few c.args.table.now c.args.slot, c.node_at-n.ensures.count)

small : (t : ℕ) (c : After-choose-i t) → c.choose-i.result < 10
small t c = omega (arith, place_in (in_node c.if-level-eq0.false c.requires) c.node_at-n.ensures c.choose-i.ensures, few t c)

pub offset_bounds-n-i : goal.offset_bounds-n-i
offset_bounds-n-i t c = omega (arith, small t c)

pub bounds-n-i : goal.bounds-n-i
bounds-n-i t c = small t c

pub insert-new-requires : goal.insert-new-requires
insert-new-requires t c =
    let h = c.if-level-eq0.false in
    (omega (arith, c.decreases, h), child_insert (in_node h c.requires) c.node_at-n.ensures c.choose-i.ensures)

pub entry_for-tight-requires : goal.entry_for-tight-requires
entry_for-tight-requires t c =
    planted_inside (child_insert (in_node c.if-level-eq0.false c.requires) c.node_at-n.ensures c.choose-i.ensures).planted

pub replaced-requires : goal.replaced-requires
replaced-requires t c = place_in (in_node c.if-level-eq0.false c.requires) c.node_at-n.ensures c.choose-i.ensures

pub with_new-requires : goal.with_new-requires
with_new-requires t c =
    let n = c.node_at-n.result in
    omega (arith, c.replaced.ensures.count, length-set (held n) c.choose-i.result c.entry_for-tight.result, held_few n, page_few c.args.table.now c.args.slot, c.node_at-n.ensures.count)

pub settle-requires-2 : goal.settle-requires-2
settle-requires-2 t c =
    let i = c.insert-new in
    above_may (in_node c.if-level-eq0.false c.requires) c.node_at-n.ensures c.choose-i.ensures i.new.table i.result i.ensures
    c.entry_for-tight.ensures c.replaced.ensures c.with_new.ensures

pub returns : goal.returns
returns t c =
    let i = c.insert-new in
    let h = c.if-level-eq0.false in
    above_done (in_node h c.requires) c.node_at-n.ensures c.choose-i.ensures i.new.table i.result i.ensures
    c.entry_for-tight.ensures c.replaced.ensures c.with_new.ensures (grew c.settle-2.new.table c.settle-2.result)
    c.settle-2.ensures
    ∙ ap (λ l. inserted l c.args.table.now c.args.slot c.args.e) (sym (one_below h))
