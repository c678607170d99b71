-- `naming::names::put_best` meets its contract: the best below the root are the card. Assumes nothing.
use Prim.Native.Nat.{ℕ}
use native.Mathlib.Omega.{arith}
use mathlib.Core.Path.{◌≡◌, refl, sym, ap, ◌∙◌}
use mathlib.Core.List.{List, ◌++◌}
use lib.ListN.{length, replicate}
use Rattle.std.proofs.Common.{rules}
use Rattle.order.specs.Order.{least, NONE}
use Rattle.table.specs.Slots.{level_at}
use Rattle.filter.proofs.NodeTurns.{passable_slot}
use Rattle.filter.proofs.Opening.{root_passable}
use Rattle.vetting.specs.Test.{below}
use Rattle.vetting.proofs.Below.{root_boxed}
use Rattle.naming.specs.Holders.{marks_of}
use Rattle.naming.proofs.CardNames.{blank_rises, not_empty, holders_few, holders_length, named_laid, named_left}
use Rattle.naming.proofs.names.put_best.Goals as goal
use Rattle.naming.proofs.names.put_best.Goals.{After-offer_below}

-- the best are those of the whole table
best_is : (c : After-offer_below)
    → let a = c.args in
    let k = length a.marks.now in
    c.offer_below.new.best.marks.now ≡ least k (marks_of a.holder.number a.holder.place (below c.level_at-level.result a.table.now c.root_of-root.result) ++ replicate k NONE)
best_is c =
    let a = c.args in
    let k = length a.marks.now in
    c.offer_below.ensures.best
    ∙ ap (λ (l : List ℕ). least k (marks_of a.holder.number a.holder.place (below c.level_at-level.result a.table.now c.root_of-root.result) ++ l)) c.requires.1

pub level_at-level-requires : goal.level_at-level-requires
level_at-level-requires c =
    let a = c.args in
    let ws = a.table.now in
    let t = c.requires.0.table in
    let root = c.root_of-root.result in
    -- the table is not empty: it has the station
    let some = not_empty ws t a.holder.number a.holder.place c.requires.0.station in
    passable_slot (level_at ws root) ws root (root_passable ws t.long t.words t.rules some root _ c.root_of-root.ensures refl)

pub offer_below-requires : goal.offer_below-requires
offer_below-requires c =
    let a = c.args in
    let ws = a.table.now in
    let t = c.requires.0.table in
    let some = not_empty ws t a.holder.number a.holder.place c.requires.0.station in (
      root_passable ws t.long t.words t.rules some _ _ c.root_of-root.ensures c.level_at-level.ensures,
      root_boxed ws t.long t.words t.rules some _ _ c.root_of-root.ensures c.level_at-level.ensures,
    )

pub invariant_of-offer_below : goal.invariant_of-offer_below
invariant_of-offer_below c = record { places = omega (arith, c.requires.0.some); rising = rw c.requires.1 (blank_rises (length c.args.marks.now)) }

pub slice_bounds-put_names-end : goal.slice_bounds-put_names-end
slice_bounds-put_names-end c = holders_few _ c.names_in-n.ensures

pub slice_bounds-put_names-end-then-n-list : goal.slice_bounds-put_names-end-then-n-list
slice_bounds-put_names-end-then-n-list c = sym (holders_length _ c.names_in-n.ensures)

pub returns-then-n-list : goal.returns-then-n-list
returns-then-n-list c =
    let a = c.args in
    named_laid a.table.now c.requires.0.table a.holder.number a.holder.place c.requires.0.station (length a.marks.now) _ _ c.root_of-root.ensures c.level_at-level.ensures _
    (best_is (goal.at.returns-then-n-list c).After-offer_below) _ (search rules) a.list.now c.if-n-list.true _ (search rules)

pub returns-else-n-list : goal.returns-else-n-list
returns-else-n-list c =
    let a = c.args in
    named_left a.table.now c.requires.0.table a.holder.number a.holder.place c.requires.0.station (length a.marks.now) _ _ c.root_of-root.ensures c.level_at-level.ensures _
    (best_is (goal.at.returns-else-n-list c).After-offer_below) _ (search rules) a.list.now (omega (arith, c.if-n-list.false))
