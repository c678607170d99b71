-- `naming::down::offer_leaf` meets its contract. The loop's invariant: the same row has the best of the first `i` points. Assumes nothing.
use Prim.Native.Nat.{◌<◌}
use native.Mathlib.Omega.{arith}
use mathlib.Core.Path.{◌≡◌, refl, ap, ◌∙◌}
use mathlib.Core.Bool.{true}
use mathlib.Core.List.{List, ◌++◌}
use lib.ListN.{length}
use Rattle.order.specs.Order.{least}
use Rattle.order.proofs.Lists.{join_one, all_at}
use Rattle.table.specs.declared.node.Entry.{Entry}
use Rattle.table.specs.Page.{blank_entry}
use Rattle.table.specs.Slots.{entries_at}
use Rattle.table.specs.Stations.{is_point}
use Rattle.naming.specs.Holders.{marks_of}
use Rattle.naming.proofs.Marking.{sofar_none, sofar_next, sofar_all}
use Rattle.naming.proofs.down.offer_leaf.Invariants.{alone}
use Rattle.naming.proofs.down.offer_leaf.Goals as goal

pub loop-i-init : goal.loop-i-init
loop-i-init c =
    let a = c.args in
    (sofar_none a.holder.number a.holder.place alone (entries_at a.table.now a.slot) a.best.now.marks.now a.best.now.rising, refl)

pub offer_point-requires : goal.offer_point-requires
offer_point-requires c =
    let inside : c.loop-i.i < length (entries_at c.args.table.now c.args.slot) =
    omega (arith, c.loop-i-test.true, c.count_at-i-end.ensures) in
    let a = c.args in
    let es = entries_at a.table.now a.slot in
    rw c.entry_at-e.ensures (all_at (λ e. is_point e ≡ true) es c.loop-i.i blank_entry inside c.requires.all)

pub loop-i-preserved : goal.loop-i-preserved
loop-i-preserved c =
    let inside : c.loop-i.i < length (entries_at c.args.table.now c.args.slot) =
    omega (arith, c.loop-i-test.true, c.count_at-i-end.ensures) in
    let a = c.args in
    let es = entries_at a.table.now a.slot in
    let best = c.loop-i.best.marks.now in (
      sofar_next a.holder.number a.holder.place alone es a.best.now.marks.now c.loop-i.i best _ blank_entry inside c.loop-i.invariant.0
          (c.offer_point.ensures.best ∙ ap (λ (e : Entry). least (length best) (marks_of a.holder.number a.holder.place (alone e) ++ best)) c.entry_at-e.ensures),
      c.offer_point.ensures.lent ∙ c.loop-i.invariant.1,
    )

pub returns-clause-best : goal.returns-clause-best
returns-clause-best c =
    let a = c.args in
    let es = entries_at a.table.now a.slot in
    let row = a.best.now.marks.now in
    sofar_all a.holder.number a.holder.place alone es row c.loop-i.i c.loop-i.best.marks.now (omega (arith, c.loop-i-test.false, c.count_at-i-end.ensures)) c.loop-i.invariant.0
    ∙ ap (λ (es : List Entry). least (length row) (marks_of a.holder.number a.holder.place es ++ row)) (join_one es)
