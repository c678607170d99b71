-- `vetting::test::Tested::others_below` meets its contract, by recursion on the level. The loop's invariant: `found` counts those below the first `i` children, `most` at most. Assumes nothing.
use Prim.Native.Nat.{ℕ, ◌+◌, ◌-◌, ◌<◌, min}
use native.Mathlib.Omega.{arith}
use mathlib.Core.Path.{◌≡◌, sym, ◌∙◌}
use mathlib.Core.Bool.{false}
use lib.ListN.{length}
use Rattle.grid.specs.Place.{least_square}
use Rattle.grid.specs.AsNear.{as_near}
use Rattle.order.specs.Lists.{count as count_of, join}
use Rattle.table.specs.Page.{blank_entry}
use Rattle.table.specs.Slots.{entries_at}
use Rattle.vetting.specs.Test.{other_as_near, below}
use Rattle.vetting.proofs.Below.{SoFar, sofar_next, sofar_enough, sofar_all, box_none, below_zero, below_above, child_read}
use Rattle.vetting.proofs.test.Tested.+others_below.Invariants.{under}
use Rattle.vetting.proofs.test.Tested.+others_below.Goals as goal
use Rattle.vetting.proofs.test.Tested.+others_below.Goals.{then-is_as_near, else-is_as_near}

pub returns-then-most-found : goal.returns-then-most-found
returns-then-most-found t c =
    let a = c.args in
    let ws = a.table.now in
    let es = entries_at ws a.slot in
    let P = other_as_near a.self.number a.self.place a.self.far in
    let all_under : below a.level ws a.slot ≡ join (under ws a.level) es = below_above ws a.slot a.level (omega arith) in
    rw all_under (sofar_enough P (under ws a.level) es a.most c.loop-i.i c.loop-i.found c.if-most-found.true c.loop-i.invariant)

pub least_square-requires : goal.least_square-requires
least_square-requires t c =
    let a = c.args in
    let child_here = child_read a.table.now a.slot a.level (omega arith) c.requires c.loop-i.i (omega (arith, c.count_at-count.ensures)) c.entry_at-e.ensures in
    (child_here.0.0.grid, a.self.on_grid)

pub others_below-found-requires : goal.others_below-found-requires
others_below-found-requires t c =
    let a = c.args in
    let child_here = child_read a.table.now a.slot a.level (omega arith) c.requires c.loop-i.i (omega (arith, c.count_at-count.ensures)) c.entry_at-e.ensures in
    (omega (arith, c.decreases), (child_here.0.1, child_here.1.1))

pub loop-i-preserved : goal.loop-i-preserved
loop-i-preserved t c =
    let a = c.args in
    let ws = a.table.now in
    let es = entries_at ws a.slot in
    let P = other_as_near a.self.number a.self.place a.self.far in
    let in_node : c.loop-i.i < length es = omega (arith, c.count_at-count.ensures) in
    let child_here = child_read ws a.slot a.level (omega arith) c.requires c.loop-i.i in_node c.entry_at-e.ensures in
    let next_here : (more : ℕ) → more ≡ min (a.most - c.loop-i.found) (count_of P (under ws a.level c.entry_at-e.result)) → SoFar P (under ws a.level) es a.most (c.loop-i.i + 1) (c.loop-i.found + more) =
    λ more h. sofar_next P (under ws a.level) es a.most c.loop-i.i c.loop-i.found more blank_entry in_node (omega arith) c.loop-i.invariant (rw c.entry_at-e.ensures at h) in
    elim c.if-is_as_near.branch [
      | then-is_as_near w ↦ rw w.found-is (next_here w.others_below-found.result w.others_below-found.ensures)
      | else-is_as_near w ↦
          let far : as_near (least_square c.entry_at-e.result.rect a.self.place) a.self.far ≡ false =
          rw (← c.least_square.ensures) (sym c.is_as_near.ensures ∙ w.if-is_as_near.false) in
          let none = box_none a.self.number a.self.place a.self.far c.entry_at-e.result.rect (under ws a.level c.entry_at-e.result) child_here.1.0 far in
          rw w.found-is (omega (arith, next_here 0 (omega (arith, none))))
    ]

pub returns : goal.returns
returns t c =
    let a = c.args in
    let ws = a.table.now in
    let es = entries_at ws a.slot in
    let P = other_as_near a.self.number a.self.place a.self.far in
    let all_under : below a.level ws a.slot ≡ join (under ws a.level) es = below_above ws a.slot a.level (omega arith) in
    rw all_under
    (sofar_all P (under ws a.level) es a.most c.loop-i.i c.loop-i.found (omega (arith, c.count_at-count.ensures)) c.loop-i.invariant)

pub returns-then-level-eq0 : goal.returns-then-level-eq0
returns-then-level-eq0 t c = rw (below_zero c.args.table.now c.args.slot c.args.level c.if-level-eq0.true) c.others_in.ensures
