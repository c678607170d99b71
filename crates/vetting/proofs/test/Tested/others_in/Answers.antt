-- `vetting::test::Tested::others_in` meets its contract. The loop's invariant: `found` counts those of the first `i` entries, `most` at most. Assumes nothing.
use Prim.Native.Nat.{ℕ, ◌+◌, ◌-◌, ◌<◌, min}
use native.Mathlib.Omega.{arith}
use mathlib.Core.Path.{◌≡◌, ap, ◌∙◌}
use mathlib.Core.Bool.{Bool, true, false}
use lib.ListN.{length, get_or}
use Rattle.order.specs.Lists.{one, count as count_of}
use Rattle.order.proofs.Lists.{join_one}
use Rattle.table.specs.Page.{blank_entry}
use Rattle.table.specs.Slots.{entries_at}
use Rattle.vetting.specs.Test.{other_as_near}
use Rattle.vetting.proofs.Below.{SoFar, sofar_next, sofar_enough, sofar_all}
use Rattle.vetting.proofs.test.Tested.others_in.Invariants.{alone}
use Rattle.vetting.proofs.test.Tested.others_in.Goals.{then-has_as_near, else-has_as_near}
use Rattle.vetting.proofs.test.Tested.others_in.Goals as goal

pub returns-then-most-found : goal.returns-then-most-found
returns-then-most-found c =
    let a = c.args in
    let P = other_as_near a.self.number a.self.place a.self.far in
    let es = entries_at a.table.now a.slot in
    sofar_enough P alone es a.most c.loop-i.i c.loop-i.found (omega arith) c.loop-i.invariant
    ∙ ap (λ c. min a.most (count_of P c)) (join_one es)

pub loop-i-preserved : goal.loop-i-preserved
loop-i-preserved c =
    let a = c.args in
    let P = other_as_near a.self.number a.self.place a.self.far in
    let es = entries_at a.table.now a.slot in
    let i = c.loop-i.i in
    let found = c.loop-i.found in
    let inside : i < length es = omega (arith, c.count_at-count.ensures) in
    let tested : c.has_as_near.result ≡ P (get_or es i blank_entry) = rw (← c.entry_at-e.ensures) c.has_as_near.ensures in
    let next : (b : Bool) → c.has_as_near.result ≡ b → (more : ℕ) → more ≡ min (a.most - found) (one b + 0) → SoFar P alone es a.most (i + 1) (found + more) = λ b h more m.
    sofar_next P alone es a.most i found more blank_entry inside (omega arith) c.loop-i.invariant (rw (← tested, h) m) in
    elim c.if-has_as_near.branch [
      | then-has_as_near w ↦ omega (arith, next true w.if-has_as_near.true 1 (omega arith))
      | else-has_as_near w ↦ omega (arith, next false w.if-has_as_near.false 0 (omega arith))
    ]

pub returns : goal.returns
returns c =
    let a = c.args in
    let P = other_as_near a.self.number a.self.place a.self.far in
    let es = entries_at a.table.now a.slot in
    sofar_all P alone es a.most c.loop-i.i c.loop-i.found (omega (arith, c.count_at-count.ensures)) c.loop-i.invariant
    ∙ ap (λ c. min a.most (count_of P c)) (join_one es)
