-- `slip::Slip::numbers` meets its contract. The loop's invariant: the numbers passed stand in the buffer, which stays the same. Assumes nothing.
use Prim.Native.Nat.{◌*◌}
use mathlib.Core.Path.{refl, sym, ◌∙◌}
use mathlib.Core.List.{[], ◌∷◌, map}
use native.Mathlib.Omega.{arith}
use lib.ListN.{take, get_or}
use lib.Seq.{take_all}
use Rattle.slip.specs.Output.{decimal, tabbed}
use Rattle.slip.proofs.Laid.{laid_none, laid_room, laid_then}
use Rattle.slip.proofs.Decimal.{tabbed_more, tabbed_room, number_room}
use Rattle.slip.proofs.Slip.numbers.Goals as goal

pub loop-n-init : goal.loop-n-init
loop-n-init c =
    let s = c.args.self.now in
    (record { laid = sym (laid_none s.out.now s.at); behind = omega arith }, refl)

pub number-requires : goal.number-requires
number-requires c =
    let l = c.loop-n in
    let passed = laid_room (21 * l.n-index) l.invariant.0 (tabbed_room c.args.numbers.now l.n-index (omega arith)) (omega arith) in
    omega (arith, passed)

pub loop-n-preserved : goal.loop-n-preserved
loop-n-preserved c =
    let s = c.args.self.now in
    let ns = c.args.numbers.now in
    let l = c.loop-n in (
      rw (tabbed_more ns l.n-index (omega arith))
          (laid_then s.out.now s.at (tabbed (map decimal (take l.n-index ns))) _ _ (tabbed (decimal (get_or ns l.n-index 0) ∷ [])) _ _
          (omega (arith, tabbed_room ns l.n-index (omega arith), number_room (get_or ns l.n-index 0)))
          l.invariant.0 (rw c.from.ensures at c.number.ensures.laid)),
      c.number.ensures.same_out ∙ l.invariant.1,
    )

pub returns-clause-laid : goal.returns-clause-laid
returns-clause-laid c = rw (take_all c.loop-n.n-index c.args.numbers.now (omega arith)) at c.loop-n.invariant.0
