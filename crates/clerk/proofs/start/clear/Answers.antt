-- `clerk::start::clear` meets its contract: one slot more is free. Assumes nothing.
use Prim.Native.Nat.{◌+◌}
use mathlib.Core.Path.{sym, subst}
use borrow.Author.Rules.{rules}
use Rattle.clerk.proofs.Cleared.{Cleared, cleared_more, cleared_all}
use Rattle.clerk.proofs.start.clear.Goals as goal

pub loop-slot-preserved : goal.loop-slot-preserved
loop-slot-preserved c =
    let l = c.loop-slot in
    subst (λ ws. Cleared ws (l.slot + 1)) (sym c.free_slot.ensures) (cleared_more l.invariant (search rules))

pub returns : goal.returns
returns c = cleared_all c.loop-slot.invariant (search rules)
