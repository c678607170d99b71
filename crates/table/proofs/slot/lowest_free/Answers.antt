-- `slot::lowest_free` meets its contract. The invariant: all slots below are used. Assumes nothing.
use mathlib.Core.Path.{sym, ◌∙◌}
use native.Mathlib.Omega.{arith}
use Rattle.figures.specs.Figures.{SLOTS}
use Rattle.table.proofs.Slots.{lowest_only}
use Rattle.table.proofs.slot.lowest_free.Goals as goal

pub returns-then-is_free : goal.returns-then-is_free
returns-then-is_free c =
    let l = c.loop-slot in
    lowest_only c.args.table.now l.slot (omega arith) l.invariant (λ h. sym c.is_free.ensures ∙ c.if-is_free.true)

pub returns : goal.returns
returns c =
    let l = c.loop-slot in
    lowest_only c.args.table.now SLOTS (omega arith) (λ o h. l.invariant o (omega arith)) (λ h. absurd (omega arith))
