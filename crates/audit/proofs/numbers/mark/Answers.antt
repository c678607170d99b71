-- `numbers::mark` meets its contract. The invariant: the numbers passed are new, and the map marks them too. Assumes nothing.
use Prim.Native.Nat.{suc, ◌≤◌}
use native.Mathlib.Omega.{arith}
use mathlib.Core.Path.{◌≡◌, subst}
use mathlib.Core.Bool.{true}
use lib.ListN.{get_or, take, drop}
use lib.Seq.{take_all}
use Rattle.order.proofs.Lists.{all_at}
use Rattle.order.specs.Lists.{every}
use Rattle.figures.specs.Figures.{HIGHEST}
use Rattle.table.specs.Page.{blank_entry}
use Rattle.table.specs.Stations.{is_point}
use Rattle.rules.proofs.Tests.{every_all}
use Rattle.audit.specs.Seen.{refs_of, Entered}
use Rattle.audit.proofs.Entries.{refs_more, refs_split, number_low}
use Rattle.audit.proofs.Marked.{one_entered, met_again}
use Rattle.audit.proofs.numbers.mark.Goals as goal

pub returns-then-seen-number : goal.returns-then-seen-number
returns-then-seen-number c =
    let es = c.held-e-items.result.now in
    let i = c.loop-e.e-index in
    let e = get_or es i blank_entry in
    let points : every is_point es ≡ true = rw c.held-e-items.ensures c.requires in
    let low : e.reference ≤ HIGHEST = number_low e (all_at (λ e. is_point e ≡ true) es i blank_entry (omega arith) (every_all is_point es points)) in
    λ before m.
    rw (← c.held-e-items.ensures, refs_split es i (omega arith))
    (met_again before (refs_of (take i es)) c.loop-e.seen (c.loop-e.invariant before m) e.reference low c.if-seen-number.true (refs_of (drop (suc i) es)) c.loop-e.seen)

pub loop-e-preserved : goal.loop-e-preserved
loop-e-preserved c =
    let es = c.held-e-items.result.now in
    let i = c.loop-e.e-index in
    let e = get_or es i blank_entry in
    let points : every is_point es ≡ true = rw c.held-e-items.ensures c.requires in
    let low : e.reference ≤ HIGHEST = number_low e (all_at (λ e. is_point e ≡ true) es i blank_entry (omega arith) (every_all is_point es points)) in
    λ before m.
    rw (refs_more es i (omega arith))
    (one_entered before (refs_of (take i es)) c.loop-e.seen (c.loop-e.invariant before m) e.reference low c.if-seen-number.false)

pub returns : goal.returns
returns c =
    let es = c.held-e-items.result.now in
    λ before m.
    rw (← c.held-e-items.ensures)
    (subst (λ ns. Entered before (refs_of ns) true c.loop-e.seen) (take_all c.loop-e.e-index es (omega arith)) (c.loop-e.invariant before m))
