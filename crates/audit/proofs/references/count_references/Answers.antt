-- `references::count_references` meets its contract. The invariant: the references passed are counted, and no number is too large. Assumes nothing.
use Prim.Native.Nat.{◌+◌, ◌*◌, ◌<◌}
use native.Mathlib.Omega.{arith}
use mathlib.Core.Path.{◌≡◌, subst}
use mathlib.Core.List.{[], ◌∷◌, ◌++◌, append_assoc}
use lib.ListN.{length, get_or, take}
use lib.Seq.{take_all}
use Rattle.order.specs.Lists.{All}
use Rattle.order.proofs.Lists.{all_at}
use Rattle.figures.specs.Figures.{FAN, SLOTS}
use Rattle.table.specs.Page.{blank_entry}
use Rattle.audit.specs.Seen.{refs_of, Tally}
use Rattle.audit.proofs.Entries.{refs_more}
use Rattle.audit.proofs.Tallied.{one_tallied, few_more}
use Rattle.audit.proofs.references.count_references.Goals as goal

pub loop-e-preserved : goal.loop-e-preserved
loop-e-preserved c =
    let es = c.held-e-items.result.now in
    let i = c.loop-e.e-index in
    let r = (get_or es i blank_entry).reference in
    let inside : All (λ e. e.reference < SLOTS) es = rw c.held-e-items.ensures c.requires.inside in
    let low : r < SLOTS = all_at (λ e. e.reference < SLOTS) es i blank_entry (omega arith) inside in
    let times = c.loop-e.times in
    let long : length times ≡ SLOTS = omega arith in (
      λ o h. omega (arith, few_more times r (FAN * SLOTS + i) long low c.loop-e.invariant.0 o h),
      λ before t.
          rw (refs_more es i (omega arith), ← append_assoc before (refs_of (take i es)) (r ∷ []))
          (one_tallied times (before ++ refs_of (take i es)) r low (c.loop-e.invariant.1 before t)),
    )

pub returns : goal.returns
returns c =
    let es = c.held-e-items.result.now in
    λ before t.
    rw (← c.held-e-items.ensures)
    (subst (λ ns. Tally c.loop-e.times (before ++ refs_of ns)) (take_all c.loop-e.e-index es (omega arith)) (c.loop-e.invariant.1 before t))
