-- `change::choose::choose` meets its contract. The invariant: `best` is the choice among the first k entries. Assumes nothing.
use Prim.Native.Nat.{◌+◌, ◌-◌}
use native.Mathlib.Omega.{arith}
use mathlib.Core.Path.{◌≡◌, sym, ap, ◌∙◌}
use mathlib.Core.Bool.{cond}
use lib.ListN.{length}
use Rattle.table.specs.Page.{held}
use Rattle.table.proofs.Nodes.{full, held_length}
use Rattle.change.specs.Choose.{takes_before, entry_in, chosen_up_to, chosen}
use Rattle.change.proofs.Chosen.{chosen_step}
use Rattle.change.proofs.Held.{held_at}
use Rattle.change.proofs.choose.choose.Goals.{then-takes_before, else-takes_before}
use Rattle.change.proofs.choose.choose.Goals as goal

pub loop-k-preserved : goal.loop-k-preserved
loop-k-preserved c =
    let l = c.loop-k in
    let a = c.args in
    let es = held a.n in
    let r : c.takes_before.result ≡ takes_before a.new (entry_in es l.k).rect (entry_in es l.best).rect =
    rw (held_at a.n l.k (omega arith), held_at a.n l.best (omega arith)) c.takes_before.ensures in
    let e : chosen_up_to a.new es (l.k + 1 - 1) ≡ cond c.takes_before.result l.k l.best =
    cc (chosen_step a.new es l.k (omega arith)) in
    elim c.if-takes_before.branch [
      | then-takes_before w ↦ (omega arith, w.best-is ∙ sym (e ∙ ap (λ b. cond b l.k l.best) w.if-takes_before.true))
      | else-takes_before w ↦ (omega arith, w.best-is ∙ sym (e ∙ ap (λ b. cond b l.k l.best) w.if-takes_before.false))
    ]

pub returns : goal.returns
unfolding chosen
returns c =
    let l = c.loop-k in
    let n = c.args.n in
    let k : l.k - 1 ≡ length (held n) - 1 = omega (arith, held_length n (full n c.well_formed.0)) in
    l.invariant.1 ∙ ap (chosen_up_to c.args.new (held n)) k
