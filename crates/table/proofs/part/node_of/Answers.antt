-- `part::node_of` meets its contract. The invariant: the first `i` entries have been read. Assumes nothing.
use Prim.Native.Nat.{ℕ}
use mathlib.Core.Path.{◌≡◌, sym, ap, ◌∙◌}
use mathlib.Core.List.{map}
use native.Mathlib.Omega.{arith}
use lib.ListN.{take, length-set, length-map}
use Rattle.order.specs.Order.{up_from}
use Rattle.order.proofs.Order.{up_length}
use Rattle.table.specs.Page.{entry_of, filled, page_of}
use Rattle.table.proofs.Parts.{read_step}
use Rattle.table.proofs.part.node_of.Goals as goal

pub loop-i-preserved : goal.loop-i-preserved
loop-i-preserved c =
    let l = c.loop-i in
    let ws = c.args.part.now in (
      simp length-set (omega arith),
      rw c.entry_of.ensures (read_step (entry_of ws) l.entries l.i (omega arith) l.invariant.1),
    )

pub returns : goal.returns
unfolding page_of
returns c =
    let l = c.loop-i in
    let ws = c.args.part.now in
    let k = c.filled_part-count.ensures in
    let e : l.i ≡ c.filled_part-count.result = omega arith in
    record {
      level = c.natural_at.ensures;
      count = k ∙ sym (length-map (up_from 0 (filled ws)) (entry_of ws) ∙ up_length 0 (filled ws));
      entries = ap (λ (n : ℕ). take n l.entries) (sym e) ∙ l.invariant.1 ∙ ap (λ (n : ℕ). map (entry_of ws) (up_from 0 n)) (e ∙ k);
    }
