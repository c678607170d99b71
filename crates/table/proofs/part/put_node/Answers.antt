-- `part::put_node` meets its contract. The invariant: the first `i` entries have been written over a free slot's words. Assumes nothing.
use Prim.Native.Nat.{◌≤◌}
use mathlib.Core.Path.{◌≡◌, sym, ap, ◌∙◌}
use native.Mathlib.Omega.{arith}
use lib.ListN.{length}
use lib.Seq.{take_all}
use Rattle.figures.specs.Figures.{FAN}
use Rattle.table.specs.Page.{held, blank_entry, entries_words}
use Rattle.table.proofs.Nodes.{full, held_length}
use Rattle.table.proofs.Placed.{placed_none}
use Rattle.table.proofs.Parts.{write_step, write_all}
use Rattle.table.proofs.part.put_node.Goals as goal

pub loop-i-init : goal.loop-i-init
unfolding entries_words
loop-i-init c =
    (omega arith, placed_none c.put_natural-2.new.words 2)

pub loop-i-preserved : goal.loop-i-preserved
loop-i-preserved c =
    let n = c.args.n in
    let es = c.held-e-items.result.now in
    let many : length (held n) ≡ n.count = held_length n (full n c.well_formed.1.0) in
    let all : length es ≡ n.count = ap length c.held-e-items.ensures ∙ many in
    let few : length (held n) ≤ FAN = c.requires.1.few in
    (omega arith, cc (write_step c.put_natural-2.new.words es c.loop-i.i blank_entry (omega arith) (omega arith) (omega arith)))

pub returns : goal.returns
returns c =
    let n = c.args.n in
    let many = held_length n (full n c.well_formed.1.0) in
    let all = take_all c.loop-i.i c.held-e-items.result.now (omega arith) in
    cc (write_all n.level n.count (held n) (sym many) (omega (arith, c.requires.1.few)))
