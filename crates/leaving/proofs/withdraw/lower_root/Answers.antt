-- `leaving::withdraw::lower_root` meets its contract: the number of entries and the level of the root's node decide. Assumes nothing.
use Prim.Native.Nat.{◌<◌}
use native.Mathlib.Omega.{arith}
use mathlib.Core.Path.{◌≡◌, sym, ap, ◌∙◌}
use lib.IntN.{pos, negsuc}
use lib.ListN.{get_or}
use Rattle.table.specs.Page.{blank_entry}
use Rattle.table.specs.Slots.{entries_at, freed, with_root}
use Rattle.table.proofs.Nodes.{page_at_lem}
use Rattle.change.specs.Choose.{entry_in}
use Rattle.leaving.proofs.WithdrawRoot.{lower_none, lower_leaf, lower_many, lower_one}
use Rattle.leaving.proofs.withdraw.lower_root.Goals as goal

pub returns-then-n-eq0 : goal.returns-then-n-eq0
returns-then-n-eq0 c =
    let ws = c.args.table.now in
    let n = c.node_at-n in
    let free = c.free_slot in
    let put = c.put_no_root in
    put.ensures ∙ ap (λ w. with_root w (negsuc 0)) free.ensures
    ∙ lower_none ws c.args.root (sym n.ensures.count ∙ c.if-n-eq0.true)

pub returns-then-n-eq0-2 : goal.returns-then-n-eq0-2
returns-then-n-eq0-2 c =
    let n = c.node_at-n in
    lower_leaf c.args.table.now c.args.root (λ e. c.if-n-eq0.false (n.ensures.count ∙ e)) (sym n.ensures.level ∙ c.if-n-eq0-2.true)

pub returns-then-n-ne1 : goal.returns-then-n-ne1
returns-then-n-ne1 c =
    let n = c.node_at-n in
    lower_many c.args.table.now c.args.root (λ e. c.if-n-eq0.false (n.ensures.count ∙ e)) (λ e. c.if-n-eq0-2.false (n.ensures.level ∙ e))
    (λ e. c.if-n-ne1.true (n.ensures.count ∙ e))

pub returns : goal.returns
returns c =
    let ws = c.args.table.now in
    let n = c.node_at-n in
    let at = (get_or n.result.entries 0 blank_entry).reference in
    let some : 0 < n.result.count = omega (arith, c.if-n-ne1.false) in
    let first : at ≡ (entry_in (entries_at ws c.args.root) 0).reference = ap (λ e. e.reference) (page_at_lem n.ensures 0 blank_entry some) in
    c.put_root.ensures ∙ ap (λ w. with_root w (pos at)) c.free_slot-2.ensures
    ∙ ap (λ o. with_root (freed ws c.args.root) (pos o)) first
    ∙ lower_one ws c.args.root (λ e. c.if-n-eq0-2.false (n.ensures.level ∙ e)) (sym n.ensures.count ∙ c.if-n-ne1.false)
