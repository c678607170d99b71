-- `leaving::withdraw::Parent::mend` meets its contract: the child's number of entries decides, and either page fits. Assumes nothing.
use Prim.Native.Nat.{◌-◌, ◌≤◌, ◌<◌}
use mathlib.Core.Path.{sym, ap, subst, ◌∙◌}
use native.Mathlib.Omega.{arith}
use lib.ListN.{length}
use Rattle.figures.specs.Figures.{LEAST}
use Rattle.table.specs.Page.{page, held, shown}
use Rattle.table.specs.Slots.{entries_at, put_page}
use Rattle.table.proofs.Nodes.{shown_page}
use Rattle.change.specs.Choose.{entry_in}
use Rattle.leaving.specs.Withdraw.{tight_at, Joinable}
use Rattle.leaving.proofs.WithdrawPages.{shown_fits, mend_joins, mend_fits, mend_level, mend_small, mend_tight}
use Rattle.leaving.proofs.withdraw.Parent.mend.Goals as goal

pub join_children-requires : goal.join_children-requires
join_children-requires c =
    let a = c.args in
    let at = c.child_at in
    let child = c.node_at-child in
    let k : length (entries_at a.table.now (entry_in (held a.self.node) a.i).reference) < LEAST =
    omega (arith, child.ensures.count, ap (λ o. length (entries_at a.table.now o)) at.ensures, c.if-child-lt-LEAST.true) in
    subst (Joinable a.table.now a.self.slot (shown a.self.node)) (sym c.lower_place.ensures)
    (mend_joins a.table.now a.self.slot (shown a.self.node) a.i c.requires k)

pub returns-then-child-lt-LEAST : goal.returns-then-child-lt-LEAST
returns-then-child-lt-LEAST c =
    let a = c.args in
    let ws = a.table.now in
    let at = c.child_at in
    let child = c.node_at-child in
    let k : length (entries_at ws (entry_in (held a.self.node) a.i).reference) < LEAST =
    omega (arith, child.ensures.count, ap (λ o. length (entries_at ws o)) at.ensures, c.if-child-lt-LEAST.true) in
    let end = c.join_children in
    let low = c.lower_place in
    mend_small ws a.self.slot (a.self.node.level - 1) (held a.self.node) a.i end.new.table k low.result low.ensures end.ensures

pub put_node_at-requires : goal.put_node_at-requires
put_node_at-requires c =
    let a = c.args in
    (c.requires.inside, shown_fits c.tightened-m.ensures.node (mend_fits a.table.now a.self.slot (shown a.self.node) a.i c.requires))

pub returns : goal.returns
returns c =
    let a = c.args in
    let ws = a.table.now in
    let at = c.child_at in
    let child = c.node_at-child in
    let m = c.tightened-m in
    let es = tight_at ws (held a.self.node) a.i in
    let k : LEAST ≤ length (entries_at ws (entry_in (held a.self.node) a.i).reference) =
    omega (arith, child.ensures.count, ap (λ o. length (entries_at ws o)) at.ensures, c.if-child-lt-LEAST.false) in
    let put = c.put_node_at in
    mend_tight ws a.self.slot (a.self.node.level - 1) (held a.self.node) a.i put.new.table k
    (put.ensures ∙ ap (put_page ws a.self.slot) (shown_page m.ensures.node) ∙ ap (λ l. put_page ws a.self.slot (page l es)) (mend_level ws a.self.slot (shown a.self.node) a.i c.requires))
