-- `references::count_at` meets its contract: the references of a node above are counted after those of the slots before. Assumes nothing.
use Prim.Native.Nat.{◌<◌}
use native.Mathlib.Omega.{arith}
use mathlib.Core.Path.{◌≡◌, sym, subst, ◌∙◌}
use mathlib.Core.Bool.{true, false}
use mathlib.Core.List.{◌++◌, append-nil}
use Rattle.order.specs.Lists.{join, All}
use Rattle.order.specs.Order.{up_from}
use Rattle.figures.specs.Figures.{SLOTS}
use Rattle.rules.specs.Rules.{is_above, refs_at}
use Rattle.audit.specs.Seen.{refs_of, Tally}
use Rattle.audit.proofs.Entries.{children_inside}
use Rattle.audit.proofs.Gathered.{join_more}
use Rattle.audit.proofs.Tallied.{tally_few}
use Rattle.audit.proofs.references.count_at.Goals as goal

pub count_references-requires : goal.count_references-requires
count_references-requires c =
    let ws = c.args.table.now in
    let slot = c.args.slot in
    let above : is_above ws slot ≡ true = sym c.is_above.ensures ∙ c.if-is_above.true in
    record {
      room = tally_few ws c.args.times.now slot (omega arith) c.requires.so_far;
      inside = subst (All (λ e. e.reference < SLOTS)) (sym c.node_at-n.ensures.entries) (children_inside ws slot above c.requires.children.1);
    }

pub returns-then-is_above : goal.returns-then-is_above
returns-then-is_above c =
    let ws = c.args.table.now in
    let slot = c.args.slot in
    let above : is_above ws slot ≡ true = sym c.is_above.ensures ∙ c.if-is_above.true in
    let before = join (refs_at ws) (up_from 0 slot) in
    rw (join_more (refs_at ws) slot, above)
    (subst (λ es. Tally c.count_references.new.times (before ++ refs_of es)) c.node_at-n.ensures.entries (c.count_references.ensures before c.requires.so_far))

pub returns-else-is_above : goal.returns-else-is_above
returns-else-is_above c =
    let ws = c.args.table.now in
    let above : is_above ws c.args.slot ≡ false = sym c.is_above.ensures ∙ c.if-is_above.false in
    rw (join_more (refs_at ws) c.args.slot, above, append-nil) c.requires.so_far
