-- `change::share::lined` meets its contract: the row is the stable order of the sums, and what is picked by it is the sorted list. Assumes nothing.
use Prim.Native.Nat.{◌<◌}
use mathlib.Core.Path.{◌≡◌, ap, subst, ◌∙◌}
use lib.ListN.{length, take}
use Rattle.grid.specs.Place.{longer_axis}
use Rattle.order.specs.Lists.{All}
use Rattle.order.specs.Order.{pick}
use Rattle.table.specs.declared.node.Node.{Node}
use Rattle.table.specs.Page.{page, held, Shows, blank_entry, cover_of}
use Rattle.table.proofs.Nodes.{full}
use Rattle.change.specs.Share.{lined as lined_of}
use Rattle.change.proofs.Held.{row_small, row_lined}
use Rattle.change.proofs.share.lined.Goals as goal

pub placed_by-requires : goal.placed_by-requires
placed_by-requires c =
    let n : Node =
    c.args.n in
    let whole : length n.entries ≡ 10 =
    full n c.well_formed.0 in
    let axis : c.longer-axis.result ≡ longer_axis (cover_of (held n)) =
    c.longer-axis.ensures ∙ ap longer_axis c.cover.ensures in
    let small : All (λ i. i < 10) c.in_order-row.result =
    row_small n c.longer-axis.result c.in_order-row.result whole axis c.marks_on-marks.ensures.sums c.in_order-row.ensures in
    small

pub returns : goal.returns
returns c =
    let n : Node =
    c.args.n in
    let whole : length n.entries ≡ 10 =
    full n c.well_formed.0 in
    let axis : c.longer-axis.result ≡ longer_axis (cover_of (held n)) =
    c.longer-axis.ensures ∙ ap longer_axis c.cover.ensures in
    let ordered : pick n.entries blank_entry (take n.count c.in_order-row.result) ≡ lined_of (held n) =
    row_lined n c.longer-axis.result c.in_order-row.result whole axis c.marks_on-marks.ensures.sums c.in_order-row.ensures in
    subst (λ es. Shows c.placed_by.result (page (n).level es)) (ordered) c.placed_by.ensures
