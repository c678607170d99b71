-- `leaving::withdraw::share_out` meets its contract: each half of the entries in order is a share, which fits. Assumes nothing.
use mathlib.Core.Path.{◌≡◌, ap, ◌∙◌}
use Rattle.table.specs.Page.{page, held}
use Rattle.table.specs.Slots.{put_page}
use Rattle.table.proofs.Nodes.{shown_page}
use Rattle.change.specs.Share.{first_share, other_share}
use Rattle.leaving.proofs.WithdrawPages.{first_fits, other_fits, first_shows, other_shows, shown_fits}
use Rattle.leaving.proofs.withdraw.share_out.Goals as goal

pub put_node_at-requires : goal.put_node_at-requires
put_node_at-requires c =
    let a = c.args in
    let n = c.lined-all in
    let f = shown_fits (first_shows a.c a.d a.joint c.requires n.result n.ensures c.first.result c.first.ensures)
    (first_fits a.c a.d a.joint c.requires) in
    (c.requires.first, f)

pub put_node_at-requires-2 : goal.put_node_at-requires-2
put_node_at-requires-2 c =
    let a = c.args in
    let n = c.lined-all in
    let f = shown_fits (other_shows a.c a.d a.joint c.requires n.result n.ensures c.rest.result c.rest.ensures)
    (other_fits a.c a.d a.joint c.requires) in
    (c.requires.other, f)

pub returns : goal.returns
returns c =
    let a = c.args in
    let n = c.lined-all in
    let low = c.first in
    let put = c.put_node_at in
    let high = c.rest in
    let e = shown_page (first_shows a.c a.d a.joint c.requires n.result n.ensures low.result low.ensures) in
    let f = shown_page (other_shows a.c a.d a.joint c.requires n.result n.ensures high.result high.ensures) in
    let g : put.new.table ≡ put_page a.table.now a.c (page a.joint.level (first_share (held a.joint))) = put.ensures ∙ ap (put_page a.table.now a.c) e in
    c.put_node_at-2.ensures ∙ ap (put_page put.new.table a.d) f ∙ ap (λ w. put_page w a.d (page a.joint.level (other_share (held a.joint)))) g
