-- `joining::enrol::split` meets its contract: the ordered node's two parts are the shares, which fit into slots. Assumes nothing.
use native.Mathlib.Omega.{arith}
use Rattle.table.proofs.Nodes.{full}
use Rattle.joining.proofs.Settling.{ordered_count, kept_fits, rest_fits, split_words}
use Rattle.joining.proofs.enrol.split.Goals as goal

pub first-first-requires : goal.first-first-requires
first-first-requires c =
    omega (arith, ordered_count c.requires (full c.args.n c.well_formed.1.1.0) c.lined-all.ensures)

pub rest-other-requires : goal.rest-other-requires
rest-other-requires c =
    omega (arith, ordered_count c.requires (full c.args.n c.well_formed.1.1.0) c.lined-all.ensures)

pub put_node_at-requires : goal.put_node_at-requires
put_node_at-requires c =
    let o = c.lined-all.ensures in
    let w = full c.args.n c.well_formed.1.1.0 in (
      c.requires.low,
      kept_fits c.requires w o c.first-first.ensures c.rest-other.ensures,
    )

pub put_node_at-requires-2 : goal.put_node_at-requires-2
put_node_at-requires-2 c =
    let o = c.lined-all.ensures in
    let w = full c.args.n c.well_formed.1.1.0 in (
      omega (arith, c.lowest_free-to.ensures, c.requires.room),
      rest_fits c.requires w o c.first-first.ensures c.rest-other.ensures,
    )

pub returns : goal.returns
returns c =
    let o = c.lined-all.ensures in
    let w = full c.args.n c.well_formed.1.1.0 in
    split_words c.requires w o c.first-first.ensures c.rest-other.ensures c.lowest_free-to.result c.put_node_at.new.table c.put_node_at-2.new.table
    c.cover.result c.lowest_free-to.ensures c.put_node_at.ensures c.put_node_at-2.ensures c.cover.ensures
