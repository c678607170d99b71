-- `references::leaf_entries` meets its contract. The invariant: `points` is how many points the slots passed hold, eight a slot at most. Assumes nothing.
use mathlib.Core.Path.{◌≡◌, ap, ◌∙◌}
use native.Mathlib.Omega.{arith}
use lib.ListN.{length}
use Rattle.order.specs.Lists.{join}
use Rattle.order.specs.Order.{up_from}
use Rattle.figures.specs.Figures.{SLOTS}
use Rattle.table.specs.Stations.{stations_at, stations}
use Rattle.audit.proofs.Gathered.{length_more, points_few}
use Rattle.audit.proofs.references.leaf_entries.Goals as goal

pub overflow_add-points : goal.overflow_add-points
overflow_add-points c =
    omega (arith, c.points_at-points.ensures, points_few c.args.table.now c.loop-slot.slot)

pub loop-slot-preserved : goal.loop-slot-preserved
loop-slot-preserved c =
    let ws = c.args.table.now in
    let more = length_more (stations_at ws) c.loop-slot.slot in
    let few = points_few ws c.loop-slot.slot in
    omega (arith, c.points_at-points.ensures)

pub returns : goal.returns
unfolding stations
returns c =
    let e : c.loop-slot.slot ≡ SLOTS = omega arith in
    c.loop-slot.invariant.0 ∙ ap (λ n. length (join (stations_at c.args.table.now) (up_from 0 n))) e
