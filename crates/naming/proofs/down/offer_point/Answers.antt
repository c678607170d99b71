-- `naming::down::offer_point` meets its contract: the station itself has no mark, another point has one. Assumes nothing.
use Prim.Native.Nat.{ℕ}
use native.Mathlib.Omega.{arith}
use mathlib.Core.Path.{refl, sym, ap, ◌∙◌}
use mathlib.Core.List.{List, ◌∷◌, ◌++◌}
use lib.ListN.{length}
use Rattle.grid.specs.declared.place.Place.{Place}
use Rattle.grid.specs.Place.{PlaceOnGrid, dist²}
use Rattle.grid.proofs.Rects.{dist_most}
use Rattle.order.specs.Order.{least}
use Rattle.order.proofs.Least.{least_row}
use Rattle.rules.proofs.Reading.{point}
use Rattle.filter.specs.Walk.{spot_in}
use Rattle.naming.specs.Holders.{mark_of}
use Rattle.naming.proofs.Marking.{marks_itself, marks_other}
use Rattle.naming.proofs.down.offer_point.Goals as goal

pub returns-then-other-holder-clause-best : goal.returns-then-other-holder-clause-best
returns-then-other-holder-clause-best c =
    let row = c.args.best.now.marks.now in
    least_row (length row) row refl c.args.best.now.rising
    ∙ ap (λ (ms : List ℕ). least (length row) (ms ++ row)) (sym (marks_itself c.args.holder.number c.args.holder.place c.args.e c.if-other-holder.true))

pub mark_of-requires : goal.mark_of-requires
mark_of-requires c =
    let spot_grid : PlaceOnGrid (spot_in c.args.e) =
    let g = point c.args.e c.requires in record { x = g.x.grid; y = g.y.grid } in (
      omega (arith, c.square_to.ensures, ap (λ (s : Place). dist² s c.args.holder.place) c.spot_in.ensures, dist_most (spot_grid) c.args.holder.on_grid),
      omega (arith, (point c.args.e c.requires).most),
    )

pub returns-clause-best : goal.returns-clause-best
returns-clause-best c =
    let row = c.args.best.now.marks.now in
    c.offer.ensures.best
    ∙ ap (λ (mark : ℕ). least (length row) (mark ∷ row)) (c.mark_of.ensures ∙ ap (λ (d : ℕ). mark_of d c.args.e.reference) (c.square_to.ensures ∙ ap (λ (s : Place). dist² s c.args.holder.place) c.spot_in.ensures))
    ∙ ap (λ (ms : List ℕ). least (length row) (ms ++ row)) (sym (marks_other c.args.holder.number c.args.holder.place c.args.e c.if-other-holder.false))
