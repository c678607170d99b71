-- `grid::rect::Rect::longer` meets its contract: the test on the two lengths is the definition's. Assumes nothing.
use borrow.Author.Tests.{lt-ltb, le-ltb}
use native.Mathlib.Omega.{arith}
use Rattle.axis.specs.Axis.{span_length}
use Rattle.grid.specs.Place.{longer_axis}
use Rattle.grid.proofs.rect.Rect.longer.Goals as goal

pub returns-then-length : goal.returns-then-length
unfolding longer_axis
returns-then-length c =
    let r = c.args.self in
    rw (lt-ltb (span_length r.x) (span_length r.y) (omega arith))

pub returns-else-length : goal.returns-else-length
unfolding longer_axis
returns-else-length c =
    let r = c.args.self in
    rw (le-ltb (span_length r.x) (span_length r.y) (omega arith))
