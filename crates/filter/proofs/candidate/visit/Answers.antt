-- `filter::candidate::visit` meets its contract: the test of the code is that of the walk, and the rows take one more record where it fails. Assumes nothing.
use native.Mathlib.Omega.{arith}
use Rattle.rules.proofs.Reading.{point}
use Rattle.filter.specs.Rows.{rows_of}
use Rattle.filter.proofs.RowLaws.{kept_read}
use Rattle.filter.proofs.Visits.{visit_hidden, visit_room, visit_new}
use Rattle.filter.proofs.candidate.visit.Goals as goal

pub as_near-near-requires : goal.as_near-near-requires
as_near-near-requires c =
    let p = point c.args.e c.requires.0 in
    let l = c.leads.ensures in
    (kept_read l.xs l.ys l.bars c.requires.1.grid c.requires.1.kept, rw c.spot_in.ensures (record { x = p.x.grid; y = p.y.grid }), c.requires.1.grid)

pub returns-then-k-near-clause-went : goal.returns-then-k-near-clause-went
returns-then-k-near-clause-went c =
    let a = c.args in
    let l = c.leads.ensures in
    visit_hidden a.e a.q a.k (rows_of a.rows.now) a.seen _ (rw (c.spot_in.ensures, l.xs, l.ys) at c.as_near-near.ensures) c.requires.1.kept c.if-k-near.true

pub note-requires : goal.note-requires
note-requires c =
    let a = c.args in
    let l = c.leads.ensures in
    let room = visit_room a.e a.q a.k (rows_of a.rows.now) a.seen _ (rw (c.spot_in.ensures, l.xs, l.ys) at c.as_near-near.ensures) c.if-k-near.false c.requires.1.room in
    record {
      at_in_bounds = (omega (arith, room.numbers), omega (arith, room.xs), omega (arith, room.ys), omega (arith, room.bars));
      e_value = (c.requires.0, c.requires.1.grid);
    }

pub returns-clause-went : goal.returns-clause-went
returns-clause-went c =
    let a = c.args in
    let r = rows_of a.rows.now in
    let l = c.leads.ensures in
    let n = c.note.ensures in
    let counted = rw (c.spot_in.ensures, l.xs, l.ys) at c.as_near-near.ensures in
    let few = c.if-k-near.false in
    visit_new a.e a.q a.k r a.seen _ counted _ c.requires.1.kept (visit_room a.e a.q a.k r a.seen _ counted few c.requires.1.room) few n.number n.x n.y n.bar
