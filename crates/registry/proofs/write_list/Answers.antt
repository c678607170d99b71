-- `registry::write_list`: what is laid into a buffer ends in it, and is what was taken.
use mathlib.Core.Path.{sym, subst}
use lib.Seq.{length-take-le}
use Rattle.std.specs.Io.KnownBytes.{Appends}
use Rattle.registry.proofs.Within.{within, taken}
use Rattle.registry.proofs.Told.{quietly, both_done}
use Rattle.registry.proofs.write_list.Goals as goal

pub slice_bounds-write_all-end : goal.slice_bounds-write_all-end
slice_bounds-write_all-end g c = within c.put_list-filled.ensures.laid_2 c.put_list-filled.auto.reports

pub slice_bounds-write_all-end-2 : goal.slice_bounds-write_all-end-2
slice_bounds-write_all-end-2 g c = sym (length-take-le _ _ (within c.put_list-filled.ensures.laid_2 c.put_list-filled.auto.reports))

pub slice_bounds-write_all-end-3 : goal.slice_bounds-write_all-end-3
slice_bounds-write_all-end-3 g c = within c.put_list-filled.ensures.laid c.put_list-filled.auto.lines

pub slice_bounds-write_all-end-4 : goal.slice_bounds-write_all-end-4
slice_bounds-write_all-end-4 g c = sym (length-take-le _ _ (within c.put_list-filled.ensures.laid c.put_list-filled.auto.lines))

pub returns : goal.returns
returns g c =
    let told = quietly _ _ c.or_tell-told.ensures.same c.write_all.ensures c.or_tell-told.ensures.quiet in
    let lined = quietly _ _ c.or_tell-lined.ensures.same c.write_all-2.ensures c.or_tell-lined.ensures.quiet in
    rw c.and.ensures
    (both_done _ _ _ c.or_tell-told.result c.or_tell-lined.result told lined
    (λ t l. record {
      lines = subst (Appends _ _) (taken c.put_list-filled.ensures.laid) l.0;
      reports = rw (l.1, t.1) (subst (Appends _ _) (taken c.put_list-filled.ensures.laid_2) t.0);
    }))
