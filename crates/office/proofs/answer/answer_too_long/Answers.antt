-- The buffer has room for the line.
use Rattle.std.proofs.Common.{arith, sym}
use Rattle.std.proofs.lemmas.List.{length-take-le}
use Rattle.office.proofs.Started.{too_long_length}
use Rattle.office.proofs.Whole.{taken}
use Rattle.office.proofs.answer.answer_too_long.Goals as goal

pub slice_bounds-out-end : goal.slice_bounds-out-end
slice_bounds-out-end g c = omega (arith, c.put_too_long-filled.ensures.behind, too_long_length, c.put_too_long-filled.auto.out)

pub slice_bounds-write_all-end : goal.slice_bounds-write_all-end
slice_bounds-write_all-end g c =
    sym (length-take-le _ _ (omega (arith, c.put_too_long-filled.ensures.behind, too_long_length, c.put_too_long-filled.auto.out)))

pub returns : goal.returns
returns g c = rw (taken c.put_too_long-filled.ensures) at c.write_all.ensures
