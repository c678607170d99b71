-- Of a sheet too long its one line is printed.
use Rattle.std.proofs.Common.{arith}
use Rattle.office.proofs.Whole.{too_long}
use Rattle.office.proofs.answer.answer.Goals as goal

pub returns-then-sheet-gt-LONGEST : goal.returns-then-sheet-gt-LONGEST
returns-then-sheet-gt-LONGEST g c =
    rw (too_long c.args.sheet.now (omega (arith, c.if-sheet-gt-LONGEST.true))) c.answer_too_long.ensures
