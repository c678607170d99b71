-- The empty table passes the check, the buffer has room for any output line, and all lines together print what the program prints.
use Rattle.std.proofs.Common.{rules}
use Rattle.office.proofs.Started.{start_passes}
use Rattle.office.proofs.Whole.{started}
use Rattle.office.proofs.answer.answer_all.Goals as goal

pub answer_lines-requires : goal.answer_lines-requires
answer_lines-requires g c = (start_passes c.clear.ensures, c.requires, search rules)

pub returns : goal.returns
returns g c = rw (started c.args.sheet.now c.clear.ensures c.requires) at c.answer_lines.ensures
