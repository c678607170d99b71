-- `refuse::is_enrolled` meets its contract: a number is enrolled exactly if it stands somewhere. Assumes nothing.
use mathlib.Core.Path.{◌∙◌}
use Rattle.words.proofs.Machine.{natural_passed}
use Rattle.refusals.proofs.CallNumbers.{enrolled_told}
use Rattle.refusals.proofs.refuse.is_enrolled.Goals as goal

pub returns : goal.returns
returns c = c.is_some.ensures ∙ enrolled_told c.args.table.now c.args.number (natural_passed c.args.number c.ranges.number c.natural.ensures) c.find.ensures
