-- The loop of `office::answer::answer_lines`: the table passes the check, the place is in the sheet, no line number is past it, and what was written is what the sheet prints but for the lines to come. The measure is what is left of the sheet.
use Rattle.std.proofs.Common.{◌+◌, ◌-◌, ◌≤◌, length}
use Rattle.rules.specs.Rules.{Passes}
use Rattle.clerk.specs.Running.{lent, stand_at, rest_output}
use Rattle.office.proofs.Printed.{Printed}
use Rattle.office.proofs.answer.answer_lines.Given as goal

abbrev pub invariant-loop-at : goal.invariant-loop-at
invariant-loop-at g l =
    Passes l.table × (l.at ≤ length l.sheet) × (l.number ≤ l.at + 1)
    × Printed (rest_output l.sheet (stand_at 0 1 (lent l.initial.table l.initial.answers))) l.sheet (stand_at l.at l.number (lent l.table l.answers))
    (g.W.Write.contents l.initial.output) (g.W.Write.contents l.output)

abbrev pub decreases-loop-at : goal.decreases-loop-at
decreases-loop-at g l = length l.sheet - l.at
