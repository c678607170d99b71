-- `roster::list::lay_list` meets its contract. The loop's invariant: what stands on each slip, and then what the records from `at` on add to it, is the whole; where a record follows, there is room for what it adds; and the buffers stay the same. Assumes nothing.
use Prim.Native.Nat.{◌-◌}
use mathlib.Core.Path.{◌≡◌}
use lib.ListN.{length, drop}
use Rattle.order.specs.Lists.{join}
use Rattle.cuts.specs.Cuts.{records_of}
use Rattle.roster.specs.Roster.{line_for, reports_from, holders_in}
use Rattle.roster.proofs.Copied.{SoFar}
use Rattle.roster.proofs.Going.{Room}
use Rattle.roster.proofs.list.lay_list.Given as goal

abbrev pub invariant-loop-at : goal.invariant-loop-at
invariant-loop-at l =
    SoFar l.initial.lines.out.now (join line_for (holders_in l.file)) (join line_for (records_of (drop l.at l.file))) l.lines.out.now l.lines.at
    × SoFar l.initial.reports.out.now (reports_from 1 (holders_in l.file)) (reports_from l.number (records_of (drop l.at l.file))) l.reports.out.now l.reports.at
    × Room l.file l.at l.number l.lines.at l.reports.at
    × (l.lines.out.ghost_name ≡ l.initial.lines.out.ghost_name)
    × (l.reports.out.ghost_name ≡ l.initial.reports.out.ghost_name)

abbrev pub decreases-loop-at : goal.decreases-loop-at
decreases-loop-at l = length l.file - l.at
