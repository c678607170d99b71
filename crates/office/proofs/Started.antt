-- The empty table passes the check, and the line of a sheet too long has seven bytes. Assumes nothing.
use mathlib.Core.Path.{◌≡◌, refl}
use lib.ListN.{length}
use Rattle.table.specs.Empty.{empty_table}
use Rattle.table.specs.Words.{Words}
use Rattle.rules.specs.Rules.{Passes}
use Rattle.rules.proofs.EmptyTable.{empty_blank}
use Rattle.rules.proofs.WellFormed.{empty_well_formed}
use Rattle.slip.specs.Output.{decimal, head_of, output_line}
use Rattle.clerk.specs.Sheet.{too_long_line}

pub start_passes : {ws : Words} → ws ≡ empty_table → Passes ws
start_passes e = rw e (empty_blank.long, empty_well_formed)

pub too_long_length : length too_long_line ≡ 7
unfolding decimal head_of output_line
too_long_length = refl
