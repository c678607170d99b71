-- `check` meets its contract: a table of another length is refused as such. Assumes nothing.
use borrow.Author.Tests.{ne_eqb}
use lib.ListN.{length}
use Rattle.figures.specs.Figures.{LENGTH}
use Rattle.audit.specs.Check.{check_gives}
use Rattle.audit.proofs.check.Goals as goal

pub returns-in_default : goal.returns-in_default
unfolding check_gives
returns-in_default c = rw (ne_eqb (length c.args.table.now) LENGTH (λ e. c.in_default.ensures.cases e))
