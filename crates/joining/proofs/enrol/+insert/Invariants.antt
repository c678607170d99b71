-- The level falls: an insertion calls itself one level down.
use Rattle.joining.proofs.enrol.+insert.Given as goal

abbrev pub decreases-insert : goal.decreases-insert
decreases-insert l = l.level
