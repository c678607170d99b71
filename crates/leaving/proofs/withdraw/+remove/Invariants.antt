-- The level falls: a removal calls itself one level down.
use Rattle.leaving.proofs.withdraw.+remove.Given as goal

abbrev pub decreases-remove : goal.decreases-remove
decreases-remove l = l.level
