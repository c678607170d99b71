-- `slip::Slip::byte` meets its contract: one store is a run of one byte. Assumes nothing.
use mathlib.Core.Path.{refl}
use Rattle.slip.proofs.Laid.{laid_one}
use Rattle.slip.proofs.Slip.byte.Goals as goal

pub returns-clause-laid : goal.returns-clause-laid
returns-clause-laid c = record { laid = laid_one _ _ _ c.requires; behind = refl }
