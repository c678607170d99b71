-- `slip::Slip::names` meets its contract: head, count and list, one behind the other. Assumes nothing.
use mathlib.Core.List.{[], ◌∷◌}
use native.Mathlib.Omega.{arith}
use lib.ListN.{length}
use Rattle.jobs.specs.Job.{CARD}
use Rattle.slip.proofs.Laid.{laid_room}
use Rattle.slip.proofs.Decimal.{head_room, number_room}
use Rattle.slip.proofs.Granted.{granted_laid}
use Rattle.slip.proofs.Slip.names.Goals as goal

pub number-requires : goal.number-requires
number-requires c = omega (arith, laid_room 43 c.head.ensures.laid (head_room _ _ _) (omega arith))

pub list-requires : goal.list-requires
list-requires c =
    let head = laid_room 43 c.head.ensures.laid (head_room _ _ _) (omega arith) in
    omega (arith, laid_room 21 c.number.ensures.laid (number_room _) (omega (arith, head)), head)

pub returns-clause-laid : goal.returns-clause-laid
returns-clause-laid c =
    let a = c.args in
    let s = a.self.now in
    granted_laid s.out.now s.at a.number CARD (length a.names.now ∷ []) a.names.now (omega arith)
    c.head.ensures.laid c.number.ensures.laid c.list.ensures.laid
