-- `slip::Slip::answers` meets its contract: head, counts and list, one behind the other. Assumes nothing.
use mathlib.Core.List.{[], ◌∷◌}
use native.Mathlib.Omega.{arith}
use lib.ListN.{length}
use Rattle.jobs.specs.Job.{QUERY}
use Rattle.slip.proofs.Laid.{laid_room}
use Rattle.slip.proofs.Decimal.{head_room, counts_room}
use Rattle.slip.proofs.Granted.{granted_laid}
use Rattle.slip.proofs.Slip.answers.Goals as goal

pub counts-requires : goal.counts-requires
counts-requires c = omega (arith, laid_room 43 c.head.ensures.laid (head_room _ _ _) (omega arith))

pub list-requires : goal.list-requires
list-requires c =
    let head = laid_room 43 c.head.ensures.laid (head_room _ _ _) (omega arith) in
    omega (arith, laid_room 63 c.counts.ensures.laid (counts_room _ _ _) (omega (arith, head)), head)

pub returns-clause-laid : goal.returns-clause-laid
returns-clause-laid c =
    let a = c.args in
    let s = a.self.now in
    granted_laid s.out.now s.at a.number QUERY (length a.answers.now ∷ a.m ∷ a.o ∷ []) a.answers.now (omega arith)
    c.head.ensures.laid c.counts.ensures.laid c.list.ensures.laid
