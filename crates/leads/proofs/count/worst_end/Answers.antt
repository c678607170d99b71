-- `leads::count::worst_end` meets its contract: the mask takes the whole length or nothing of it. Assumes nothing.
use native.Mathlib.Omega.{arith}
use Rattle.leads.proofs.Laws.{masked}
use Rattle.leads.proofs.count.worst_end.Goals as goal

pub returns : goal.returns
returns c =
    masked c.args.x c.args.low c.args.wide c.requires.0 (omega arith)
