-- `leads::count::reaches` meets its contract: no sum wraps, and the quotient is the top bit. Assumes nothing.
use Rattle.leads.proofs.Laws.{sum_top}
use Rattle.leads.proofs.count.reaches.Goals as goal

pub returns : goal.returns
returns c =
    let a = c.args in sum_top a.x a.y a.bar a.px a.py c.requires.0 c.requires.1 c.requires.2 c.requires.3 c.requires.4
