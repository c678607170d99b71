-- `axis::span::square` meets its contract: the laws of `proofs/Machine.antt` say what the machine reads back at each step. Assumes nothing.
use Rattle.axis.proofs.Machine.{square_steps}
use Rattle.axis.proofs.span.square.Goals as goal

pub returns : goal.returns
returns c = square_steps c.args.a c.args.b c.requires.0 c.requires.1
