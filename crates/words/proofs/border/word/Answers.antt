-- `words::border::word` meets its contract: the laws of `proofs/Machine.antt` say what the machine reads back at each step. Assumes nothing.
use native.Mathlib.Omega.{arith}
use Rattle.words.proofs.Machine.{word_back}
use Rattle.words.proofs.border.word.Goals as goal

pub returns : goal.returns
returns c = word_back c.args.s _ c.requires (omega arith)
