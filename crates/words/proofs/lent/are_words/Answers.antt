-- `words::lent::are_words` meets its contract: a word that is read fits.
use Rattle.std.proofs.Common.{arith, pos}
use Rattle.order.proofs.Lists.{all_from_at}
use Rattle.words.specs.Word.{IsWord}
use Rattle.words.proofs.lent.are_words.Goals as goal

pub returns : goal.returns
returns c = all_from_at IsWord c.args.words.now (pos 0) (λ i l. c.loop-word.invariant i (pos 0) (omega arith))
