-- `words::lent::are_words` meets its contract: a word that is read fits.
use Rattle.std.proofs.Common.{ℕ, ◌<◌, get_or}
use Rattle.std.specs.Prelude.{ℤ}
use Rattle.words.specs.Word.{IsWord}
use Rattle.words.proofs.lent.are_words.Given as goal

abbrev pub invariant-loop-word : goal.invariant-loop-word
invariant-loop-word l = (k : ℕ) (d : ℤ) → k < l.word-index → IsWord (get_or l.words k d)
