-- `part::free_part` meets its contract: zeros, and the word −1 before them. Assumes nothing.
use mathlib.Core.Path.{ap, ◌∙◌}
use mathlib.Core.List.{◌∷◌}
use lib.IntN.{ℤ, pos}
use lib.ListN.{set, replicate}
use Rattle.words.specs.Word.{word_of}
use Rattle.table.specs.Words.{Words}
use Rattle.table.specs.Page.{free_words}
use Rattle.table.proofs.Parts.{none_word}
use Rattle.table.proofs.part.free_part.Goals as goal

pub returns : goal.returns
unfolding free_words
returns c =
    c.put_steps.ensures
    ∙ ap (λ (ws : Words). set ws 0 (word_of 2147483647)) (c.fill.ensures.after (λ y e. e) ∙ ap (λ n. replicate n (pos 0)) c.requires)
    ∙ ap (λ (z : ℤ). z ∷ replicate 41 (pos 0)) none_word
