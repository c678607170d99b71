-- `shape::zeros_from` meets its contract. Assumes nothing.
use Rattle.std.proofs.Common.{rules}
use Rattle.std.proofs.lemmas.List.{take_rest}
use Rattle.std.proofs.lemmas.Iterator.{YieldsList-from_slice}
use Rattle.std.proofs.lemmas.Iterator.Search.{all_from_yields_List}
use borrow.Author.Tests.{tests}
use mathlib.Core.Path.{refl, ◌∙◌}
use mathlib.Core.Path.{◌≡◌}
use lib.Dec.{eqb}
use lib.ListN.{drop}
use Rattle.words.specs.Word.{steps_of}
use Rattle.audit.proofs.Words.{steps_zero}
use Rattle.table.specs.Words.{is_zero}
use Rattle.audit.proofs.Every.{std_all}
use Rattle.audit.proofs.shape.zeros_from.Goals as goal

pub returns : goal.returns
returns c =
    let ws = c.args.part.now in
    all_from_yields_List is_zero _ _ c.all.result c.all.ensures.ran (YieldsList-from_slice (drop c.args.from ws) (c.iter.ensures.rest ∙ take_rest ws c.args.from)) (λ x b q k. let h : b ≡ eqb (steps_of x.now) 2147483648 = search (rules, tests) in (refl, h ∙ steps_zero x.now)) ∙ std_all is_zero (drop c.args.from c.args.part.now)
