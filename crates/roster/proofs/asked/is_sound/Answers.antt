-- `roster::asked::is_sound` meets its contract: the record has as many fields as are tested. Assumes nothing.
use Rattle.std.proofs.Common.{rules, tests, refl, ◌∙◌}
use mathlib.Core.List.{[]}
use lib.ListN.{get_or}
use Rattle.std.proofs.lemmas.Iterator.{YieldsList-from_range}
use Rattle.std.proofs.lemmas.Iterator.Search.{all_from_yields_List}
use Rattle.cuts.specs.declared.parts.Mark.TheVariants.{Comma}
use Rattle.cuts.specs.Cuts.{parts_of}
use Rattle.csv_grammar.specs.Grammar.{is_field, is_record}
use Rattle.roster.proofs.Holders.{four_sound}
use Rattle.roster.proofs.asked.is_sound.Goals as goal

pub returns : goal.returns
unfolding is_record
returns c =
    let ps = parts_of Comma c.args.item.now in
    all_from_yields_List (λ i. is_field (get_or ps i [])) _ _ c.all.result c.all.ensures.ran (YieldsList-from_range 0 4 4 refl refl) (λ x b q k. search (rules, tests))
    ∙ four_sound ps c.requires
