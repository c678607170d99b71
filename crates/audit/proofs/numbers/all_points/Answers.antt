-- `numbers::all_points` meets its contract. Assumes nothing.
use Rattle.std.proofs.Common.{rules}
use Rattle.std.proofs.lemmas.Iterator.{YieldsList-from_slice}
use Rattle.std.proofs.lemmas.Iterator.Search.{all_from_yields_List}
use borrow.Author.Tests.{tests}
use mathlib.Core.Path.{◌∙◌}
use Rattle.table.specs.Page.{held}
use Rattle.table.specs.Stations.{is_point}
use Rattle.audit.proofs.Every.{std_all}
use Rattle.audit.proofs.numbers.all_points.Goals as goal

pub returns : goal.returns
returns c =
    all_from_yields_List is_point _ _ c.all.result c.all.ensures.ran (YieldsList-from_slice (held c.args.n) (c.iter.ensures.rest ∙ c.held.ensures)) (λ x b q k. search (rules, tests)) ∙ std_all is_point (held c.args.n)
