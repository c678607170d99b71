-- `jobs::number::are_digits` meets its contract: std's digits are those of the definition. Assumes nothing.
use Rattle.std.proofs.Common.{rules, tests, ◌≡◌, sym, ◌∙◌, length}
use Rattle.std.proofs.lemmas.Iterator.{YieldsList-from_slice}
use Rattle.std.proofs.lemmas.Iterator.Search.{all_from_yields_List}
use Rattle.table.specs.Words.{between}
use Rattle.jobs.specs.Number.{is_digit}
use Rattle.jobs.proofs.Digits.{every_all}
use Rattle.jobs.proofs.number.are_digits.Goals as goal

pub returns-then-contains : goal.returns-then-contains
returns-then-contains c =
    let bs = c.args.bytes.now in
    let ranged : c.contains.result ≡ between 1 7 (length bs) = search rules in
    let all = all_from_yields_List is_digit _ _ c.all.result c.all.ensures.ran (YieldsList-from_slice bs cc) (λ x b q k. search (rules, tests)) in
    rw (sym ranged ∙ c.if-contains.true) (all ∙ every_all is_digit bs)
