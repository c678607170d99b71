-- `jobs::number::is_plain` meets its contract: the tests of the definition, one after the other. Assumes nothing.
use mathlib.Core.Path.{sym, ◌∙◌}
use borrow.Author.Tests.{eq-eqb}
use lib.ListN.{length}
use Rattle.jobs.proofs.Digits.{digits_least, plain_none, plain_one, plain_more}
use Rattle.jobs.proofs.number.is_plain.Goals as goal

pub bounds-bytes-0 : goal.bounds-bytes-0
bounds-bytes-0 c = digits_least c.args.bytes.now (sym c.are_digits.ensures ∙ c.if-are_digits.true)

pub returns-then-bytes-eq1 : goal.returns-then-bytes-eq1
returns-then-bytes-eq1 c =
    let bs = c.args.bytes.now in
    rw (plain_one bs (sym c.are_digits.ensures ∙ c.if-are_digits.true) c.if-bytes-eq1.true, eq-eqb (length bs) 1 c.if-bytes-eq1.true)

pub returns-else-bytes-eq1 : goal.returns-else-bytes-eq1
returns-else-bytes-eq1 c =
    sym (plain_more c.args.bytes.now (sym c.are_digits.ensures ∙ c.if-are_digits.true) c.if-bytes-eq1.false)

pub returns-else-are_digits : goal.returns-else-are_digits
returns-else-are_digits c =
    let none = c.if-are_digits.false in
    none ∙ sym (plain_none c.args.bytes.now (sym c.are_digits.ensures ∙ none))
