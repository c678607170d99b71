-- `jobs::number::negative_number` meets its contract: the value of plain digits is small enough to be taken from 0 in a signed word. Assumes nothing.
use mathlib.Core.Path.{sym, ap, ◌∙◌}
use borrow.Author.Tests.{ne_eqb}
use Rattle.std.specs.Prelude.{Some}
use lib.IntN.{pos, neg_ℤ}
use Rattle.jobs.proofs.Digits.{starts_at, plain_least, plain_small, minus_back}
use Rattle.jobs.proofs.number.negative_number.Goals as goal

pub returns : goal.returns
returns c =
    let bs = c.args.bytes.now in
    let plain = sym c.is_plain.ensures ∙ c.if-not-is_plain.false in
    simp (plain, starts_at bs (plain_least bs plain), ne_eqb _ _ c.if-bytes-eq48.false)
    (ap Some (minus_back c.value_of.result (plain_small _ plain _ c.value_of.ensures) ∙ ap (λ n. neg_ℤ (pos n)) c.value_of.ensures))
