-- `jobs::number::plain_number` meets its contract: the value of plain digits is small enough for a signed word. Assumes nothing.
use mathlib.Core.Path.{sym, ap, ◌∙◌}
use Rattle.std.specs.Prelude.{Some}
use lib.IntN.{pos}
use Rattle.jobs.proofs.Digits.{plain_small, pos_back}
use Rattle.jobs.proofs.number.plain_number.Goals as goal

pub returns : goal.returns
returns c =
    let plain = sym c.is_plain.ensures ∙ c.if-not-is_plain.false in
    rw plain (ap Some (pos_back c.value_of.result (plain_small _ plain _ c.value_of.ensures) ∙ ap pos c.value_of.ensures))
