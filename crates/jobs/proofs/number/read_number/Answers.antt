-- `jobs::number::read_number` meets its contract: the definition's cases by the first byte. Assumes nothing.
use mathlib.Core.Path.{sym, ◌∙◌}
use native.Mathlib.Omega.{arith}
use Rattle.jobs.proofs.Digits.{reads_minus, reads_plain}
use Rattle.jobs.proofs.number.read_number.Goals as goal
use Rattle.jobs.proofs.number.read_number.Goals.{in_default-via-then-field-lt1, in_default-via-else-field-lt1+in_default-1}

pub returns-in-45 : goal.returns-in-45
returns-in-45 c = c.negative_number.ensures ∙ sym (reads_minus c.args.field.now c.in-45.len_at_least (omega arith))

pub returns-in_default : goal.returns-in_default
returns-in_default c =
    elim c.in_default.branch [
      | in_default-via-then-field-lt1 w ↦ c.plain_number.ensures ∙ sym (reads_plain c.args.field.now (λ l e. grind arith))
      | in_default-via-else-field-lt1+in_default-1 w ↦ c.plain_number.ensures ∙ sym (reads_plain c.args.field.now (λ l e. grind arith))
    ]
