-- `sheet::fields::field_count` meets its contract: one more field than there are tabs. Assumes nothing.
use mathlib.Core.Path.{◌≡◌}
use borrow.Author.Rules.{rules}
use lib.Dec.{eqb}
use Rattle.std.specs.List.{count_by}
use Rattle.sheet.specs.Bytes.{TAB, fields_of}
use Rattle.sheet.proofs.Parted.{marks_counted}
use Rattle.sheet.proofs.fields.field_count.Goals as goal

pub returns : goal.returns
unfolding fields_of
returns c =
    let counted : c.count.result ≡ count_by (λ b. eqb b TAB) c.args.line.now = search rules in
    rw counted (marks_counted TAB c.args.line.now)
