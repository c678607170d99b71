-- 02 §5: a record has number, x, y and a free name. "Refusals: 11 for a record that breaks the grammar, has other than four fields
-- or a misshapen number, then 3, 4." A number has 01's form once unquoted.
use Rattle.std.specs.Prelude.{ℕ, cond, Err, List, [], ◌∷◌}
use Rattle.grid.specs.Site.{site}
use Rattle.table.specs.declared.given.Refusal.TheVariants as refusal
use Rattle.table.specs.Given.{Given, line, first_of}
use Rattle.limits.specs.Limits.{no_such_number, off_grid}
use Rattle.sheet.specs.Bytes.{Bytes}
use Rattle.jobs.specs.declared.job.Job.{Job}
use Rattle.jobs.specs.declared.job.Job.TheVariants.{Enrol, Withdraw, Query, Card, MissingK, Misshapen}
use Rattle.jobs.specs.Job.{enrol_job}
use Rattle.csv_grammar.specs.Grammar.{is_record, said_by}

abbrev pub FIELDS : ℕ
FIELDS = 4

-- four fields: the enrolment by the first three, the name dropped
abbrev pub from_fields : List Bytes → Job
from_fields [] = Misshapen
from_fields (n ∷ []) = Misshapen
from_fields (n ∷ x ∷ []) = Misshapen
from_fields (n ∷ x ∷ y ∷ []) = Misshapen
from_fields (n ∷ x ∷ y ∷ name ∷ []) = enrol_job (n ∷ x ∷ y ∷ [])
from_fields (n ∷ x ∷ y ∷ name ∷ z ∷ more) = Misshapen

-- what a record asks for: an enrolment, or it is misshapen
unfoldable pub asked_by : Bytes → Job
asked_by item = cond (is_record item) (from_fields (said_by item)) Misshapen

-- what it is refused with: 11, then 3, then 4
abbrev pub given_for : Job → Given
given_for (Enrol n x y) = first_of (line (no_such_number n) refusal.NoSuchNumber ∷ line (off_grid (site x y)) refusal.OffGrid ∷ [])
given_for (Withdraw n) = Err refusal.Misshapen
given_for (Query x y k) = Err refusal.Misshapen
given_for (Card n k) = Err refusal.Misshapen
given_for (MissingK letter) = Err refusal.Misshapen
given_for Misshapen = Err refusal.Misshapen

unfoldable pub given_of : Bytes → Given
given_of item = given_for (asked_by item)
