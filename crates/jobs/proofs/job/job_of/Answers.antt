-- `jobs::job::job_of` meets its contract: each arm of the `match` is one case of the definition. Assumes nothing.
use mathlib.Core.Path.{refl, sym}
use native.Mathlib.Omega.{arith}
use lib.ListN.{drop, get_or}
use Rattle.sheet.specs.Bytes.{fields_of}
use Rattle.jobs.proofs.Jobs.{lettered, letter_other}
use Rattle.jobs.proofs.job.job_of.Goals as goal

pub returns-in-69 : goal.returns-in-69
returns-in-69 c = lettered _ _ _ _ c.field.ensures (omega arith) c.in-69.is c.enrol_job.ensures

pub returns-in-87 : goal.returns-in-87
returns-in-87 c = lettered _ _ _ _ c.field.ensures (omega arith) c.in-87.is c.withdraw_job.ensures

pub returns-in-81 : goal.returns-in-81
returns-in-81 c = lettered _ _ _ _ c.field.ensures (omega arith) c.in-81.is c.query_job.ensures

pub returns-in-75 : goal.returns-in-75
returns-in-75 c = lettered _ _ _ _ c.field.ensures (omega arith) c.in-75.is c.card_job.ensures

pub returns-in_default-letter : goal.returns-in_default-letter
returns-in_default-letter c =
    let other = letter_other (get_or c.field.result.now 0 0) (drop 1 (fields_of c.args.line.now)) (λ e. omega arith) (λ e. omega arith) (λ e. omega arith) (λ e. omega arith) in
    lettered _ _ _ _ c.field.ensures (omega arith) refl (sym other)
