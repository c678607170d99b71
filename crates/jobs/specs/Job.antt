-- 01: "The first letter decides: E number x y; W number; Q x y k. Any other line is 11, an empty one included,
-- except that a Q with sound x and y and either no further field or just one, empty, is 5, before any other check."
-- 02 §1: K number k; 11, then 5 for a k field empty or absent.
use Rattle.std.specs.Prelude.{ℕ, cond, Option, Some, None, List, [], ◌∷◌, eqb, ℤ}
use Rattle.sheet.specs.Bytes.{Bytes, fields_of}
use Rattle.jobs.specs.declared.job.Job.{Job}
use Rattle.jobs.specs.declared.job.Job.TheVariants.{Enrol, Withdraw, Query, Card, MissingK, Misshapen}
use Rattle.jobs.specs.Number.{read_number}

-- go on with the number in a field; misshapen if there is none
abbrev pub with_number : Option ℤ → (ℤ → Job) → Job
with_number (Some z) next = next z
with_number None next = Misshapen

abbrev pub enrol_job : List Bytes → Job
enrol_job [] = Misshapen
enrol_job (n ∷ []) = Misshapen
enrol_job (n ∷ x ∷ []) = Misshapen
enrol_job (n ∷ x ∷ y ∷ []) =
    with_number (read_number n) (λ number. with_number (read_number x) (λ a. with_number (read_number y) (λ b. Enrol number a b)))
enrol_job (n ∷ x ∷ y ∷ z ∷ more) = Misshapen

abbrev pub withdraw_job : List Bytes → Job
withdraw_job [] = Misshapen
withdraw_job (n ∷ []) = with_number (read_number n) (λ number. Withdraw number)
withdraw_job (n ∷ m ∷ more) = Misshapen

abbrev pub ENROL : ℕ
ENROL = 69

abbrev pub WITHDRAW : ℕ
WITHDRAW = 87

abbrev pub QUERY : ℕ
QUERY = 81

abbrev pub CARD : ℕ
CARD = 75

-- what is left of a line with this letter is its k; no further field, or just one, empty, is a missing k
abbrev pub with_k : ℕ → List Bytes → (ℤ → Job) → Job
with_k letter [] next = MissingK letter
with_k letter ([] ∷ []) next = MissingK letter
with_k letter ((c ∷ cs) ∷ []) next = with_number (read_number (c ∷ cs)) next
with_k letter (k ∷ z ∷ more) next = Misshapen

abbrev pub query_job : List Bytes → Job
query_job [] = Misshapen
query_job (x ∷ []) = Misshapen
query_job (x ∷ y ∷ rest) = with_number (read_number x) (λ a. with_number (read_number y) (λ b. with_k QUERY rest (λ k. Query a b k)))

abbrev pub card_job : List Bytes → Job
card_job [] = Misshapen
card_job (n ∷ rest) = with_number (read_number n) (λ number. with_k CARD rest (λ k. Card number k))

abbrev pub by_letter : ℕ → List Bytes → Job
by_letter letter more =
    cond (eqb letter ENROL) (enrol_job more)
    (cond (eqb letter WITHDRAW) (withdraw_job more)
    (cond (eqb letter QUERY) (query_job more)
    (cond (eqb letter CARD) (card_job more) Misshapen)))

-- the first field is exactly one letter
abbrev pub by_fields : List Bytes → Job
by_fields [] = Misshapen
by_fields ([] ∷ more) = Misshapen
by_fields ((letter ∷ []) ∷ more) = by_letter letter more
by_fields ((letter ∷ b ∷ bs) ∷ more) = Misshapen

unfoldable pub job_of : Bytes → Job
job_of line = by_fields (fields_of line)
