-- What a line keeps: a table that passes the check passes it afterwards, and the answer list is as long as it was; and how long its output line is at most. Job by job. Assumes nothing.
use Prim.Native.Nat.{ℕ, ◌+◌, ◌≤◌}
use mathlib.Core.Path.{◌≡◌, refl}
use mathlib.Core.List.{List, [], ◌∷◌}
use native.Mathlib.Omega.{arith}
use lib.ListN.{length, take, length-take}
use Rattle.words.specs.Word.{nat_of}
use Rattle.grid.specs.Site.{site}
use Rattle.table.specs.Given.{Given, Done, number_given, if_done}
use Rattle.table.specs.Stations.{stations}
use Rattle.rules.specs.Rules.{Passing}
use Rattle.filter.specs.Query.{answers_found, laid_over}
use Rattle.card.specs.Card.{names_for}
use Rattle.refusals.specs.Refusals.{query_gives, card_gives}
use Rattle.desk.specs.Calls.{Queried, after_query, after_card}
use Rattle.desk.specs.Alone.{blank_list}
use Rattle.desk.specs.Demands.{enrol, withdraw}
use Rattle.limits.proofs.Refused.{if_either}
use Rattle.desk.proofs.Granted.{query_granted, card_granted}
use Rattle.desk.proofs.Kept.{call_kept}
use Rattle.filter.proofs.RowLaws.{laid_length}
use Rattle.sheet.specs.Bytes.{Bytes}
use Rattle.jobs.specs.declared.job.Job.{Job}
use Rattle.jobs.specs.declared.job.Job.TheVariants.{Enrol, Withdraw, Query, Card, MissingK, Misshapen}
use Rattle.jobs.specs.Job.{job_of}
use Rattle.slip.specs.Output.{letter_of}
use Rattle.slip.proofs.Decimal.{line_room}
use Rattle.clerk.specs.Sheet.{State, granted, ran_job, ran_line, line_output}
use Rattle.clerk.specs.Running.{longest_line}

-- ---- the table

job_passing : (st : State) → Passing st.words → (j : Job) → Passing (ran_job st j).state.words
job_passing st p (Enrol n a b) = (call_kept p (enrol n (site a b))).passing
job_passing st p (Withdraw n) = (call_kept p (withdraw n)).passing
job_passing st p (Query a b k) = p
job_passing st p (Card n k) = p
job_passing st p (MissingK letter) = p
job_passing st p Misshapen = p

pub line_passing : (st : State) → Passing st.words → (line : Bytes) → Passing (ran_line st line).state.words
unfolding ran_line
line_passing st p line = job_passing st p (job_of line)

-- ---- the answer list

-- what a granted call makes is laid over the list, and a refused one leaves it
list_kept : (g : Given) (made old : List ℕ) → (g ≡ Done → length made ≤ length old) → length (if_done g (laid_over made old) old) ≡ length old
list_kept g made old fits =
    if_either g (λ l. length l ≡ length old) (λ e. laid_length made old (fits e)) refl

job_answers : (st : State) (j : Job) → length (ran_job st j).state.answers ≡ length st.answers
unfolding after_query after_card
job_answers st (Enrol n a b) = refl
job_answers st (Withdraw n) = refl
job_answers st (Query a b k) =
    let q = site a b in
    let room = length blank_list in
    let places = length st.answers in
    list_kept (query_gives st.words q k room places) (answers_found st.words q (nat_of k)) st.answers
    (λ e. (query_granted st.words q k room places e).1)
job_answers st (Card n k) =
    let places = length st.answers in
    list_kept (card_gives st.words n k places) (names_for (stations st.words) (nat_of n) (nat_of k)) st.answers
    (λ e. (card_granted st.words n k places e).1)
job_answers st (MissingK letter) = refl
job_answers st Misshapen = refl

pub line_answers : (st : State) (line : Bytes) → length (ran_line st line).state.answers ≡ length st.answers
unfolding ran_line
line_answers st line = job_answers st (job_of line)

-- ---- the output line

if_most : (g : Given) (xs : List ℕ) → length (if_done g xs []) ≤ length xs
if_most g xs = if_either g (λ l. length l ≤ length xs) (λ e. omega arith) (omega arith)

-- three counts, and no more numbers than the answer list has
granted_most : (r : Queried) → length (granted r) ≤ 3 + length r.answers
granted_most r = omega (arith, length-take r.counts.n r.answers)

job_more : (st : State) (j : Job) → length (ran_job st j).more ≤ 3 + length st.answers
job_more st (Enrol n a b) = omega arith
job_more st (Withdraw n) = omega arith
job_more st (Query a b k) =
    let r = after_query st.words (site a b) k blank_list st.answers in
    omega (arith, if_most r.given (granted r), granted_most r, job_answers st (Query a b k))
job_more st (Card n k) =
    let r = after_card st.words n k st.answers in
    omega (arith, if_most r.given (r.names ∷ take r.names r.list), length-take r.names r.list, job_answers st (Card n k))
job_more st (MissingK letter) = omega arith
job_more st Misshapen = omega arith

pub line_most : (number : ℕ) (st : State) (line : Bytes) → length (line_output number st line) ≤ longest_line (length st.answers)
unfolding line_output ran_line
line_most number st line =
    let j = job_of line in
    omega (arith, line_room number (letter_of j) (number_given (ran_job st j).given) (ran_job st j).more, job_more st j)
