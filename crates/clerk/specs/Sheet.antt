-- A whole sheet: the program starts with the empty table and lists of 500, and writes one line for each line read.
use Rattle.std.specs.Prelude.{ℕ, ◌+◌, cond, List, [], ◌∷◌, ◌++◌, ltb, length, take, replicate, Err}
use Rattle.grid.specs.Site.{site}
use Rattle.figures.specs.Figures.{MOST}
use Rattle.table.specs.Words.{Words}
use Rattle.table.specs.declared.given.Refusal.TheVariants as refusal
use Rattle.table.specs.Given.{Given, number_given, if_done}
use Rattle.refusals.specs.Refusals.{enrol_gives, withdraw_gives}
use Rattle.desk.specs.Calls.{after_enrol, after_withdraw, Queried, after_query, Listed, after_card}
use Rattle.desk.specs.Alone.{blank_list}
use Rattle.table.specs.Empty.{empty_table}
use Rattle.sheet.specs.Bytes.{Bytes, LONGEST, lines_of}
use Rattle.jobs.specs.declared.job.Job.{Job}
use Rattle.jobs.specs.declared.job.Job.TheVariants.{Enrol, Withdraw, Query, Card, MissingK, Misshapen}
use Rattle.jobs.specs.Job.{job_of}
use Rattle.slip.specs.Output.{letter_of, output_line}

-- the table and the answer list; what a query writes on besides, its candidates, nobody sees
pub record State : Type 0 where
  pub words : Words
  pub answers : List ℕ

-- after a job: the state, what is given back, and the further numbers of a granted query or card
pub record Ran : Type 0 where
  pub state : State
  pub given : Given
  pub more : List ℕ

-- the same answer list, another table
abbrev pub with_words : State → Words → State
with_words st ws = record { words = ws; answers = st.answers }

-- n, m, o and the n point numbers
abbrev pub granted : Queried → List ℕ
granted r = r.counts.n ∷ r.counts.m ∷ r.counts.o ∷ take r.counts.n r.answers

abbrev pub queried : State → Queried → Ran
queried st r =
    record {
      state = record { words = st.words; answers = r.answers };
      given = r.given;
      more = if_done r.given (granted r) [];
    }

-- how many names, then the numbers in card order
abbrev pub carded : State → Listed → Ran
carded st r =
    record {
      state = record { words = st.words; answers = r.list };
      given = r.given;
      more = if_done r.given (r.names ∷ take r.names r.list) [];
    }

abbrev pub ran_job : State → Job → Ran
ran_job st (Enrol n a b) = record { state = with_words st (after_enrol st.words n (site a b)); given = enrol_gives st.words n (site a b); more = [] }
ran_job st (Withdraw n) = record { state = with_words st (after_withdraw st.words n); given = withdraw_gives st.words n; more = [] }
ran_job st (Query a b k) = queried st (after_query st.words (site a b) k blank_list st.answers)
ran_job st (Card n k) = carded st (after_card st.words n k st.answers)
ran_job st (MissingK letter) = record { state = st; given = Err refusal.NoSuchK; more = [] }
ran_job st Misshapen = record { state = st; given = Err refusal.Misshapen; more = [] }

unfoldable pub ran_line : State → Bytes → Ran
ran_line st line = ran_job st (job_of line)

-- the output line of line `number`
unfoldable pub line_output : ℕ → State → Bytes → Bytes
line_output number st line =
    let r = ran_line st line in
    output_line number (letter_of (job_of line)) (number_given r.given) r.more

-- all lines in order, the first of them with this number
abbrev pub lines_output : ℕ → State → List Bytes → Bytes
lines_output number st [] = []
lines_output number st (l ∷ ls) = line_output number st l ++ lines_output (number + 1) (ran_line st l).state ls

-- the line that a sheet too long prints: 0, ?, 12
abbrev pub too_long_line : Bytes
too_long_line = output_line 0 63 12 []

-- the empty table, and an answer list of 500
abbrev pub start : State
start = record { words = empty_table; answers = replicate MOST 0 }

-- what the program prints for a sheet
unfoldable pub sheet_output : Bytes → Bytes
sheet_output sheet = cond (ltb LONGEST (length sheet)) too_long_line (lines_output 1 start (lines_of sheet))
