-- Line after line, as the code runs them: the table and the answer list are lent, the queries write on a lent slate, and the output lines are laid into a lent buffer.
use Rattle.std.specs.Prelude.{ℕ, zero, suc, ◌+◌, ◌*◌, ◌≤◌, ◌<◌, ◌≡◌, Bool, cond, ◌&&◌, List, [], ◌++◌, leb, ltb, length, take, drop}
use Rattle.grid.specs.Site.{site}
use Rattle.figures.specs.Figures.{MOST}
use Rattle.table.specs.Words.{Words}
use Rattle.rules.specs.Rules.{Passes}
use Rattle.table.specs.Given.{number_given}
use Rattle.asking.specs.Slate.{Slate}
use Rattle.desk.specs.Alone.{slate_left}
use Rattle.sheet.specs.Bytes.{Bytes, LONGEST, lines_of}
use Rattle.sheet.specs.Marks.{line_of, next_of}
use Rattle.jobs.specs.declared.job.Job.{Job}
use Rattle.jobs.specs.declared.job.Job.TheVariants.{Enrol, Withdraw, Query, Card, MissingK, Misshapen}
use Rattle.jobs.specs.Job.{job_of}
use Rattle.slip.specs.Output.{letter_of, output_line, laid_at, Laid}
use Rattle.clerk.specs.declared.run.Run.{Run}
use Rattle.clerk.specs.Sheet.{State, ran_job, ran_line, line_output, lines_output, start, sheet_output}

-- what is lent: the table and the answer list
abbrev pub lent : Words → List ℕ → State
lent ws ns = record { words = ws; answers = ns }

-- ---- one line

-- no output line has more bytes: its head, three counts, the line feed, and a tab and digits for each answer
abbrev pub longest_line : ℕ → ℕ
longest_line places = 107 + 21 * places

-- the output line of a job
unfoldable pub job_output : ℕ → State → Job → Bytes
job_output number st job = output_line number (letter_of job) (number_given (ran_job st job).given) (ran_job st job).more

-- what a job leaves behind
pub record RanJob (number : ℕ) (job : Job) (before after : State) (out : Bytes) (at : ℕ) (left : Bytes) (next : ℕ) : Type 0 where
  pub state : after ≡ (ran_job before job).state
  pub laid : Laid out at (job_output number before job) left next

-- what a line leaves behind: the table and the answer list, and its output line in the buffer
pub record RanOne (number : ℕ) (line : Bytes) (before after : State) (out : Bytes) (at : ℕ) (left : Bytes) (next : ℕ) : Type 0 where
  pub state : after ≡ (ran_line before line).state
  pub laid : Laid out at (line_output number before line) left next

-- what a job leaves on the slate: only a query writes on it
abbrev pub slate_of_job : State → Job → Slate → Slate
slate_of_job st (Query a b k) s = slate_left st.words (site a b) k (length st.answers) s
slate_of_job st (Enrol n a b) s = s
slate_of_job st (Withdraw n) s = s
slate_of_job st (Card n k) s = s
slate_of_job st (MissingK letter) s = s
slate_of_job st Misshapen s = s

-- ---- a run of lines

-- where a run stands: the place where the next line starts, its number, the table and the answer list, and the bytes of the lines so far
pub record Stand : Type 0 where
  pub at : ℕ
  pub number : ℕ
  pub state : State
  pub bytes : Bytes

-- before its first line
abbrev pub stand_at : ℕ → ℕ → State → Stand
stand_at at number st = record { at = at; number = number; state = st; bytes = [] }

-- one line more
abbrev pub line_run : Bytes → Stand → Stand
line_run sheet s =
    let line = line_of sheet s.at in
    record {
      at = next_of sheet s.at;
      number = s.number + 1;
      state = (ran_line s.state line).state;
      bytes = s.bytes ++ line_output s.number s.state line;
    }

-- there is a further line, and a buffer of so many bytes has room for its output line
abbrev pub goes_on : Bytes → ℕ → Stand → Bool
goes_on sheet room s = ltb s.at (length sheet) && leb (length s.bytes + longest_line (length s.state.answers)) room

-- line after line, at most n of them
abbrev pub lines_run : ℕ → Bytes → ℕ → Stand → Stand
lines_run zero sheet room s = s
lines_run (suc n) sheet room s = cond (goes_on sheet room s) (lines_run n sheet room (line_run sheet s)) s

-- a run until the sheet's end or until the buffer is full: a sheet has no more lines than bytes
unfoldable pub run_from : Bytes → ℕ → Stand → Stand
run_from sheet room s = lines_run (length sheet) sheet room s

-- what the code gives back and leaves behind where a run stands: its bytes are laid over the front of the buffer
pub record LeftAt (s : Stand) (after : State) (out left : Bytes) (r : Run) : Type 0 where
  pub at : r.at ≡ s.at
  pub number : r.number ≡ s.number
  pub filled : r.filled ≡ length s.bytes
  pub state : after ≡ s.state
  pub laid : left ≡ laid_at out 0 s.bytes

-- what a run of lines promises
pub record RanLines (sheet : Bytes) (at number : ℕ) (before after : State) (out left : Bytes) (r : Run) : Type 0 where
  pub exact : LeftAt (run_from sheet (length out) (stand_at at number before)) after out left r
  -- what follows from that, for a caller that runs on: the table still passes the check, and the answer list is as long as it was
  pub passes : Passes after.words
  pub places : length after.answers ≡ length before.answers
  -- the place goes on, and stays in the sheet
  pub onward : at ≤ r.at
  pub further : at < length sheet → at < r.at
  pub within : r.at ≤ length sheet
  -- each line has a byte at least
  pub numbered : r.number + at ≤ number + r.at
  pub room : r.filled ≤ length out

-- ---- the whole sheet

-- what all lines print that are still to come
abbrev pub rest_output : Bytes → Stand → Bytes
rest_output sheet s = lines_output s.number s.state (lines_of (drop s.at sheet))

-- line by line gives the whole
pub record LineByLine (sheet : Bytes) (room : ℕ) (s : Stand) : Type 0 where
  -- all lines print what a run prints, and then what all lines print from where it ended
  pub goes : s.bytes ≡ [] → rest_output sheet s ≡ (run_from sheet room s).bytes ++ rest_output sheet (run_from sheet room s)
  -- at the end nothing is left
  pub ends : length sheet ≤ s.at → rest_output sheet s ≡ []

-- the same by what the code promises: what is still to be printed is the front of the buffer, and then what is to be printed after the run
abbrev pub RunPrints : Type 0
RunPrints = (sheet : Bytes) (at number : ℕ) (before after : State) (out left : Bytes) (r : Run) → RanLines sheet at number before after out left r
    → rest_output sheet (stand_at at number before) ≡ take r.filled left ++ rest_output sheet (stand_at r.at r.number after)

-- the same place, with an empty buffer
abbrev pub emptied : Stand → Stand
emptied s = record { at = s.at; number = s.number; state = s.state; bytes = [] }

-- what runs print, one after the other until the sheet's end, at most n of them, each with an empty buffer of so many bytes
abbrev pub runs_output : ℕ → Bytes → ℕ → Stand → Bytes
runs_output zero sheet room s = []
runs_output (suc n) sheet room s =
    cond (ltb s.at (length sheet))
    ((run_from sheet room s).bytes ++ runs_output n sheet room (emptied (run_from sheet room s)))
    []

-- a sheet that is not too long, from the start
pub record FromStart (sheet : Bytes) : Type 0 where
  -- what is to be printed is what the program prints
  pub starts : rest_output sheet (stand_at 0 1 start) ≡ sheet_output sheet
  -- and all runs together print it
  pub runs : (room : ℕ) → longest_line MOST ≤ room → runs_output (length sheet) sheet room (stand_at 0 1 start) ≡ sheet_output sheet

abbrev pub WholeSheet : Type 0
WholeSheet = (sheet : Bytes) → length sheet ≤ LONGEST → FromStart sheet

-- ---- any two outcomes that a promise permits are equal

pub record OneOutcome : Type 0 where
  pub line : (number : ℕ) (line : Bytes) (before after after' : State) (out : Bytes) (at : ℕ) (left left' : Bytes) (next next' : ℕ) (s t t' : Slate)
      → RanOne number line before after out at left next → t ≡ slate_of_job before (job_of line) s
      → RanOne number line before after' out at left' next' → t' ≡ slate_of_job before (job_of line) s
      → (after ≡ after') × (left ≡ left') × (next ≡ next') × (t ≡ t')
  pub lines : (sheet : Bytes) (at number : ℕ) (before after after' : State) (out left left' : Bytes) (r r' : Run)
      → RanLines sheet at number before after out left r → RanLines sheet at number before after' out left' r'
      → (after ≡ after') × (left ≡ left') × (r ≡ r')
