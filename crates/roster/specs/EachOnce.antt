-- Each record behind the header comes through exactly once: it is a line on the output or a report on the error stream, both in file order.
use Rattle.std.specs.Prelude.{ℕ, ◌+◌, ◌≤◌, ◌<◌, ◌≡◌, Bool, true, false, Err, List, [], ◌∷◌, ◌++◌, map, length}
use Rattle.order.specs.Lists.{filter}
use Rattle.table.specs.declared.given.Refusal.TheVariants.{SheetTooLong}
use Rattle.table.specs.Given.{if_done}
use Rattle.sheet.specs.Bytes.{Bytes, LONGEST, lines_of}
use Rattle.jobs.specs.Job.{job_of}
use Rattle.roster.specs.Asked.{asked_by, given_of}
use Rattle.roster.specs.Roster.{report_text, holders_in, sheet_of, reports_of}

-- a record is not refused
abbrev pub is_granted : Bytes → Bool
is_granted item = if_done (given_of item) true false

-- the reports of the records that are, the first record with this number
abbrev pub faults_from : ℕ → List Bytes → List Bytes
faults_from number [] = []
faults_from number (item ∷ items) = if_done (given_of item) [] (report_text number (given_of item) ∷ []) ++ faults_from (number + 1) items

-- what stands on the two streams, read line by line
pub record EachOnce (file : Bytes) : Type 0 where
  -- the output's lines ask, as `./ullagreth` reads them, for what the records ask for that are not refused
  pub enrols : map job_of (lines_of (sheet_of file)) ≡ map asked_by (filter is_granted (holders_in file))
  -- the error stream's lines are the reports of all others
  pub reports : lines_of (reports_of file) ≡ faults_from 1 (holders_in file)
  -- together they are as many as the records
  pub all : length (lines_of (sheet_of file)) + length (lines_of (reports_of file)) ≡ length (holders_in file)
  -- and `./ullagreth` takes the output as a sheet: it is no longer than the list
  pub fits : length (sheet_of file) ≤ length file

abbrev pub AllOnce : Type 0
AllOnce = (file : Bytes) → length file ≤ LONGEST → EachOnce file

-- of a longer file nothing comes through, and one report says so
abbrev pub TooLong : Type 0
TooLong = (file : Bytes) → LONGEST < length file → (lines_of (sheet_of file) ≡ []) × (lines_of (reports_of file) ≡ report_text 0 (Err SheetTooLong) ∷ [])
