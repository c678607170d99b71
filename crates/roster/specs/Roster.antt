-- 02 §5: what a station list becomes, on the output and on the error stream.
use Rattle.std.specs.Prelude.{ℕ, ◌+◌, cond, Err, List, [], ◌∷◌, ◌++◌, ltb, length, take, drop}
use Rattle.order.specs.Lists.{join}
use Rattle.table.specs.declared.given.Refusal.TheVariants.{SheetTooLong}
use Rattle.table.specs.Given.{Given, number_given, if_done}
use Rattle.sheet.specs.Bytes.{Bytes, FEED, LONGEST}
use Rattle.jobs.specs.Job.{ENROL}
use Rattle.slip.specs.Output.{decimal, tabbed}
use Rattle.cuts.specs.Cuts.{records_of}
use Rattle.csv_grammar.specs.Grammar.{said_by}
use Rattle.roster.specs.Asked.{given_of}

-- "E", number, x, y: the first three fields
unfoldable pub enrol_text : List Bytes → Bytes
enrol_text fields = ENROL ∷ tabbed (take 3 fields)

-- record number, a tab, refusal number
unfoldable pub report_text : ℕ → Given → Bytes
report_text number given = decimal number ++ tabbed (decimal (number_given given) ∷ [])

-- each as a line
abbrev pub as_line : Bytes → Bytes
as_line text = text ++ FEED ∷ []

-- what a record adds to the output, and what to the error stream
unfoldable pub line_for : Bytes → Bytes
line_for item = if_done (given_of item) (as_line (enrol_text (said_by item))) []

unfoldable pub report_for : ℕ → Bytes → Bytes
report_for number item = if_done (given_of item) [] (as_line (report_text number (given_of item)))

-- the reports of records in file order, the first of them with this number
abbrev pub reports_from : ℕ → List Bytes → Bytes
reports_from number [] = []
reports_from number (item ∷ items) = report_for number item ++ reports_from (number + 1) items

-- the records behind the header, which is record 0 and unchecked
unfoldable pub holders_in : Bytes → List Bytes
holders_in file = drop 1 (records_of file)

-- the output: the E lines of a job sheet in file order; nothing of a file over 65,536 bytes
unfoldable pub sheet_of : Bytes → Bytes
sheet_of file = cond (ltb LONGEST (length file)) [] (join line_for (holders_in file))

-- the error stream: the reports in file order; of a file over 65,536 bytes 12 alone, with record number 0
unfoldable pub reports_of : Bytes → Bytes
reports_of file = cond (ltb LONGEST (length file)) (as_line (report_text 0 (Err SheetTooLong))) (reports_from 1 (holders_in file))
