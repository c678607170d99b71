-- The theorems that each record comes through once and that nothing comes through of a file too long: the texts of both streams have no line feed, so they are the lines that are read back, and an enrolment's fields are the three numbers. By recursion on the records. Assumes nothing.
use Prim.Native.Nat.{ℕ, ◌+◌}
use mathlib.Core.Path.{◌≡◌, refl, sym, ap, ◌∙◌}
use mathlib.Core.Bool.{true, false}
use mathlib.Core.List.{List, [], ◌∷◌, map, append-nil}
use native.Mathlib.Omega.{arith}
use Rattle.std.specs.Prelude.{Err}
use lib.ListN.{length, length-map}
use Rattle.order.specs.Lists.{count, every, filter, join}
use Rattle.order.proofs.Lists.{length_filter}
use Rattle.table.specs.declared.given.Refusal.TheVariants.{SheetTooLong}
use Rattle.table.specs.Given.{Given, number_given}
use Rattle.limits.proofs.Refused.{by_done}
use Rattle.sheet.specs.Bytes.{Bytes, TAB, FEED, lines_of, fields_of}
use Rattle.sheet.proofs.Parted.{lines_none}
use Rattle.jobs.specs.Job.{ENROL, enrol_job, by_fields, job_of}
use Rattle.slip.specs.Output.{decimal, tabbed}
use Rattle.csv_grammar.specs.Grammar.{unquoted, is_record, said_by}
use Rattle.roster.specs.Asked.{asked_by, given_of}
use Rattle.roster.specs.Roster.{enrol_text, report_text, as_line, line_for, report_for, reports_from, holders_in}
use Rattle.roster.specs.EachOnce.{is_granted, faults_from, AllOnce, TooLong}
use Rattle.roster.proofs.Numerals.{is_numeral, without, clean}
use Rattle.roster.proofs.Holders.{Holder, holder}
use Rattle.roster.proofs.Going.{sheet_short, reports_short, sheet_long, reports_long, sheet_fits}
use Rattle.roster.proofs.Joined.{without_append, without_tabbed, without_decimal, fields_tabbed, lines_first}

-- ---- the text of a record

module _ {item : Bytes} (h : Holder item) where
  -- its numbers
  abbrev said_in : List Bytes
  said_in = unquoted h.number ∷ unquoted h.x ∷ unquoted h.y ∷ []

  said_clean : (mark : ℕ) → is_numeral mark ≡ false → every (without mark) said_in ≡ true
  said_clean mark f =
      rw (clean mark f (unquoted h.number) h.numbered, clean mark f (unquoted h.x) h.east, clean mark f (unquoted h.y) h.north)

  text_is : enrol_text (said_by item) ≡ ENROL ∷ tabbed said_in
  unfolding enrol_text said_by
  text_is = rw h.parts

  text_line : without FEED (enrol_text (said_by item)) ≡ true
  text_line = rw text_is (without_tabbed FEED said_in refl (said_clean FEED refl))

  -- what it asks for as a line is what the record asks for
  text_asks : job_of (enrol_text (said_by item)) ≡ enrol_job said_in
  unfolding job_of fields_of
  text_asks = ap job_of text_is ∙ ap by_fields (fields_tabbed (ENROL ∷ []) said_in refl (said_clean TAB refl))

  record_asks : asked_by item ≡ enrol_job said_in
  unfolding asked_by is_record said_by
  record_asks = rw (h.parts, h.sound)

report_line : (number : ℕ) (g : Given) → without FEED (report_text number g) ≡ true
unfolding report_text
report_line number g =
    let digits : (n : ℕ) → without FEED (decimal n) ≡ true = λ n. without_decimal FEED n (omega arith) in
    without_append FEED (decimal number) (tabbed (decimal (number_given g) ∷ [])) (digits number)
    (without_tabbed FEED (decimal (number_given g) ∷ []) refl (rw (digits (number_given g))))

-- ---- the lines of both streams

enrol_lines_lem : (items : List Bytes) → map job_of (lines_of (join line_for items)) ≡ map asked_by (filter is_granted items)
unfolding line_for
enrol_lines_lem [] = ap (map job_of) lines_none
enrol_lines_lem (item ∷ items) =
    let text = enrol_text (said_by item) in
    let ih = enrol_lines_lem items in
    by_done (given_of item)
    (λ e. rw (e, lines_first text (join line_for items) (text_line (holder item e)), text_asks (holder item e), record_asks (holder item e), ih))
    (λ r. rw (r.done (as_line text) [], r.done true false, ih))

report_lines : (number : ℕ) (items : List Bytes) → lines_of (reports_from number items) ≡ faults_from number items
unfolding report_for
report_lines number [] = lines_none
report_lines number (item ∷ items) =
    let text = report_text number (given_of item) in
    let ih = report_lines (number + 1) items in
    by_done (given_of item)
    (λ e. rw (e, ih))
    (λ r. rw (r.done [] (as_line text), r.done [] (text ∷ []), lines_first text (reports_from (number + 1) items) (report_line number (given_of item)), ih))

-- ---- how many

enrols_many : (items : List Bytes) → length (lines_of (join line_for items)) ≡ count is_granted items
enrols_many items =
    omega (arith, simp length-map at (ap length (enrol_lines_lem items)), length_filter is_granted items)

both_many : (number : ℕ) (items : List Bytes) → count is_granted items + length (faults_from number items) ≡ length items
both_many number [] = refl
both_many number (item ∷ items) =
    let ih = both_many (number + 1) items in
    by_done (given_of item)
    (λ e. rw e (omega arith))
    (λ r. rw (r.done true false, r.done [] (report_text number (given_of item) ∷ [])) (omega arith))

-- ---- a file that is not too long, and one that is

pub all_once : AllOnce
all_once file h =
    let items = holders_in file in
    record {
      enrols = rw (sheet_short file h) (enrol_lines_lem items);
      reports = rw (reports_short file h) (report_lines 1 items);
      all = rw (sheet_short file h, reports_short file h, enrols_many items, report_lines 1 items) (both_many 1 items);
      fits = sheet_fits file h;
    }

-- the one report
alone : (text : Bytes) → without FEED text ≡ true → lines_of (as_line text) ≡ text ∷ []
alone text e = ap lines_of (sym (append-nil (as_line text))) ∙ lines_first text [] e ∙ ap (λ ls. text ∷ ls) lines_none

pub too_long : TooLong
too_long file h = rw (sheet_long file h, reports_long file h) (lines_none, alone (report_text 0 (Err SheetTooLong)) (report_line 0 (Err SheetTooLong)))
