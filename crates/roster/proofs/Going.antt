-- From record to record through a list: what the records from a place on add to both streams, and how much room that takes. By the laws of the cuts. Assumes nothing.
use Prim.Native.Nat.{ℕ, zero, suc, ◌+◌, ◌-◌, ◌*◌, ◌≤◌, ◌<◌}
use mathlib.Core.Path.{◌≡◌, sym, ap, ◌∙◌}
use mathlib.Core.List.{[], ◌++◌}
use native.Mathlib.Omega.{arith}
use native.Mathlib.Decide.{dec_lt}
use mathlib.Core.Logic.{◌⊎◌, inl, inr, ⊎_elim}
use Rattle.std.specs.Prelude.{Err}
use lib.ListN.{length, drop, length-append}
use lib.Seq.{length-take-le}
use borrow.Author.Tests.{lt-ltb, le-ltb}
use Rattle.order.specs.Lists.{join}
use Rattle.sheet.specs.Bytes.{Bytes, LONGEST}
use Rattle.table.specs.declared.given.Refusal.TheVariants.{SheetTooLong}
use Rattle.cuts.specs.declared.parts.Mark.TheVariants.{LineEnd}
use Rattle.cuts.specs.Cuts.{end_of, records_of}
use Rattle.cuts.specs.Places.{stop_at, part_at, next_at}
use Rattle.cuts.proofs.Parted.{end_most, records_more, records_done, next_more, next_last, next_beyond, next_within, stop_within}
use Rattle.roster.specs.Roster.{as_line, report_text, line_for, report_for, reports_from, holders_in, sheet_of, reports_of}
use Rattle.roster.proofs.Holders.{line_most, report_most}

-- ---- what is to come

-- behind the header
pub holders_start : (file : Bytes) → holders_in file ≡ records_of (drop (next_at LineEnd file 0) file)
unfolding holders_in
holders_start file = go (dec_lt 0 (length file))
  where
    go : Dec (0 < length file) → drop 1 (records_of file) ≡ records_of (drop (next_at LineEnd file 0) file)
    go (yes h) = ap (drop 1) (records_more file 0 h)
    go (no h) = ap (drop 1) (records_done file 0 (omega arith)) ∙ sym (records_done file (next_at LineEnd file 0) (omega arith))

pub lines_next : (file : Bytes) (at : ℕ) → at < length file
    → join line_for (records_of (drop at file)) ≡ line_for (part_at LineEnd file at) ++ join line_for (records_of (drop (next_at LineEnd file at) file))
lines_next file at h = ap (join line_for) (records_more file at h)

pub reports_next : (file : Bytes) (at number : ℕ) → at < length file
    → reports_from number (records_of (drop at file)) ≡ report_for number (part_at LineEnd file at) ++ reports_from (number + 1) (records_of (drop (next_at LineEnd file at) file))
reports_next file at number h = ap (reports_from number) (records_more file at h)

pub lines_end : (file : Bytes) (at : ℕ) → length file ≤ at → join line_for (records_of (drop at file)) ≡ []
lines_end file at h = ap (join line_for) (records_done file at h)

pub reports_end : (file : Bytes) (at number : ℕ) → length file ≤ at → reports_from number (records_of (drop at file)) ≡ []
reports_end file at number h = ap (reports_from number) (records_done file at h)

-- ---- the whole

pub sheet_short : (file : Bytes) → length file ≤ LONGEST → sheet_of file ≡ join line_for (holders_in file)
unfolding sheet_of
sheet_short file h = rw (le-ltb LONGEST (length file) h)

pub reports_short : (file : Bytes) → length file ≤ LONGEST → reports_of file ≡ reports_from 1 (holders_in file)
unfolding reports_of
reports_short file h = rw (le-ltb LONGEST (length file) h)

pub sheet_long : (file : Bytes) → LONGEST < length file → sheet_of file ≡ []
unfolding sheet_of
sheet_long file h = rw (lt-ltb LONGEST (length file) h)

pub reports_long : (file : Bytes) → LONGEST < length file → reports_of file ≡ as_line (report_text 0 (Err SheetTooLong))
unfolding reports_of
reports_long file h = rw (lt-ltb LONGEST (length file) h)

-- ---- the room

-- a record ends where the next starts, or two bytes before
part_length : (file : Bytes) (at : ℕ) → at ≤ length file → at + length (part_at LineEnd file at) ≡ stop_at LineEnd file at
unfolding part_at stop_at
part_length file at h = omega (arith, length-take-le (end_of LineEnd (drop at file)) (drop at file) (end_most LineEnd (drop at file)))

-- by whether a line end follows
record_end : (file : Bytes) (at : ℕ) → at < length file
    → (next_at LineEnd file at ≡ at + length (part_at LineEnd file at) + 2) ⊎ ((next_at LineEnd file at ≡ length file) × (at + length (part_at LineEnd file at) ≡ length file))
record_end file at h = go (dec_lt (stop_at LineEnd file at) (length file))
  where
    go : Dec (stop_at LineEnd file at < length file)
        → (next_at LineEnd file at ≡ at + length (part_at LineEnd file at) + 2) ⊎ ((next_at LineEnd file at ≡ length file) × (at + length (part_at LineEnd file at) ≡ length file))
    go (yes l) = inl (omega (arith, next_more LineEnd file at l, part_length file at (omega arith)))
    go (no l) =
        let whole : stop_at LineEnd file at ≡ length file = omega (arith, stop_within LineEnd file at (omega arith)) in
        inr (next_last LineEnd file at (omega arith) ∙ whole, part_length file at (omega arith) ∙ whole)

-- where a further record follows, a line end does
line_ended : (file : Bytes) (at : ℕ) → at < length file → next_at LineEnd file at < length file → next_at LineEnd file at ≡ at + length (part_at LineEnd file at) + 2
line_ended file at h l = ⊎_elim (λ e. e) (λ e. absurd (omega arith)) (record_end file at h)

-- where a record follows: two bytes more than the lines have were passed, nine for each two of the reports, two for each record
pub record Room (file : Bytes) (at number lines reports : ℕ) : Type 0 where
  pub lined : at < length file → lines + 2 ≤ at
  pub told : at < length file → 2 * reports ≤ 9 * at
  pub numbered : at < length file → 2 * number ≤ at

pub first_room : (file : Bytes) → Room file (next_at LineEnd file 0) 1 0 0
first_room file =
    let far : next_at LineEnd file 0 < length file → 2 ≤ next_at LineEnd file 0 = λ h. omega (arith, line_ended file 0 (omega arith) h) in
    record { lined = far; told = λ h. omega arith; numbered = far }

-- one record more
module _ (file : Bytes) (at number lines reports : ℕ) (r : Room file at number lines reports) (h : at < length file) where
  pub line_fits : lines + (2 + length (part_at LineEnd file at)) ≤ length file
  line_fits = omega (arith, r.lined h, part_length file at (omega arith), stop_within LineEnd file at (omega arith))

  pub report_fits : 2 * reports ≤ 9 * length file
  report_fits = omega (arith, r.told h)

  pub next_room : length file ≤ LONGEST
      → Room file (next_at LineEnd file at) (number + 1) (lines + length (line_for (part_at LineEnd file at))) (reports + length (report_for number (part_at LineEnd file at)))
  next_room short =
      let item = part_at LineEnd file at in
      let line = line_most item in
      let report = report_most number item (omega (arith, r.numbered h)) in
      record {
        lined = λ l. omega (arith, r.lined h, line, line_ended file at h l);
        told = λ l. omega (arith, r.told h, report, line_ended file at h l);
        numbered = λ l. omega (arith, r.numbered h, line_ended file at h l);
      }

-- ---- the job sheet is no longer than the list

lines_fit : (file : Bytes) (n at : ℕ) → length file ≤ n + at → length (join line_for (records_of (drop at file))) + at ≤ length file + 2 + (at - length file)
lines_fit file zero at h = rw (lines_end file at (omega arith)) (omega arith)
lines_fit file (suc n) at h =
    elim (dec_lt at (length file)) [
      | yes l ↦
          let item = part_at LineEnd file at in
          let next = next_at LineEnd file at in
          let rest = lines_fit file n next (omega (arith, next_beyond LineEnd file at l)) in
          rw (lines_next file at l)
          (⊎_elim
          (λ e. omega (arith, length-append (line_for item) (join line_for (records_of (drop next file))), line_most item, rest, next_within LineEnd file at (omega arith)))
          (λ e. omega (arith, length-append (line_for item) (join line_for (records_of (drop next file))), line_most item, ap length (lines_end file next (omega arith))))
          (record_end file at l))
      | no l ↦ rw (lines_end file at (omega arith)) (omega arith)
    ]

pub sheet_fits : (file : Bytes) → length file ≤ LONGEST → length (sheet_of file) ≤ length file
sheet_fits file short =
    elim (dec_lt (next_at LineEnd file 0) (length file)) [
      | yes l ↦ rw (sheet_short file short, holders_start file)
          (omega (arith, lines_fit file (length file) (next_at LineEnd file 0) (omega arith), (first_room file).lined l))
      | no l ↦ rw (sheet_short file short, holders_start file, lines_end file (next_at LineEnd file 0) (omega arith)) (omega arith)
    ]
