-- `roster::list::lay_list` meets its contract. The loop's invariant: what stands on each slip, and then what the records from `at` on add to it, is the whole; where a record follows, there is room for what it adds; and the buffers stay the same. Assumes nothing.
use mathlib.Core.Path.{refl, ap, ◌∙◌}
use native.Mathlib.Omega.{arith}
use lib.ListN.{length}
use Rattle.order.specs.Lists.{join}
use Rattle.cuts.specs.declared.parts.Mark.TheVariants.{LineEnd}
use Rattle.cuts.specs.Places.{part_at}
use Rattle.cuts.proofs.Parted.{next_beyond}
use Rattle.roster.specs.Roster.{line_for, reports_from, holders_in}
use Rattle.roster.proofs.Holders.{line_most, report_most}
use Rattle.roster.proofs.Copied.{nothing_laid, so_far_none, so_far_more, so_far_all, so_far_long}
use Rattle.roster.proofs.Going.{first_room, next_room, line_fits, report_fits, holders_start, lines_next, reports_next, lines_end, reports_end, sheet_short, reports_short, sheet_long, reports_long}
use Rattle.roster.proofs.list.lay_list.Goals as goal

pub returns-then-file-gt-LONGEST-clause-laid : goal.returns-then-file-gt-LONGEST-clause-laid
returns-then-file-gt-LONGEST-clause-laid c =
    rw (sheet_long c.args.file.now c.if-file-gt-LONGEST.true, c.requires.0) (nothing_laid c.args.lines.now.out.now 0)

pub returns-then-file-gt-LONGEST-clause-laid_2 : goal.returns-then-file-gt-LONGEST-clause-laid_2
returns-then-file-gt-LONGEST-clause-laid_2 c =
    rw (reports_long c.args.file.now c.if-file-gt-LONGEST.true) (rw c.requires.1 at c.put_report.ensures.laid)

pub loop-at-init : goal.loop-at-init
loop-at-init c =
    let a = c.args in
    let file = a.file.now in
    rw (c.next_at-at.ensures, ← holders_start file, c.requires.0, c.requires.1) (
      so_far_none a.lines.now.out.now (join line_for (holders_in file)),
      so_far_none a.reports.now.out.now (reports_from 1 (holders_in file)),
      first_room file,
      refl,
      refl,
    )

pub put_record-requires : goal.put_record-requires
put_record-requires c =
    let l = c.loop-at in
    let file = c.args.file.now in
    let fits = line_fits file _ _ _ _ l.invariant.2 c.loop-at-test.true in
    let told = report_fits file _ _ _ _ l.invariant.2 c.loop-at-test.true in
    let short = c.if-file-gt-LONGEST.false in (
      omega (arith, fits, ap length c.part_at.ensures, short, so_far_long l.invariant.0 (omega (arith, fits, short))),
      omega (arith, told, short, so_far_long l.invariant.1 (omega (arith, told, short))),
    )

pub loop-at-smaller : goal.loop-at-smaller
loop-at-smaller c =
    let file = c.args.file.now in
    omega (arith, c.next_at-at-in-loop-at.ensures, next_beyond LineEnd file c.loop-at.at c.loop-at-test.true)

pub loop-at-preserved : goal.loop-at-preserved
loop-at-preserved c =
    let l = c.loop-at in
    let file = c.args.file.now in
    let more = c.loop-at-test.true in
    let short = c.if-file-gt-LONGEST.false in
    let r = c.put_record in
    let room = l.invariant.2 in
    let fits = line_fits file _ _ _ _ room more in
    let told = report_fits file _ _ _ _ room more in
    let lined = rw c.part_at.ensures at r.ensures.laid in
    let reported = rw c.part_at.ensures at r.ensures.laid_2 in
    rw c.next_at-at-in-loop-at.ensures (
      so_far_more (lines_next file l.at more) l.invariant.0 (omega (arith, short, fits, line_most (part_at LineEnd file l.at))) lined,
      so_far_more (reports_next file l.at l.number more) l.invariant.1 (omega (arith, short, told, report_most l.number (part_at LineEnd file l.at) (omega (arith, room.numbered more, short)))) reported,
      rw (lined.behind, reported.behind) (next_room file l.at l.number _ _ room more short),
      r.ensures.same_lines ∙ l.invariant.3,
      r.ensures.same_reports ∙ l.invariant.4,
    )

pub returns-clause-laid : goal.returns-clause-laid
returns-clause-laid c =
    let file = c.args.file.now in
    rw (sheet_short file c.if-file-gt-LONGEST.false) (so_far_all (lines_end file c.loop-at.at c.loop-at-test.false) c.loop-at.invariant.0)

pub returns-clause-laid_2 : goal.returns-clause-laid_2
returns-clause-laid_2 c =
    let l = c.loop-at in
    let file = c.args.file.now in
    rw (reports_short file c.if-file-gt-LONGEST.false) (so_far_all (reports_end file l.at l.number c.loop-at-test.false) l.invariant.1)
