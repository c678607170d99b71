-- `clerk::run::run_on` meets its contract, line by line. Assumes nothing.
use Prim.Native.Nat.{◌+◌}
use mathlib.Core.Path.{sym, subst}
use native.Mathlib.Omega.{arith}
use borrow.Author.Rules.{rules}
use Rattle.figures.specs.Figures.{MOST}
use Rattle.sheet.specs.Bytes.{FEED}
use Rattle.sheet.proofs.Parted.{next_beyond}
use Rattle.asking.specs.Slate.{Wide}
use Rattle.desk.proofs.Slates.{same_slate}
use Rattle.clerk.specs.Running.{lent, RanOne}
use Rattle.clerk.proofs.Going.{Going, going_first, going_more}
use Rattle.clerk.proofs.Slates.{wide_job}
use Rattle.clerk.proofs.run.run_on.Goals as goal

pub loop-run-init : goal.loop-run-init
loop-run-init c =
    let a = c.args in
    let before = lent a.table.now a.answers.now in
    let r = c.requires in
    (going_first a.sheet.now a.at a.number before a.out.now (record { long = r.0.0; words = c.are_words.ensures; rules = r.0.1 }) r.2, r.1, search rules)

pub loop-run-smaller : goal.loop-run-smaller
loop-run-smaller c =
    omega (arith, c, next_beyond FEED c.args.sheet.now c.loop-run.run.at (omega (arith, c)), c.next_here.ensures)

pub loop-run-preserved : goal.loop-run-preserved
loop-run-preserved c =
    let o = c.loop-run in
    let a = c.args in
    let sheet = a.sheet.now in
    let y = c.run_line in
    let e = y.new in
    let before = lent a.table.now a.answers.now in
    let now = lent o.table o.answers in
    let after = lent e.table e.answers in
    let ran = subst (λ b. RanOne o.run.number b now after o.out o.run.filled e.slip.out.now e.slip.at) c.line_here-line.ensures y.ensures.ran in
    let going =
    subst (λ n. Going sheet a.at a.number before a.out.now after e.slip.out.now (record { at = n; number = o.run.number + 1; filled = e.slip.at })) (sym c.next_here.ensures)
    (going_more sheet a.at a.number before a.out.now o.invariant.0 (omega (arith, c)) (omega (arith, c)) ran y.auto.answers) in (
      subst (λ left. Going sheet a.at a.number before a.out.now after left (record { at = c.next_here.result; number = o.run.number + 1; filled = e.slip.at })) (search rules) going,
      subst (Wide MOST) (sym y.ensures.slate) (wide_job now _ o.invariant.1),
      same_slate o.invariant.2 y.ensures.lent,
    )
