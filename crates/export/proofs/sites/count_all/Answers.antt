-- `sites::count_all` meets its contract, by the loop's invariant. Assumes nothing.
use Prim.Native.Nat.{◌<◌, min}
use native.Mathlib.Omega.{arith}
use native.Mathlib.Numerals.{add-one}
use mathlib.Core.Path.{◌≡◌, ◌∙◌}
use lib.IntN.{pos}
use lib.ListN.{length, get_or}
use borrow.Author.Rules.{rules}
use mir.Syntax.{w32}
use mir.Val.{SFits}
use Rattle.grid.specs.Site.{site}
use Rattle.limits.proofs.CallTests.{back, one_passed, two_passed}
use Rattle.desk.proofs.Slates.{slate_itself, same_slate}
use Rattle.export.specs.Sites.{site_count, counts_over}
use Rattle.export.proofs.SiteLaws.{counts_start, counts_step, counts_end}
use Rattle.export.proofs.sites.count_all.Goals as goal

pub loop-i-init : goal.loop-i-init
loop-i-init c =
    let a = c.args in
    record { counts = counts_start a.table.now (back a.k) a.xs.now a.ys.now a.counts.now; wide = c.requires.1; lent = slate_itself _ }

pub loop-i-preserved : goal.loop-i-preserved
loop-i-preserved c =
    let a = c.args in
    let l = c.loop-i in
    let ws = a.table.now in
    let xs = a.xs.now in
    let ys = a.ys.now in
    let below : l.i < min (min (length xs) (length ys)) (length a.counts.now) = omega arith in
    let x = get_or xs l.i (pos 0) in
    let y = get_or ys l.i (pos 0) in
    let fits_x : SFits w32 x = search rules in
    let fits_y : SFits w32 y = search rules in
    let n = two_passed (λ u v. site_count ws (back a.k) (site u v)) x y fits_x fits_y c.count_at.ensures.count in
    record {
      counts = rw add-one (counts_step ws (back a.k) xs ys a.counts.now l.counts l.i c.count_at.result (omega arith) (omega arith) (omega arith) l.invariant.counts n);
      wide = c.count_at.ensures.wide;
      lent = same_slate l.invariant.lent c.count_at.ensures.lent;
    }

pub returns-clause-counts : goal.returns-clause-counts
returns-clause-counts c =
    let a = c.args in
    let l = c.loop-i in
    let xs = a.xs.now in
    let ys = a.ys.now in
    let row = a.counts.now in
    let n : l.i ≡ min (min (length xs) (length ys)) (length row) = omega arith in
    one_passed (λ k. counts_over a.table.now k xs ys row) a.k c.ranges.k (l.invariant.counts ∙ counts_end a.table.now (back a.k) xs ys row l.i n)
