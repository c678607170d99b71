-- The invariant: the counts of the places passed lie over the front of the row, and the slate is still the one that was lent, with room.
use mathlib.Core.Path.{◌≡◌}
use Rattle.figures.specs.Figures.{MOST}
use Rattle.filter.specs.Query.{laid_over}
use Rattle.asking.specs.Slate.{slate_of, Wide, SameSlate}
use Rattle.export.specs.Sites.{counts_at}
use Rattle.export.proofs.sites.count_all.Given as goal

abbrev pub invariant-loop-i : goal.invariant-loop-i
invariant-loop-i l = record {
  counts : l.counts ≡ laid_over (counts_at l.table l.k l.xs l.ys l.i) l.initial.counts;
  wide : Wide MOST (slate_of l.slate);
  lent : SameSlate l.initial.slate l.slate;
}
