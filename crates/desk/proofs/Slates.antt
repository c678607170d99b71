-- What a query leaves on the slate that is lent to it: it stays as wide, and queries that run one after the other write on one slate. Assumes nothing.
use Prim.Native.Nat.{ℕ, ◌≤◌}
use mathlib.Core.Path.{refl, ◌∙◌}
use mathlib.Core.List.{List}
use native.Mathlib.Omega.{arith}
use lib.IntN.{ℤ}
use lib.ListN.{length, drop, length-append, length-drop}
use Rattle.words.specs.Word.{nat_of}
use Rattle.grid.specs.declared.place.Place.{Place}
use Rattle.grid.specs.declared.site.Site.{Site}
use Rattle.figures.specs.Figures.{MOST}
use Rattle.table.specs.Words.{Words}
use Rattle.table.specs.declared.node.Entry.{Entry}
use Rattle.filter.specs.Query.{laid_over}
use Rattle.filter.specs.Rows.{Rows, Room, laid_in}
use Rattle.asking.specs.Slate.{Slate, Wide, SameSlate, slate_after}
use Rattle.asking.specs.declared.slate.Slate.{Slate as Lent}
use Rattle.refusals.specs.Refusals.{query_gives}
use Rattle.refusals.proofs.Given.{by_given}
use Rattle.desk.specs.Alone.{slate_left}

-- ---- as wide

-- what is laid over the front of a row takes no place from it
still : {A : Type 0} {n : ℕ} (new old : List A) → n ≤ length old → n ≤ length (laid_over new old)
still new old h = omega (arith, length-append new (drop (length new) old), length-drop (length new) old)

room_laid : {n : ℕ} {r : Rows} (q : Place) (cs : List Entry) → Room n r → Room n (laid_in q cs r)
unfolding laid_in
room_laid q cs h = record { numbers = still _ _ h.numbers; xs = still _ _ h.xs; ys = still _ _ h.ys; bars = still _ _ h.bars }

wide_after : {n : ℕ} {s : Slate} (ws : Words) (q : Site) (k : ℕ) → Wide n s → Wide n (slate_after ws q k s)
unfolding slate_after
wide_after ws q k h = record { noted = room_laid _ _ h.noted; kept = still _ _ h.kept }

pub wide_left : {n : ℕ} {s : Slate} (ws : Words) (q : Site) (k : ℤ) (places : ℕ) → Wide n s → Wide n (slate_left ws q k places s)
unfolding slate_left
wide_left {n} {s} ws q k places h =
    let w = wide_after ws q (nat_of k) h in
    let g = query_gives ws q k MOST places in
    by_given g (λ e. rw e w) (λ e. rw e w) (λ p. rw (p.done _ _, p.few _ _) h)

-- ---- one slate

pub slate_itself : (s : Lent) → SameSlate s s
slate_itself s = record { numbers = refl; xs = refl; ys = refl; bars = refl; kept = refl }

pub same_slate : {a b c : Lent} → SameSlate a b → SameSlate b c → SameSlate a c
same_slate p q = record {
  numbers = q.numbers ∙ p.numbers;
  xs = q.xs ∙ p.xs;
  ys = q.ys ∙ p.ys;
  bars = q.bars ∙ p.bars;
  kept = q.kept ∙ p.kept;
}
