-- A query for the answers alone: what it asks, and what it leaves.
use Rattle.std.specs.Prelude.{ℕ, ◌≡◌, true, cond, List, leb, length}
use Rattle.words.specs.Word.{on_grid}
use Rattle.grid.specs.declared.site.Site.{Site}
use Rattle.table.specs.Words.{Words, points_of}
use Rattle.rules.specs.Rules.{Passing}
use Rattle.filter.specs.Query.{found, answers_found, laid_over}
use Rattle.asking.specs.declared.answer.Reply.{Reply}
use Rattle.asking.specs.Slate.{Slate, Wide, slate_after}

-- the table passes the check, q is on the grid, and every point has room on the slate
pub record Askable (ws : Words) (q : Site) (s : Slate) : Type 0 where
  pub table : Passing ws
  pub x : on_grid q.x ≡ true
  pub y : on_grid q.y ≡ true
  pub room : Wide (points_of ws) s

-- the answer list gets the answers if it has room for them
abbrev pub answers_in : Words → Site → ℕ → List ℕ → List ℕ
answers_in ws q k old = cond (leb (length (answers_found ws q k)) (length old)) (laid_over (answers_found ws q k) old) old

-- what a query for the answers alone leaves
pub record Replied (ws : Words) (q : Site) (k : ℕ) (before after : Slate) (old new : List ℕ) (r : Reply) : Type 0 where
  -- n answers, m candidates, o nodes opened
  pub n : r.n ≡ length (answers_found ws q k)
  pub m : r.m ≡ length (found ws q k).candidates
  pub o : r.o ≡ (found ws q k).opened
  -- the slate gets the candidates, and the numbers of those that pass
  pub slate : after ≡ slate_after ws q k before
  pub answers : new ≡ answers_in ws q k old
