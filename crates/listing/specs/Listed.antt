-- A query that lists its candidates too: what it asks, and what it leaves.
use Rattle.std.specs.Prelude.{ℕ, ◌≤◌, ◌≡◌, true, List, length}
use Rattle.words.specs.Word.{on_grid}
use Rattle.grid.specs.declared.site.Site.{Site}
use Rattle.table.specs.Words.{Words, points_of}
use Rattle.rules.specs.Rules.{Passing}
use Rattle.filter.specs.Query.{found, records_found, answers_found, laid_over}
use Rattle.record.specs.declared.Candidate.{Candidate}
use Rattle.asking.specs.declared.answer.Reply.{Reply}
use Rattle.asking.specs.Asked.{answers_in}

-- the table passes the check, q is on the grid, and every point has room in the list
pub record Listable (ws : Words) (q : Site) (places : ℕ) : Type 0 where
  pub table : Passing ws
  pub x : on_grid q.x ≡ true
  pub y : on_grid q.y ≡ true
  pub room : points_of ws ≤ places

pub record Listed (ws : Words) (q : Site) (k : ℕ) (before after : List Candidate) (old new : List ℕ) (r : Reply) : Type 0 where
  -- n answers, m candidates, o nodes opened
  pub n : r.n ≡ length (answers_found ws q k)
  pub m : r.m ≡ length (found ws q k).candidates
  pub o : r.o ≡ (found ws q k).opened
  -- the candidate list gets the candidates
  pub candidates : after ≡ laid_over (records_found ws q k) before
  pub answers : new ≡ answers_in ws q k old
