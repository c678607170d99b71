-- A query that hands back the answers alone. Its candidate list, of 500, nobody sees: it writes on a slate that is lent to it.
use Rattle.std.specs.Prelude.{ℕ, ◌≡◌, List, ℤ, length, replicate}
use Rattle.words.specs.Word.{nat_of}
use Rattle.grid.specs.declared.site.Site.{Site}
use Rattle.figures.specs.Figures.{MOST}
use Rattle.table.specs.Words.{Words}
use Rattle.record.specs.declared.Candidate.{Candidate}
use Rattle.record.specs.Blank.{none}
use Rattle.table.specs.Given.{if_done}
use Rattle.asking.specs.Slate.{Slate, slate_after}
use Rattle.refusals.specs.Told.{Answered}
use Rattle.refusals.specs.Refusals.{query_gives}
use Rattle.refusals.specs.Cases.{if_short_list}
use Rattle.desk.specs.Calls.{Queried, after_query}

-- a list of 500
unfoldable pub blank_list : List Candidate
blank_list = replicate MOST none

-- the slate after a query with so many places for its answers: one that is granted has written on it, and so has one that is refused for its short answer list; any other refusal leaves it
unfoldable pub slate_left : Words → Site → ℤ → (places : ℕ) → Slate → Slate
slate_left ws q k places s =
    let g = query_gives ws q k MOST places in
    let written = slate_after ws q (nat_of k) s in
    if_done g written (if_short_list g written s)

-- what such a query promises of the slate and of the answer list before and after it, and of what it hands back
pub record AnswersAlone (ws : Words) (q : Site) (k : ℤ) (before after : Slate) (old new : List ℕ) (r : Answered) : Type 0 where
  pub given : r.given ≡ (after_query ws q k blank_list old).given
  pub counts : record { n = r.n; m = r.m; o = r.o } ≡ (after_query ws q k blank_list old).counts
  pub answers : new ≡ (after_query ws q k blank_list old).answers
  pub slate : after ≡ slate_left ws q k (length old) before

-- two queries differ in their candidate lists at most
pub record SameAnswers (a b : Queried) : Type 0 where
  pub given : a.given ≡ b.given
  pub counts : a.counts ≡ b.counts
  pub answers : a.answers ≡ b.answers

-- what stood in the candidate list decides nothing else: only its length counts
abbrev pub AnyList : Type 0
AnyList = (ws : Words) (q : Site) (k : ℤ) (cs ds : List Candidate) (old : List ℕ) → length cs ≡ length ds
    → SameAnswers (after_query ws q k cs old) (after_query ws q k ds old)
