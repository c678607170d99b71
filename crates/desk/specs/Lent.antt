-- A query as the code has it: the candidate list is lent as a row of records.
use Rattle.std.specs.Prelude.{ℕ, ◌≡◌, List, ℤ}
use Rattle.grid.specs.declared.site.Site.{Site}
use Rattle.table.specs.Words.{Words}
use Rattle.record.specs.declared.Candidate.{Candidate}
use Rattle.refusals.specs.Told.{Answered}
use Rattle.desk.specs.Calls.{Queried, after_query}

-- what the code hands back, and the two lists
abbrev pub queried : Answered → List Candidate → List ℕ → Queried
queried r candidates answers = record {
  given = r.given;
  counts = record { n = r.n; m = r.m; o = r.o };
  candidates = candidates;
  answers = answers;
}

-- what a query promises of the two lists before and after it, and of what it hands back
abbrev pub Answers : Words → Site → ℤ → (before after : List Candidate) (old new : List ℕ) → Answered → Type 0
Answers ws q k before after old new r = queried r after new ≡ after_query ws q k before old
