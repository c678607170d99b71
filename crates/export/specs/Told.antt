-- A query for C and Rust programs: its answer is a number, the three counts go to a lent row, and where the table is bad to another.
use Rattle.std.specs.Prelude.{ℕ, ◌≡◌, List, [], ◌∷◌, ℤ}
use Rattle.grid.specs.declared.site.Site.{Site}
use Rattle.table.specs.Words.{Words}
use Rattle.table.specs.Given.{number_given}
use Rattle.filter.specs.Query.{Counts}
use Rattle.record.specs.declared.Candidate.{Candidate}
use Rattle.desk.specs.Calls.{after_query}
use Rattle.export.specs.Front.{front_laid}
use Rattle.export.specs.Where.{fault_laid}

-- n, m and o, for a row of three places
abbrev pub counts_laid : Counts → List ℕ → List ℕ
counts_laid c row = front_laid (c.n ∷ c.m ∷ c.o ∷ []) row

-- what the caller is told, and what each lent list holds afterwards
pub record Told (ws : Words) (q : Site) (k : ℤ) (before after : List Candidate) (old new row told : List ℕ) (was fault : List ℤ) (r : ℕ) : Type 0 where
  pub given : r ≡ number_given (after_query ws q k before old).given
  pub candidates : after ≡ (after_query ws q k before old).candidates
  pub answers : new ≡ (after_query ws q k before old).answers
  pub counts : told ≡ counts_laid (after_query ws q k before old).counts row
  pub where_bad : fault ≡ fault_laid (after_query ws q k before old).given was

-- any two outcomes that this permits are equal
abbrev pub ToldOnce : Type 0
ToldOnce = (ws : Words) (q : Site) (k : ℤ) (before after after' : List Candidate) (old new new' row told told' : List ℕ) (was fault fault' : List ℤ) (r r' : ℕ)
    → Told ws q k before after old new row told was fault r → Told ws q k before after' old new' row told' was fault' r'
    → (after ≡ after') × (new ≡ new') × (told ≡ told') × (fault ≡ fault') × (r ≡ r')
