-- A card for C and Rust programs: its answer is a number, how many names it has goes to a lent row, and where the table is bad to another. And the cards of many stations, for one check of the table.
use Rattle.std.specs.Prelude.{ℕ, ◌≡◌, cond, List, [], ◌∷◌, ◌++◌, ltb, ℤ, length, take, drop}
use Rattle.table.specs.Words.{Words}
use Rattle.table.specs.Given.{number_given, if_done}
use Rattle.audit.specs.Check.{check_gives}
use Rattle.desk.specs.Calls.{after_card}
use Rattle.export.specs.Front.{front_laid}
use Rattle.export.specs.Where.{fault_laid}

-- how many names, for a row of one place
abbrev pub names_laid : ℕ → List ℕ → List ℕ
names_laid names row = front_laid (names ∷ []) row

-- what the caller is told, and what each lent list holds afterwards
pub record ToldCard (ws : Words) (n k : ℤ) (old new row told : List ℕ) (was fault : List ℤ) (r : ℕ) : Type 0 where
  pub given : r ≡ number_given (after_card ws n k old).given
  pub list : new ≡ (after_card ws n k old).list
  pub names : told ≡ names_laid (after_card ws n k old).names row
  pub where_bad : fault ≡ fault_laid (after_card ws n k old).given was

-- any two outcomes that this permits are equal
abbrev pub ToldCardOnce : Type 0
ToldCardOnce = (ws : Words) (n k : ℤ) (old new new' row told told' : List ℕ) (was fault fault' : List ℤ) (r r' : ℕ)
    → ToldCard ws n k old new row told was fault r → ToldCard ws n k old new' row told' was fault' r'
    → (new ≡ new') × (told ≡ told') × (fault ≡ fault') × (r ≡ r')

-- each number has the next stretch of sixteen places, which is left as its card leaves a list; where no whole stretch is left, or no number, the row stays
abbrev pub cards_over : Words → ℤ → List ℤ → List ℕ → List ℕ
cards_over ws k [] row = row
cards_over ws k (n ∷ ns) row = cond (ltb (length row) 16) row ((after_card ws n k (take 16 row)).list ++ cards_over ws k ns (drop 16 row))

-- the row after the call: if the table check refuses, it stays
unfoldable pub cards_after : Words → ℤ → List ℤ → List ℕ → List ℕ
cards_after ws k ns row = if_done (check_gives ws) (cards_over ws k ns row) row
