-- 01, "Numbers given back", lines 1 and 2, and 02 §4: what the table check gives.
use Rattle.std.specs.Prelude.{Bool, not, List, [], ◌∷◌, eqb, length}
use Rattle.table.specs.declared.given.Refusal.{Refusal}
use Rattle.table.specs.declared.given.Refusal.TheVariants.{WrongLength, NotWellFormed}
use Rattle.table.specs.Given.{Given, Line, line, first_of}
use Rattle.figures.specs.Figures.{LENGTH}
use Rattle.table.specs.Words.{Words}
use Rattle.rules.specs.Rules.{well_formed}
use Rattle.rules.specs.Broken.{fault_of}

-- 1: table not 10,754 words
abbrev pub wrong_length : Words → Bool
wrong_length ws = not (eqb (length ws) LENGTH)

-- 2: table not well formed
abbrev pub malformed : Words → Bool
malformed ws = not (well_formed ws)

-- and what is then given: the lowest-numbered rule that is broken, and the lowest slot where it is
abbrev pub bad_at : Words → Refusal
bad_at ws = NotWellFormed (fault_of ws).rule (fault_of ws).slot

-- table check 1, 2
abbrev pub check_lines : Words → List Line
check_lines ws = line (wrong_length ws) WrongLength ∷ line (malformed ws) (bad_at ws) ∷ []

unfoldable pub check_gives : Words → Given
check_gives ws = first_of (check_lines ws)
