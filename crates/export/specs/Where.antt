-- 02 §4, where a table is bad, for C and Rust programs: the rule and the slot go to a lent row.
use Rattle.std.specs.Prelude.{List, [], ◌∷◌, ℤ, pos}
use Rattle.table.specs.Given.{Given, rule_given, slot_given}
use Rattle.export.specs.Front.{front_laid}

-- the rule and the slot, for a row of two places
abbrev pub fault_laid : Given → List ℤ → List ℤ
fault_laid g row = front_laid (pos (rule_given g) ∷ slot_given g ∷ []) row
