-- What a call tells beside its number goes to the front of a lent row.
use Rattle.std.specs.Prelude.{cond, List, ltb, length}
use Rattle.filter.specs.Query.{laid_over}

-- values laid over the front of a lent row; a row of fewer places gets nothing
abbrev pub front_laid : {A : Type 0} → List A → List A → List A
front_laid values row = cond (ltb (length row) (length values)) row (laid_over values row)
