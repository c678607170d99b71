-- What a card is refused with for its number and its k alone.
use Rattle.std.specs.Prelude.{[], ◌∷◌, ℤ}
use Rattle.table.specs.declared.given.Refusal.TheVariants.{NoSuchNumber, NoSuchK}
use Rattle.table.specs.Given.{Given, line, first_of}
use Rattle.limits.specs.Limits.{no_such_number, no_such_k}

-- 3, 5
abbrev pub card_asked : ℤ → ℤ → Given
card_asked n k = first_of (line (no_such_number n) NoSuchNumber ∷ line (no_such_k k) NoSuchK ∷ [])
