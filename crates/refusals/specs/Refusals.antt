-- 01, "Numbers given back", and 02: when each line holds, and the order in which each call checks them. Lines 1 and 2, of the table itself, and the check's order stand with the check; lines 3, 4 and 5, of what is asked alone, in limits.
use Rattle.std.specs.Prelude.{ℕ, Bool, not, List, [], ◌∷◌, map, leb, ltb, ℤ, length}
use Rattle.words.specs.Word.{nat_of}
use Rattle.grid.specs.declared.site.Site.{Site}
use Rattle.order.specs.Lists.{has}
use Rattle.figures.specs.Figures.{MOST}
use Rattle.table.specs.Words.{Words, points_of}
use Rattle.table.specs.Stations.{stations}
use Rattle.table.specs.Given.{Given, Line, line, first_of}
use Rattle.limits.specs.Limits.{no_such_number, off_grid, no_such_k}
use Rattle.audit.specs.Check.{wrong_length, malformed, bad_at}
use Rattle.filter.specs.Query.{answers_found}
use Rattle.card.specs.Card.{names_for}
use Rattle.table.specs.declared.given.Refusal.TheVariants.{
  WrongLength,
  NoSuchNumber,
  OffGrid,
  NoSuchK,
  AlreadyEnrolled,
  Full,
  NotEnrolled,
  FewCandidates,
  ShortList,
}

-- ---- the lines

-- the numbers that are enrolled
abbrev pub numbers_of : Words → List ℕ
numbers_of ws = map (λ p. p.number) (stations ws)

-- 6: point already enrolled
abbrev pub is_enrolled : Words → ℤ → Bool
is_enrolled ws n = has (nat_of n) (numbers_of ws)

-- 7: 500 points enrolled
abbrev pub is_full : Words → Bool
is_full ws = leb MOST (points_of ws)

-- ---- the order

-- enrol checks 1, 2, 3, 4, 6, 7
abbrev pub enrol_lines : Words → ℤ → Site → List Line
enrol_lines ws n p =
    line (wrong_length ws) WrongLength
    ∷ line (malformed ws) (bad_at ws)
    ∷ line (no_such_number n) NoSuchNumber
    ∷ line (off_grid p) OffGrid
    ∷ line (is_enrolled ws n) AlreadyEnrolled
    ∷ line (is_full ws) Full
    ∷ []

unfoldable pub enrol_gives : Words → ℤ → Site → Given
enrol_gives ws n p = first_of (enrol_lines ws n p)

-- withdraw 1, 2, 3, 8
abbrev pub withdraw_lines : Words → ℤ → List Line
withdraw_lines ws n =
    line (wrong_length ws) WrongLength
    ∷ line (malformed ws) (bad_at ws)
    ∷ line (no_such_number n) NoSuchNumber
    ∷ line (not (is_enrolled ws n)) NotEnrolled
    ∷ []

unfoldable pub withdraw_gives : Words → ℤ → Given
withdraw_gives ws n = first_of (withdraw_lines ws n)

-- query 1, 2, 4, 5, 9, 10, with room for so many candidates and so many answers
abbrev pub query_lines : Words → Site → ℤ → ℕ → ℕ → List Line
query_lines ws q k candidates answers =
    line (wrong_length ws) WrongLength
    ∷ line (malformed ws) (bad_at ws)
    ∷ line (off_grid q) OffGrid
    ∷ line (no_such_k k) NoSuchK
    ∷ line (ltb candidates (points_of ws)) FewCandidates
    ∷ line (ltb answers (length (answers_found ws q (nat_of k)))) ShortList
    ∷ []

unfoldable pub query_gives : Words → Site → ℤ → ℕ → ℕ → Given
query_gives ws q k candidates answers = first_of (query_lines ws q k candidates answers)

-- card 1, 2, 3, 5, 8, and 10 if the list, of so many places, is shorter than the card
abbrev pub card_lines : Words → ℤ → ℤ → ℕ → List Line
card_lines ws n k places =
    line (wrong_length ws) WrongLength
    ∷ line (malformed ws) (bad_at ws)
    ∷ line (no_such_number n) NoSuchNumber
    ∷ line (no_such_k k) NoSuchK
    ∷ line (not (is_enrolled ws n)) NotEnrolled
    ∷ line (ltb places (length (names_for (stations ws) (nat_of n) (nat_of k)))) ShortList
    ∷ []

unfoldable pub card_gives : Words → ℤ → ℤ → ℕ → Given
card_gives ws n k places = first_of (card_lines ws n k places)
