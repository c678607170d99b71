-- 01: "Output, no header: line number from 1, letter (? for 11), number given back;
-- after a granted Q also n, m, o and the n point numbers. Fields are parted by tabs."
-- 02 §1: after a granted K also how many names, then the numbers in card order.
use Rattle.std.specs.Prelude.{ℕ, zero, suc, ◌+◌, ◌/◌, ◌%◌, cond, List, [], ◌∷◌, ◌++◌, map, ◌≡◌, ltb, length, take, drop}
use Rattle.sheet.specs.Bytes.{Bytes, TAB, FEED}
use Rattle.jobs.specs.declared.job.Job.{Job}
use Rattle.jobs.specs.declared.job.Job.TheVariants.{Enrol, Withdraw, Query, Card, MissingK, Misshapen}
use Rattle.jobs.specs.Job.{ENROL, WITHDRAW, QUERY, CARD}

-- a number in decimal digits, of which so many are enough
abbrev pub decimal_in : ℕ → ℕ → Bytes
decimal_in zero n = []
decimal_in (suc places) n = cond (ltb n 10) ((48 + n) ∷ []) (decimal_in places (n / 10) ++ (48 + n % 10) ∷ [])

-- twenty places are enough for any 64 bits
unfoldable pub decimal : ℕ → Bytes
decimal n = decimal_in 20 n

-- the letter of a job: ? for a misshapen line
abbrev pub letter_of : Job → ℕ
letter_of (Enrol n a b) = ENROL
letter_of (Withdraw n) = WITHDRAW
letter_of (Query a b k) = QUERY
letter_of (Card n k) = CARD
letter_of (MissingK letter) = letter
letter_of Misshapen = 63

-- further fields, each after a tab
abbrev pub tabbed : List Bytes → Bytes
tabbed [] = []
tabbed (f ∷ fs) = TAB ∷ f ++ tabbed fs

-- line number, letter, number given back
unfoldable pub head_of : ℕ → ℕ → ℕ → Bytes
head_of number letter given = decimal number ++ tabbed ((letter ∷ []) ∷ decimal given ∷ [])

-- the head, then the further numbers; a line feed at the end
unfoldable pub output_line : ℕ → ℕ → ℕ → List ℕ → Bytes
output_line number letter given more = head_of number letter given ++ (tabbed (map decimal more) ++ FEED ∷ [])

-- `bytes` stand in `out` from `at` on, and everything else is as it was
unfoldable pub laid_at : Bytes → ℕ → Bytes → Bytes
laid_at out at bytes = take at out ++ (bytes ++ drop (at + length bytes) out)

-- what a function that lays bytes leaves behind, and the place behind them that it gives back
pub record Laid (out : Bytes) (at : ℕ) (bytes : Bytes) (left : Bytes) (next : ℕ) : Type 0 where
  pub laid : left ≡ laid_at out at bytes
  pub behind : next ≡ at + length bytes
