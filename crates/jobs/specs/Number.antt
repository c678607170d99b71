-- 01: "A field is a number or it is not: an optional minus, then 1 to 7 digits, no leading zero except in 0 itself, no −0."
use Rattle.std.specs.Prelude.{ℕ, ◌+◌, ◌-◌, ◌*◌, Bool, false, cond, not, ◌&&◌, ◌||◌, Option, Some, None, [], ◌∷◌, eqb, ℤ, pos, neg_ℤ, length}
use Rattle.order.specs.Lists.{every}
use Rattle.table.specs.Words.{between}
use Rattle.sheet.specs.Bytes.{Bytes}

abbrev pub MINUS : ℕ
MINUS = 45

abbrev pub ZERO : ℕ
ZERO = 48

-- from 0 to 9
abbrev pub is_digit : ℕ → Bool
is_digit b = between 48 57 b

-- the first byte is the digit 0
abbrev pub starts_with_zero : Bytes → Bool
starts_with_zero [] = false
starts_with_zero (b ∷ bs) = eqb b ZERO

-- 1 to 7 digits
abbrev pub are_digits : Bytes → Bool
are_digits bs = between 1 7 (length bs) && every is_digit bs

-- no leading zero except in 0 itself
unfoldable pub is_plain : Bytes → Bool
is_plain bs = are_digits bs && (eqb (length bs) 1 || not (starts_with_zero bs))

-- what the digits say, after digits that say n
abbrev pub value_from : ℕ → Bytes → ℕ
value_from n [] = n
value_from n (b ∷ bs) = value_from (10 * n + (b - ZERO)) bs

abbrev pub value_of : Bytes → ℕ
value_of bs = value_from 0 bs

abbrev pub plain_number : Bytes → Option ℤ
plain_number bs = cond (is_plain bs) (Some (pos (value_of bs))) None

-- no −0
abbrev pub negative_number : Bytes → Option ℤ
negative_number bs = cond (is_plain bs && not (starts_with_zero bs)) (Some (neg_ℤ (pos (value_of bs)))) None

abbrev pub number_in : Bytes → Option ℤ
number_in [] = None
number_in (b ∷ bs) = cond (eqb b MINUS) (negative_number bs) (plain_number (b ∷ bs))

-- what a field says
unfoldable pub read_number : Bytes → Option ℤ
read_number field = number_in field
