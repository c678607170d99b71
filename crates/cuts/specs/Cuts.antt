-- 02 §5: "A record ends at the first CR LF that has an even number of quote marks before it in that record, or at the end of the file.
-- An empty file gives nothing; a CR LF at the file's end opens no record."
-- RFC 4180 parts the fields of a record by commas, and lets a comma stand inside quotes: so a field ends by the same rule, at a comma.
use Rattle.std.specs.Prelude.{ℕ, zero, suc, ◌+◌, ◌%◌, Bool, false, cond, ◌&&◌, List, [], ◌∷◌, eqb, ltb, length, take, drop}
use Rattle.order.specs.Lists.{count, first_place}
use Rattle.order.specs.Order.{up_from}
use Rattle.sheet.specs.Bytes.{Bytes, FEED, without_empty_end}
use Rattle.cuts.specs.declared.parts.Mark.{Mark}
use Rattle.cuts.specs.declared.parts.Mark.TheVariants.{LineEnd, Comma}

abbrev pub QUOTE : ℕ
QUOTE = 34

abbrev pub COMMA : ℕ
COMMA = 44

abbrev pub RETURN : ℕ
RETURN = 13

-- the bytes start with the mark: a CR LF, or a comma
abbrev pub marked : Mark → Bytes → Bool
marked LineEnd [] = false
marked LineEnd (b ∷ []) = false
marked LineEnd (b ∷ c ∷ bs) = eqb b RETURN && eqb c FEED
marked Comma [] = false
marked Comma (b ∷ bs) = eqb b COMMA

-- how many bytes a mark is
abbrev pub width : Mark → ℕ
width LineEnd = 2
width Comma = 1

abbrev pub quote_marks : Bytes → ℕ
quote_marks bs = count (λ b. eqb b QUOTE) bs

abbrev pub is_even : ℕ → Bool
is_even n = eqb (n % 2) 0

-- a mark stands at a place, with an even number of quote marks before it
abbrev pub cut_at : Mark → Bytes → ℕ → Bool
cut_at mark bs i = marked mark (drop i bs) && is_even (quote_marks (take i bs))

-- how many bytes stand before the first such place; all of them if there is none
unfoldable pub end_of : Mark → Bytes → ℕ
end_of mark bs = first_place (cut_at mark bs) (up_from 0 (length bs))

-- the parts up to such places, at most n of them and what is left
abbrev pub parts_in : ℕ → Mark → Bytes → List Bytes
parts_in zero mark bs = bs ∷ []
parts_in (suc n) mark bs =
    cond (ltb (end_of mark bs) (length bs))
    (take (end_of mark bs) bs ∷ parts_in n mark (drop (end_of mark bs + width mark) bs))
    (bs ∷ [])

-- all of them: there are no more marks than bytes
unfoldable pub parts_of : Mark → Bytes → List Bytes
parts_of mark bs = parts_in (length bs) mark bs

-- the records of a file
unfoldable pub records_of : Bytes → List Bytes
records_of file = without_empty_end (parts_of LineEnd file)
