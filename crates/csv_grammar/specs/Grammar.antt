-- RFC 4180, section 2, strictly:
--    record = field *(COMMA field)
--    field = (escaped / non-escaped)
--    escaped = DQUOTE *(TEXTDATA / COMMA / CR / LF / 2DQUOTE) DQUOTE
--    non-escaped = *TEXTDATA
--    TEXTDATA =  %x20-21 / %x23-2B / %x2D-7E
-- A record's fields are cut first (specs/Cuts of cuts). That what stands here is this grammar is the theorem in Written.
use Rattle.std.specs.Prelude.{ℕ, Bool, true, false, cond, ◌&&◌, ◌||◌, List, [], ◌∷◌, map, eqb, leb}
use Rattle.order.specs.Lists.{every}
use Rattle.sheet.specs.Bytes.{Bytes, FEED}
use Rattle.cuts.specs.declared.parts.Mark.TheVariants.{Comma}
use Rattle.cuts.specs.Cuts.{QUOTE, COMMA, RETURN, parts_of}

abbrev pub is_quote : ℕ → Bool
is_quote b = eqb b QUOTE

abbrev pub from_to : ℕ → ℕ → ℕ → Bool
from_to low high b = leb low b && leb b high

-- TEXTDATA: %x20-21, %x23-2B, %x2D-7E
unfoldable pub is_text : ℕ → Bool
is_text b = from_to 32 33 b || (from_to 35 43 b || from_to 45 126 b)

-- what may stand between quote marks beside two quote marks: TEXTDATA, COMMA, CR, LF
unfoldable pub is_inside : ℕ → Bool
is_inside b = is_text b || (eqb b COMMA || (eqb b RETURN || eqb b FEED))

-- from behind the first quote mark: such bytes, or quote marks two by two, then one quote mark and nothing more
abbrev pub closes : Bytes → Bool
closes [] = false
closes (b ∷ []) = is_quote b
closes (b ∷ c ∷ bs) = cond (is_quote b) (is_quote c && closes bs) (is_inside b && closes (c ∷ bs))

-- escaped, or non-escaped
unfoldable pub is_field : Bytes → Bool
is_field [] = true
is_field (b ∷ bs) = cond (is_quote b) (closes bs) (every is_text (b ∷ bs))

-- from behind the first quote mark: what the field says, two quote marks read as one, the last one left out
abbrev pub inside : Bytes → Bytes
inside [] = []
inside (b ∷ []) = []
inside (b ∷ c ∷ bs) = b ∷ cond (is_quote b) (inside bs) (inside (c ∷ bs))

-- what a sound field says
unfoldable pub unquoted : Bytes → Bytes
unquoted [] = []
unquoted (b ∷ bs) = cond (is_quote b) (inside bs) (b ∷ bs)

-- a record keeps the grammar if each of its fields does
unfoldable pub is_record : Bytes → Bool
is_record item = every is_field (parts_of Comma item)

-- its fields, unquoted
unfoldable pub said_by : Bytes → List Bytes
said_by item = map unquoted (parts_of Comma item)
