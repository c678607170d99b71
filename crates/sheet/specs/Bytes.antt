-- 01, "The job sheet": lines end with a line feed, fields are parted by tabs.
use Rattle.std.specs.Prelude.{ℕ, cond, List, [], ◌∷◌, eqb}

abbrev pub Bytes : Type 0
Bytes = List ℕ

abbrev pub TAB : ℕ
TAB = 9

abbrev pub FEED : ℕ
FEED = 10

-- 01: no sheet has more bytes; 02 §5: nor has a station list
abbrev pub LONGEST : ℕ
LONGEST = 65536

-- a byte in front of the first part
abbrev pub in_front : ℕ → List Bytes → List Bytes
in_front b [] = (b ∷ []) ∷ []
in_front b (p ∷ ps) = (b ∷ p) ∷ ps

-- the parts between the bytes that part them: one more than there are of those
abbrev pub parted_by : ℕ → Bytes → List Bytes
parted_by mark [] = [] ∷ []
parted_by mark (b ∷ bs) = cond (eqb b mark) ([] ∷ parted_by mark bs) (in_front b (parted_by mark bs))

-- without a last part that is empty
abbrev pub without_empty_end : List Bytes → List Bytes
without_empty_end [] = []
without_empty_end ([] ∷ []) = []
without_empty_end ((b ∷ bs) ∷ []) = (b ∷ bs) ∷ []
without_empty_end (p ∷ q ∷ ps) = p ∷ without_empty_end (q ∷ ps)

-- the last line may lack its line feed; a line feed at the end opens no further line
unfoldable pub lines_of : Bytes → List Bytes
lines_of sheet = without_empty_end (parted_by FEED sheet)

-- a field is a stretch of the line between two tabs
unfoldable pub fields_of : Bytes → List Bytes
fields_of line = parted_by TAB line
