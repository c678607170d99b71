-- The grammar of RFC 4180 as it writes: which bytes a record is that says certain fields. It knows nothing of cutting or reading.
use Rattle.std.specs.Prelude.{ℕ, ◌≡◌, ◌⊎◌, true, cond, ◌||◌, List, [], ◌∷◌, ◌++◌}
use Rattle.order.specs.Lists.{every, join}
use Rattle.sheet.specs.Bytes.{Bytes}
use Rattle.cuts.specs.Cuts.{QUOTE, COMMA}
use Rattle.csv_grammar.specs.Grammar.{is_quote, is_text, is_inside, is_record, said_by}

-- non-escaped = *TEXTDATA: it says what it is
abbrev pub NonEscaped : Bytes → Bytes → Type 0
NonEscaped field says = (field ≡ says) × (every is_text says ≡ true)

-- two quote marks for one
abbrev pub doubled : ℕ → Bytes
doubled b = cond (is_quote b) (QUOTE ∷ QUOTE ∷ []) (b ∷ [])

-- escaped = DQUOTE *(TEXTDATA / COMMA / CR / LF / 2DQUOTE) DQUOTE
abbrev pub Escaped : Bytes → Bytes → Type 0
Escaped field says = (field ≡ QUOTE ∷ (join doubled says ++ QUOTE ∷ [])) × (every (λ b. is_quote b || is_inside b) says ≡ true)

-- field = (escaped / non-escaped)
abbrev pub Field : Bytes → Bytes → Type 0
Field field says = Escaped field says ⊎ NonEscaped field says

-- each of a row of fields says what stands at its place in another row
abbrev pub Fields : List Bytes → List Bytes → Type 0
Fields [] [] = Unit
Fields [] (s ∷ ss) = ⊥
Fields (f ∷ fs) [] = ⊥
Fields (f ∷ fs) (s ∷ ss) = Field f s × Fields fs ss

-- *(COMMA field)
abbrev pub after_commas : List Bytes → Bytes
after_commas [] = []
after_commas (f ∷ fs) = COMMA ∷ f ++ after_commas fs

-- record = field *(COMMA field)
pub record Record (item : Bytes) (says : List Bytes) : Type 0 where
  pub first : Bytes
  pub others : List Bytes
  pub written : item ≡ first ++ after_commas others
  pub fields : Fields (first ∷ others) says

-- a record keeps the grammar exactly if it is written so, and then its fields are those that were written
pub record ByTheGrammar : Type 0 where
  pub sound : (item : Bytes) → is_record item ≡ true → Record item (said_by item)
  pub whole : (item : Bytes) (says : List Bytes) → Record item says → (is_record item ≡ true) × (said_by item ≡ says)
